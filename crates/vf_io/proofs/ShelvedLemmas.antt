-- What a shelf in memory shows after a read.
use Rattle.std.proofs.Common.{◌≡◌, ℕ, ◌+◌, ◌-◌, ◌^◌, ◌<◌, ◌||◌, List, [], Some, IfSome, Result, Ok, Err, OnOk, is_err, true, false, String, Vec, min, take, drop, length, refl, sym, ap, ◌∙◌, subst}
use Rattle.std.specs.Global.{Global}
use Rattle.std.specs.FinMap as finite
use Rattle.vf_io.specs.Files.{bytes_of}
use Rattle.vf_io.specs.Memory.{contents_at, fails_now, is_absent, raised, IsPlaceOf}
use Rattle.vf_io.specs.Reading.{TakesBytes}
use Rattle.vf_io.specs.Shelved.{unread_bytes, failing_calls, fails_next, file_list, listed_files}
use Rattle.vf_io.specs.Sure.{unread_or_none}
use Rattle.vf_io.specs.declared.memory_shelf.MemShelf.{MemShelf}
use Rattle.vf_io.proofs.FindLemmas.{TakesBytes-next, bytes_of-absent, contents_at-place}

-- the read of an open file, whose bytes and whose unread part are these
pub unread_bytes-next : (old new : MemShelf) (contents unread buffer : List ℕ) (count room : ℕ)
    → old.is_open ≡ true → new ≡ record old { taken = min (old.taken + count) (2 ^ 64 - 1) }
    → contents ≡ contents_at (file_list old) old.file → unread ≡ drop old.taken contents
    → 0 < room → old.taken < 2 ^ 64 → length contents < 2 ^ 64 → count ≡ min room (length unread) → take count buffer ≡ take count unread
    → IfSome (unread_bytes old) (λ told. TakesBytes told (unread_bytes new) buffer count)
unread_bytes-next old new contents unread buffer count room opened moved bytes left some small short is front =
    let later = min (old.taken + count) (2 ^ 64 - 1) in
    let length_is : count ≡ min room (length (drop old.taken contents)) = is ∙ ap (λ u. min room (length u)) left in
    let front_is : take count buffer ≡ take count (drop old.taken contents) = front ∙ ap (λ u. take count u) left in
    let here = TakesBytes-next contents buffer old.taken later count room some small short length_is refl front_is in
    let there : TakesBytes (drop old.taken (contents_at (file_list old) old.file)) (Some (drop later (contents_at (file_list old) old.file))) buffer count = subst (λ (b : List ℕ). TakesBytes (drop old.taken b) (Some (drop later b)) buffer count) bytes here in
    rw (moved, opened) there

-- the place of the name in the files, as the shelf kept them while it counted the call
pub IsPlaceOf-counted : (old mid : MemShelf) (files : List (String Global × Vec ℕ Global)) (name : List ℕ) (file : ℕ)
    → mid ≡ record old { calls = raised old.calls } → files ≡ mid.files.items → IsPlaceOf (listed_files files) name file → IsPlaceOf (file_list old) name file
IsPlaceOf-counted old mid files name file counted is place =
    let same : listed_files files ≡ file_list old = ap listed_files is ∙ ap file_list counted in
    subst (λ (fs : List (List ℕ × List ℕ)). IsPlaceOf fs name file) same place

-- the file at the place of the name was opened just now
pub unread_bytes-opened : (old mid new : MemShelf) (name : List ℕ) (file : ℕ)
    → mid ≡ record old { calls = raised old.calls } → new ≡ record mid { is_open = true; file = file; taken = 0 } → IsPlaceOf (file_list old) name file
    → unread_bytes new ≡ Some (bytes_of (finite.from_entries (file_list old)) name)
unread_bytes-opened old mid new name file counted opened place = rw (opened, counted) (ap Some (contents_at-place (file_list old) name file place))

-- a shelf that no call fails by its number opens a name, or has no file of it
pub unread_or_none-opened : {T E : Type 0} (old new : MemShelf) (name : List ℕ) (result : Result T E)
    → failing_calls old ≡ [] → is_err result ≡ (fails_next old || is_absent (file_list old) name)
    → OnOk result (unread_bytes new ≡ Some (bytes_of (finite.from_entries (file_list old)) name))
    → unread_or_none (is_err result) new ≡ Some (bytes_of (finite.from_entries (file_list old)) name)
unread_or_none-opened old new name (Ok value) sure failed opened = opened
unread_or_none-opened old new name (Err end) sure failed opened =
    let calm : fails_next old ≡ false = ap (λ numbers. fails_now numbers old.calls) sure in
    let absent : is_absent (file_list old) name ≡ true = sym (failed ∙ ap (λ b. b || is_absent (file_list old) name) calm) in
    ap Some (sym (bytes_of-absent (file_list old) name absent))
