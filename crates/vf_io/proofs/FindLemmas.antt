-- The first file with a name, in a list of named files.
use Rattle.std.proofs.Common.{◌≡◌, ℕ, zero, suc, ◌+◌, ◌++◌, ◌-◌, ◌^◌, ◌≤◌, length-drop, ◌<◌, List, [], ◌∷◌, Bool, true, false, cond, Option, Some, None, IfSome, Result, Ok, Err, IfOk, is_none, unwrap_or, take, drop, min, length, arith, refl, sym, ap, ◌∙◌, add-one}
use Rattle.std.specs.Ordering.{nat_cmp, eq_by_cmp}
use Rattle.std.specs.Cmp.Lexicographic.{slice_cmp}
use Rattle.std.specs.List.{slice_get}
use Rattle.std.specs.FinMap.{find}
use Rattle.std.specs.Str.{bytes_eq}
use Rattle.std.specs.Cmp.Lexicographic.{same_text}
use Rattle.std.proofs.lemmas.Bool.{false_from_ne_true}
use Rattle.std.proofs.lemmas.Map.Text.{is_eq-slice_cmp}
use Rattle.std.proofs.lemmas.Slice.Eq.{bytes_eq-Decides}
use Rattle.std.proofs.lemmas.List.{drop-drop, nil_from_length, take-append-le}
use Rattle.std.proofs.lemmas.Option.{slice_get-get_or}
use Rattle.std.specs.FinMap as finite
use Rattle.std.proofs.lemmas.Cmp.{nat_list_cmp_total}
use Rattle.vf_io.specs.Files.{bytes_of}
use Rattle.vf_io.specs.Memory.{FileList, contents_at, IsPlaceOf, is_absent}
use Rattle.vf_io.specs.Reading.{TakesBytes}

-- where a front of a choice is none, the test failed and the rest is none
none_parts : (b : Bool) (x : List ℕ) (later : Option (List ℕ)) → cond b (Some x) later ≡ None → (b ≡ false) × (later ≡ None)
none_parts true x later none = absurd (cc)
none_parts false x later none = (refl, none)

-- the files before a place have other names, and the one at the place has the name
pub find-at : (files : FileList) (place : ℕ) (name : List ℕ) (file : List ℕ × List ℕ) → find (slice_cmp nat_cmp) name (take place files) ≡ None → slice_get files place ≡ Some file → eq_by_cmp (slice_cmp nat_cmp) name file.0 ≡ true → find (slice_cmp nat_cmp) name files ≡ Some file.1
find-at [] place name file none here same = absurd (cc)
find-at (first ∷ files) zero name file none here same =
    let is : first ≡ file = cc in rw is (rw same refl)
find-at (first ∷ files) (suc place) name file none here same =
    let parts = none_parts (eq_by_cmp (slice_cmp nat_cmp) name first.0) first.1 (find (slice_cmp nat_cmp) name (take place files)) none in rw parts.0 (find-at files place name file parts.1 here same)

-- one more file with another name
pub find-more : (files : FileList) (place : ℕ) (name : List ℕ) (file : List ℕ × List ℕ) → find (slice_cmp nat_cmp) name (take place files) ≡ None → slice_get files place ≡ Some file → eq_by_cmp (slice_cmp nat_cmp) name file.0 ≡ false → find (slice_cmp nat_cmp) name (take (place + 1) files) ≡ None
find-more [] place name file none here other = absurd (cc)
find-more (first ∷ files) zero name file none here other =
    let is : first ≡ file = cc in rw is (rw other refl)
find-more (first ∷ files) (suc place) name file none here other =
    let parts = none_parts (eq_by_cmp (slice_cmp nat_cmp) name first.0) first.1 (find (slice_cmp nat_cmp) name (take place files)) none in rw (add-one (suc place), parts.0) (let later = find-more files place name file parts.1 here other in rw (add-one place) at later)

-- a test of two names, as `==` makes it, and as a finite map makes it
pub same_name-is : (a b : List ℕ) (r : Bool) → r ≡ bytes_eq a b → eq_by_cmp (slice_cmp nat_cmp) b a ≡ r
same_name-is a b true same =
    let is : a ≡ b = same_text a b same in
    is_eq-slice_cmp b a ∙ (bytes_eq-Decides b a).1 (sym is)
same_name-is a b false other =
    is_eq-slice_cmp b a ∙ false_from_ne_true (bytes_eq b a) (λ same. let is : b ≡ a = (bytes_eq-Decides b a).0 same in let yes : bytes_eq a b ≡ true = (bytes_eq-Decides a b).1 (sym is) in cc)

-- taking a front that is as long as the buffer and the bytes allow
pub TakesBytes-front : (told : List ℕ) (new : Option (List ℕ)) (buffer : List ℕ) (room n : ℕ) → 0 < room → n ≡ min room (length told) → take n buffer ≡ take n told → new ≡ Some (drop n told) → TakesBytes told new buffer n
TakesBytes-front told new buffer room n some count front rest = record {
  front = front;
  within = omega arith;
  rest = rest;
  at_end = (λ none. nil_from_length told (omega arith), λ none. omega (arith, ap length none));
}

-- the bytes at the place of a name are those of the name
pub contents_at-place : (files : FileList) (name : List ℕ) (place : ℕ) → IsPlaceOf files name place → contents_at files place ≡ bytes_of (finite.from_entries files) name
contents_at-place files name place is = ap (λ o. unwrap_or o []) (sym is.first ∙ sym (finite.get-from_entries nat_list_cmp_total files name))

-- what is left after more bytes, where those are no more than there are
drop-later : (contents : List ℕ) (taken count later : ℕ) → taken < 2 ^ 64 → length contents < 2 ^ 64 → count ≤ length contents - taken → later ≡ min (taken + count) (2 ^ 64 - 1) → drop later contents ≡ drop count (drop taken contents)
drop-later contents taken count later small short within sum =
    let plain : later ≡ taken + count = omega arith in
    ap (λ n. drop n contents) plain ∙ sym (drop-drop count taken contents)

-- one read of a file of which `taken` bytes were taken
pub TakesBytes-next : (contents buffer : List ℕ) (taken later count room : ℕ) → 0 < room → taken < 2 ^ 64 → length contents < 2 ^ 64 → count ≡ min room (length (drop taken contents)) → later ≡ min (taken + count) (2 ^ 64 - 1) → take count buffer ≡ take count (drop taken contents) → TakesBytes (drop taken contents) (Some (drop later contents)) buffer count
TakesBytes-next contents buffer taken later count room some small short is sum front =
    let len : length (drop taken contents) ≡ length contents - taken = length-drop taken contents in
    let rest : drop later contents ≡ drop count (drop taken contents) = drop-later contents taken count later small short (omega arith) sum in
    TakesBytes-front (drop taken contents) (Some (drop later contents)) buffer room count some is front (ap Some rest)

-- a name that has a place isn't absent
pub is_absent-place : (files : FileList) (name : List ℕ) (place : ℕ) → IsPlaceOf files name place → is_absent files name ≡ false
is_absent-place files name place is = rw (is.first, slice_get-get_or files place ([], []) is.within) refl

-- a read into the front of a longer buffer
pub TakesBytes-longer : (told : List ℕ) (new : Option (List ℕ)) (front more : List ℕ) (n : ℕ) → n ≤ length front → TakesBytes told new front n → TakesBytes told new (front ++ more) n
TakesBytes-longer told new front more n within read = record {
  front = take-append-le n front more within ∙ read.front;
  within = read.within;
  rest = read.rest;
  at_end = read.at_end;
}

-- the same where the answer may be a failure, and what is unread may not be known
pub IfOk-longer : {E : Type 0} (result : Result ℕ E) (old new : Option (List ℕ)) (front more : List ℕ) → IfOk result (λ n. n ≤ length front) → IfOk result (λ n. IfSome old (λ told. TakesBytes told new front n)) → IfOk result (λ n. IfSome old (λ told. TakesBytes told new (front ++ more) n))
IfOk-longer (Err end) old new front more within read = tt
IfOk-longer (Ok n) None new front more within read = tt
IfOk-longer (Ok n) (Some told) new front more within read = TakesBytes-longer told new front more n within read

-- what isn't there gives no bytes
unwrap_or-absent : (o : Option (List ℕ)) → is_none o ≡ true → unwrap_or o [] ≡ []
unwrap_or-absent None absent = refl
unwrap_or-absent (Some bytes) absent = absurd (cc)

-- an absent name has no bytes
pub bytes_of-absent : (files : FileList) (name : List ℕ) → is_absent files name ≡ true → bytes_of (finite.from_entries files) name ≡ []
bytes_of-absent files name absent = ap (λ o. unwrap_or o []) (finite.get-from_entries nat_list_cmp_total files name) ∙ unwrap_or-absent (find (slice_cmp nat_cmp) name files) absent
