-- What was read of a file so far, where one more read takes bytes, or finds that none are left.
use Rattle.std.proofs.Common.{◌≡◌, ◌↔◌, ℕ, ◌+◌, ◌<◌, ◌++◌, take, drop, length, List, [], Option, Some, None, IfSome, sym, ap, ◌∙◌, append_assoc, arith, length-append}
use Rattle.std.proofs.lemmas.List.{append-nil, take-append-drop}
use Rattle.vf_io.specs.Reading.{TakesBytes}
use Rattle.vf_io.proofs.WholeLemmas.{HasRead}

-- a read that took nothing found that the bytes are whole
pub HasRead-whole : (before now new : Option (List ℕ)) (read buffer : List ℕ) (n : ℕ) → n ≡ 0 → HasRead before read now → IfSome now (λ told. TakesBytes told new buffer n) → IfSome before (λ told. read ≡ told)
HasRead-whole None now new read buffer n none so_far takes = tt
HasRead-whole (Some told) None new read buffer n none so_far takes = absurd (let is = so_far.1 in cc)
HasRead-whole (Some told) (Some unread) new read buffer n none so_far takes =
    let is = so_far.1 in
    let left : so_far.0 ≡ [] = let empty : unread ≡ [] = takes.at_end.0 none in cc in
    sym (append-nil read) ∙ ap (λ more. read ++ more) (sym left) ∙ so_far.2

-- and that nothing is left
pub HasRead-ended : (before now new : Option (List ℕ)) (read buffer : List ℕ) (n : ℕ) → n ≡ 0 → HasRead before read now → IfSome now (λ told. TakesBytes told new buffer n) → IfSome before (λ _. new ≡ Some [])
HasRead-ended None now new read buffer n none so_far takes = tt
HasRead-ended (Some told) None new read buffer n none so_far takes = absurd (let is = so_far.1 in cc)
HasRead-ended (Some told) (Some unread) new read buffer n none so_far takes =
    takes.rest ∙ ap (λ k. Some (drop k unread)) none ∙ ap Some (takes.at_end.0 none)

-- a read that took bytes, which come after what was read
pub HasRead-more : (before now new : Option (List ℕ)) (read buffer : List ℕ) (n : ℕ) → HasRead before read now → IfSome now (λ told. TakesBytes told new buffer n) → HasRead before (read ++ take n buffer) new
HasRead-more None now new read buffer n so_far takes = tt
HasRead-more (Some told) None new read buffer n so_far takes = absurd (let is = so_far.1 in cc)
HasRead-more (Some told) (Some unread) new read buffer n so_far takes =
    let is = so_far.1 in
    let left : so_far.0 ≡ unread = cc in
    (drop n unread, takes.rest, append_assoc read (take n buffer) (drop n unread) ∙ ap (λ more. read ++ more) (ap (λ front. front ++ drop n unread) takes.front ∙ take-append-drop n unread) ∙ ap (λ more. read ++ more) (sym left) ∙ so_far.2)

-- a read past the limit shows that the file is longer
pub HasRead-longer : (before now new : Option (List ℕ)) (read buffer : List ℕ) (n limit : ℕ) → limit < length read + n → HasRead before read now → IfSome now (λ told. TakesBytes told new buffer n) → IfSome before (λ told. limit < length told)
HasRead-longer None now new read buffer n limit beyond so_far takes = tt
HasRead-longer (Some told) None new read buffer n limit beyond so_far takes = absurd (let is = so_far.1 in cc)
HasRead-longer (Some told) (Some unread) new read buffer n limit beyond so_far takes =
    let is = so_far.1 in
    let left : so_far.0 ≡ unread = cc in
    let whole : length told ≡ length read + length unread = ap length (sym so_far.2) ∙ length-append read so_far.0 ∙ ap (λ more. length read + length more) left in
    omega (arith, takes.within)

-- what may be opened stays so over two calls
pub allows-then : {A B C : Type 0} → (A ↔ B) → (B ↔ C) → A ↔ C
allows-then first then = (λ a. then.0 (first.0 a), λ c. first.1 (then.1 c))
