-- What a read takes that consumes known bytes.
use Rattle.std.proofs.Common.{◌≡◌, ℕ, ◌+◌, ◌++◌, ◌<◌, ◌≤◌, take, drop, length, List, [], Option, Some, None, IfSome, Result, Ok, arith, sym, ap, ◌∙◌, length-append, length-take}
use Rattle.std.proofs.Math.Seq.{take-append_seam, drop-append_seam}
use Rattle.std.specs.Io.{ReadsAtMost}
use Rattle.std.specs.Io.KnownBytes.{ReadConsumes, Consumes, IsAtEnd}
use Rattle.vf_io.specs.Reading.{TakesBytes}

-- known bytes that lost a front, which is all that the buffer got
TakesBytes-split : (told left buffer : List ℕ) (n : ℕ) → n ≤ length buffer → told ≡ take n buffer ++ left → (n ≡ 0 → left ≡ []) → TakesBytes told (Some left) buffer n
TakesBytes-split told left buffer n bound split end =
    let len : length (take n buffer) ≡ n = omega (arith, length-take n buffer) in
    let front : take n told ≡ take n buffer = rw split (ap (λ k. take k (take n buffer ++ left)) (sym len) ∙ take-append_seam (take n buffer) left) in
    let rest : drop n told ≡ left = rw split (ap (λ k. drop k (take n buffer ++ left)) (sym len) ∙ drop-append_seam (take n buffer) left) in
    let both : length told ≡ length (take n buffer) + length left = ap length split ∙ length-append (take n buffer) left in
    record {
      front = sym front;
      within = omega arith;
      rest = ap Some (sym rest);
      at_end = (λ none. split ∙ ap (λ k. take k buffer ++ left) none ∙ end none, λ empty. omega (arith, ap length empty));
    }

-- the same where the bytes may not be known
consumed : (old new : Option (List ℕ)) (buffer : List ℕ) (n : ℕ) → 0 < length buffer → n ≤ length buffer → Consumes old new (take n buffer) → (n ≡ 0 → 0 < length buffer → IsAtEnd new) → IfSome old (λ told. TakesBytes told new buffer n)
consumed None new buffer n some bound lost end = tt
consumed (Some told) None buffer n some bound lost end = absurd lost
consumed (Some told) (Some left) buffer n some bound lost end = TakesBytes-split told left buffer n bound lost (λ none. end none some)

-- a read that was done, of what may not be known
pub TakesBytes-consumed : {E : Type 0} (result : Result ℕ E) (old new : Option (List ℕ)) (buffer : List ℕ) (n : ℕ) → result ≡ Ok n → 0 < length buffer → ReadsAtMost result buffer → ReadConsumes old new result buffer → IfSome old (λ told. TakesBytes told new buffer n)
TakesBytes-consumed result old new buffer n is some bound read =
    let within = rw is at bound in
    let done = rw is at read in
    consumed old new buffer n some within.0 done.0 done.1
