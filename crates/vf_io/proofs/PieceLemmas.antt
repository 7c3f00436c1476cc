-- Where the first line of a text ends.
use Rattle.std.proofs.Common.{◌≡◌, ℕ, zero, suc, ◌+◌, ◌<◌, List, [], ◌∷◌, length, take, drop, eqb, arith, refl, add-one}
use Rattle.std.proofs.Math.Seq.{take-length, drop-length}
use Rattle.std.proofs.lemmas.Bool.{false_from_ne_true}
use Rattle.vf_io.specs.Pieces.{pieces_of}
use Rattle.memchr.specs.Find.{Nowhere, Passes, is_byte}

-- a text whose first LF is at the place n
pub pieces_of-at : (bytes : List ℕ) (n : ℕ) → Nowhere (Passes (is_byte 10) bytes) 0 n → n < length bytes → Passes (is_byte 10) bytes n → pieces_of bytes ≡ take (n + 1) bytes ∷ pieces_of (drop (n + 1) bytes)
pieces_of-at [] n none lt here = absurd (omega arith)
pieces_of-at (b ∷ bytes) zero none lt here = rw here refl
pieces_of-at (b ∷ bytes) (suc n) none lt here =
    let later = pieces_of-at bytes n (λ k low high. none (suc k) (omega arith) (omega arith)) (omega arith) here in
    let other = false_from_ne_true (eqb b 10) (none 0 (omega arith) (omega arith)) in
    rw (other, later, add-one n, add-one (suc n)) refl

-- a text with no LF
pub pieces_of-none : (b : ℕ) (bytes : List ℕ) → Nowhere (Passes (is_byte 10) (b ∷ bytes)) 0 (length (b ∷ bytes)) → pieces_of (b ∷ bytes) ≡ (b ∷ bytes) ∷ []
pieces_of-none b [] none =
    let other = false_from_ne_true (eqb b 10) (none 0 (omega arith) (omega arith)) in rw other refl
pieces_of-none b (c ∷ bytes) none =
    let later = pieces_of-none c bytes (λ k low high. none (suc k) (omega arith) (omega arith)) in
    let other = false_from_ne_true (eqb b 10) (none 0 (omega arith) (omega arith)) in
    rw (other, later) refl

-- a text with no LF is cut at its end
pub pieces_of-whole : (bytes : List ℕ) → 0 < length bytes → Nowhere (Passes (is_byte 10) bytes) 0 (length bytes) → pieces_of bytes ≡ take (length bytes) bytes ∷ pieces_of (drop (length bytes) bytes)
pieces_of-whole [] some none = absurd (omega arith)
pieces_of-whole (b ∷ bytes) some none = rw (take-length (b ∷ bytes), drop-length (b ∷ bytes)) (pieces_of-none b bytes none)
