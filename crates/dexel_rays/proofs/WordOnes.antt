-- Counts of the points that words of bits have.
use Rattle.std.proofs.Common.{◌≡◌, ℕ, ◌+◌, ◌-◌, ◌^◌, ◌<◌, Bool, true, false, not, ◌&&◌, ◌||◌, arith, refl, sym, ap, ap₂, ◌∙◌}
use Rattle.std.specs.Prelude.{bit_and, bit_or}
use Rattle.vf_spans.specs.Members.{count_below}
use Rattle.vf_spans.specs.Words.{has_bit}
use Rattle.vf_spans.proofs.Below.{same_bound_same}
use Rattle.vf_spans.proofs.WordBits.{has_bit-and, has_bit-not, has_bit-or, has_bit-zero}
use Rattle.vf_spans.proofs.WordCounts.{count_more}
use Rattle.dexel_rays.proofs.Laws.{stock_gone}

-- tests that say the same below a bound give one count
pub below_same : (n : ℕ) (p q : ℕ → Bool) → ((k : ℕ) → k < n → p k ≡ q k) → count_below n p ≡ count_below n q
below_same n p q same =
    let more = count_more p q 0 n (λ b lt. ap p (let e : 0 + b ≡ b = omega arith in e) ∙ same b lt) in
    let size = same_bound_same p (0 + n) n (omega arith) in
    let none : count_below 0 p ≡ 0 = refl in
    omega arith

and_apart : (x y z : Bool) → ((x && y) && z) ≡ (x && (y && z))
and_apart true y z = refl
and_apart false y z = refl

pub meet_minus_bit : (a b c k : ℕ) → c < 2 ^ 64 → k < 64 → has_bit (bit_and (bit_and a b) (2 ^ 64 - 1 - c)) k ≡ (has_bit a k && (has_bit b k && not (has_bit c k)))
meet_minus_bit a b c k fits lt =
    has_bit-and (bit_and a b) (2 ^ 64 - 1 - c) k
    ∙ ap (λ x. x && has_bit (2 ^ 64 - 1 - c) k) (has_bit-and a b k)
    ∙ ap (λ x. (has_bit a k && has_bit b k) && x) (has_bit-not c k fits lt)
    ∙ and_apart (has_bit a k) (has_bit b k) (not (has_bit c k))

pub minus_bit : (a c k : ℕ) → c < 2 ^ 64 → k < 64 → has_bit (bit_and a (2 ^ 64 - 1 - c)) k ≡ (has_bit a k && not (has_bit c k))
minus_bit a c k fits lt = has_bit-and a (2 ^ 64 - 1 - c) k ∙ ap (λ x. has_bit a k && x) (has_bit-not c k fits lt)

and_yes : (x : Bool) → (x && true) ≡ x
and_yes true = refl
and_yes false = refl

or_apart : (x y z : Bool) → ((x || y) || z) ≡ (x || (y || z))
or_apart true y z = refl
or_apart false y z = refl

pub wanted_bit : (stock part fixture sure k : ℕ) → sure < 2 ^ 64 → k < 64
    → has_bit (bit_or (bit_or part fixture) (bit_and stock (2 ^ 64 - 1 - sure))) k
    ≡ (has_bit part k || (has_bit fixture k || (has_bit stock k && not (has_bit sure k))))
wanted_bit stock part fixture sure k fits lt =
    has_bit-or (bit_or part fixture) (bit_and stock (2 ^ 64 - 1 - sure)) k
    ∙ ap₂ (λ x y. x || y) (has_bit-or part fixture k) (minus_bit stock sure k fits lt)
    ∙ or_apart (has_bit part k) (has_bit fixture k) (has_bit stock k && not (has_bit sure k))

-- possible already, and neither part nor fixture, of a move that isn't rapid; of a rapid one none
pub only_bit : (part fixture possible k : ℕ) (rapid : Bool) → bit_or part fixture < 2 ^ 64 → k < 64 → rapid ≡ false
    → has_bit (bit_and (2 ^ 64 - 1 - bit_or part fixture) possible) k ≡ (not (has_bit part k || has_bit fixture k) && (has_bit possible k && not rapid))
only_bit part fixture possible k rapid fits lt slow =
    has_bit-and (2 ^ 64 - 1 - bit_or part fixture) possible k
    ∙ ap (λ x. x && has_bit possible k) (has_bit-not (bit_or part fixture) k fits lt ∙ ap not (has_bit-or part fixture k))
    ∙ ap (λ x. not (has_bit part k || has_bit fixture k) && x) (sym (ap (λ r. has_bit possible k && not r) slow ∙ and_yes (has_bit possible k)))

pub no_bit_only : (part fixture possible k : ℕ) (rapid : Bool) → rapid ≡ true
    → has_bit 0 k ≡ (not (has_bit part k || has_bit fixture k) && (has_bit possible k && not rapid))
no_bit_only part fixture possible k rapid fast =
    has_bit-zero k
    ∙ sym (ap (λ r. not (has_bit part k || has_bit fixture k) && (has_bit possible k && not r)) fast ∙ stock_gone (not (has_bit part k || has_bit fixture k)) (has_bit possible k))
