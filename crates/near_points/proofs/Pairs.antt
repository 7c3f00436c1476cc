-- Sums of products of the numbers of moments, computed in machine words: what is added fits there, and what comes out is right.
use Rattle.std.proofs.Common.{◌≡◌, ℕ, ◌*◌, ◌≤◌, ℤ, pos, ◌+ℤ◌, ◌*ℤ◌, to_z, of_z, unsigned_abs, arith, ap, ap₂}
use mir.Syntax.{w64, w128}
use Rattle.space.proofs.Naturals.{abs_add, abs_mul}
use Rattle.near_points.specs.Limits.{moment_limit}
use Rattle.near_points.proofs.Bits.{IsReckoned, as_bits, moment_passed, reckoned, sum_passed, wide_by, wide_fits, wide_gives}
use Rattle.near_points.proofs.Growing.{slope_small, width_small}

abbrev IsMoment : ℤ → Type 0
IsMoment x = unsigned_abs x ≤ moment_limit

abbrev IsProduct : ℤ → ℤ → ℤ → Type 0
IsProduct x a b = x ≡ to_z w64 (of_z w64 a) *ℤ to_z w64 (of_z w64 b)

abbrev pub as_word : ℤ → ℤ
as_word x = to_z w128 (of_z w128 x)

-- the factors that a product is called with
pub factors_passed : (a b : ℤ) → IsMoment a → IsMoment b
    → record { a : IsMoment (to_z w64 (of_z w64 a)); b : IsMoment (to_z w64 (of_z w64 b)) }
factors_passed a b ha hb = record { a = moment_passed a ha; b = moment_passed b hb }

-- the sum of two products
abbrev pub pair_limit : ℕ
pair_limit = 2 * (moment_limit * moment_limit)

pair_small : (a b p q : ℤ) → IsMoment a → IsMoment b → IsMoment p → IsMoment q → unsigned_abs (a *ℤ b +ℤ p *ℤ q) ≤ pair_limit
pair_small a b p q ha hb hp hq =
    let s = abs_mul a b moment_limit moment_limit ha hb in let t = abs_mul p q moment_limit moment_limit hp hq in
    let u = abs_add (a *ℤ b) (p *ℤ q) in omega (arith, s, t, u)

pub pair_reckoned : (x y a b p q : ℤ) → IsMoment a → IsMoment b → IsMoment p → IsMoment q → IsProduct x a b → IsProduct y p q
    → IsReckoned w128 pair_limit (as_word x +ℤ as_word y) (a *ℤ b +ℤ p *ℤ q)
pair_reckoned x y a b p q ha hb hp hq ex ey =
    let small = pair_small a b p q ha hb hp hq in
    let is = sum_passed w128 x y (a *ℤ b) (p *ℤ q) (wide_gives x a b ha hb ex) (wide_gives y p q hp hq ey)
    (wide_fits a b ha hb) (wide_fits p q hp hq) in
    reckoned w128 pair_limit (as_word x +ℤ as_word y) (a *ℤ b +ℤ p *ℤ q) is (wide_by pair_limit _ (omega arith) small) small

-- a third square on top of two
abbrev pub width_limit : ℕ
width_limit = 3 * (moment_limit * moment_limit)

pub width_reckoned : (x y z a p q : ℤ) → IsMoment a → IsMoment p → IsMoment q → IsProduct x a a → IsProduct y p p → IsProduct z q q
    → IsReckoned w128 width_limit (as_word (as_word x +ℤ as_word y) +ℤ as_word z) ((a *ℤ a +ℤ p *ℤ p) +ℤ q *ℤ q)
width_reckoned x y z a p q ha hp hq ex ey ez =
    let pair = pair_reckoned x y a a p p ha ha hp hp ex ey in let small = width_small a p q ha hp hq in
    let is = ap₂ (λ u v. u +ℤ v) pair.value (as_bits w128 z (q *ℤ q) (wide_gives z q q hq hq ez) (wide_fits q q hq hq)) in
    reckoned w128 width_limit _ ((a *ℤ a +ℤ p *ℤ p) +ℤ q *ℤ q) is (wide_by width_limit _ (omega arith) small) small

-- twice the sum of two
abbrev pub slope_limit : ℕ
slope_limit = 4 * (moment_limit * moment_limit)

pub slope_reckoned : (x y a b p q : ℤ) → IsMoment a → IsMoment b → IsMoment p → IsMoment q → IsProduct x a b → IsProduct y p q
    → IsReckoned w128 slope_limit (pos 2 *ℤ as_word (as_word x +ℤ as_word y)) (pos 2 *ℤ (a *ℤ b +ℤ p *ℤ q))
slope_reckoned x y a b p q ha hb hp hq ex ey =
    let pair = pair_reckoned x y a b p q ha hb hp hq ex ey in let small = slope_small a p b q ha hp hb hq in
    let is = ap (λ z. pos 2 *ℤ z) pair.value in
    reckoned w128 slope_limit _ (pos 2 *ℤ (a *ℤ b +ℤ p *ℤ q)) is (wide_by slope_limit _ (omega arith) small) small
