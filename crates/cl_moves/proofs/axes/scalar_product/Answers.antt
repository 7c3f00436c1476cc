-- The products that are added are of components of axes, and their sum is far within 64 bits.
use Rattle.std.proofs.Common.{◌≡◌, ◌∙◌, ◌≤◌, ℕ, ℤ, ◌+◌, ◌+ℤ◌, FitsSigned, ap, arith, get_or, of_z, pos, subst, sym, to_z, unsigned_abs, w64}
use Rattle.std.proofs.lemmas.Int.{fits_signed_from_abs, ints, to_z-of_z}
use Rattle.space.specs.Ranges.{axis_unit}
use Rattle.space.specs.Vectors.{at}
use Rattle.cl_moves.proofs.BackLemmas.{within_back}
use Rattle.cl_moves.proofs.ProductLemmas.{product_back}
use Rattle.cl_moves.proofs.axes.scalar_product.Goals as goal

wide : (a : ℤ) → unsigned_abs a ≤ 30000000000 → FitsSigned w64 a
wide a small = fits_signed_from_abs w64 a (omega arith)

sum_small : (a b : ℤ) (m n : ℕ) → unsigned_abs a ≤ m → unsigned_abs b ≤ n → unsigned_abs (a +ℤ b) ≤ m + n
sum_small a b m n f s = omega (arith, ints)

-- a sum of two numbers that are far within 64 bits
sum_is : (a b : ℤ) → unsigned_abs a ≤ 20000000000 → unsigned_abs b ≤ 10000000000 → to_z w64 (of_z w64 a) +ℤ to_z w64 (of_z w64 b) ≡ a +ℤ b
sum_is a b f s = ap (λ z. z +ℤ to_z w64 (of_z w64 b)) (to_z-of_z w64 a (wide a (omega arith))) ∙ ap (λ z. a +ℤ z) (to_z-of_z w64 b (wide b (omega arith)))

sum_fits : (a b : ℤ) → unsigned_abs a ≤ 20000000000 → unsigned_abs b ≤ 10000000000 → FitsSigned w64 (to_z w64 (of_z w64 a) +ℤ to_z w64 (of_z w64 b))
sum_fits a b f s = subst (FitsSigned w64) (sym (sum_is a b f s)) (wide (a +ℤ b) (sum_small a b 20000000000 10000000000 f s))

two_small : (a b : ℤ) → unsigned_abs a ≤ 10000000000 → unsigned_abs b ≤ 10000000000 → unsigned_abs (to_z w64 (of_z w64 a) +ℤ to_z w64 (of_z w64 b)) ≤ 20000000000
two_small a b f s = subst (λ z. unsigned_abs z ≤ 20000000000) (sym (sum_is a b (omega (arith, f)) s)) (sum_small a b 10000000000 10000000000 f s)

-- and of three
three_are : (a b c x y z : ℤ) → unsigned_abs a ≤ 10000000000 → unsigned_abs b ≤ 10000000000 → unsigned_abs c ≤ 10000000000
    → a ≡ x → b ≡ y → c ≡ z
    → to_z w64 (of_z w64 (to_z w64 (of_z w64 (to_z w64 (of_z w64 a) +ℤ to_z w64 (of_z w64 b))) +ℤ to_z w64 (of_z w64 c))) ≡ (x +ℤ y) +ℤ z
three_are a b c x y z p q r d e f =
    let two = to_z w64 (of_z w64 a) +ℤ to_z w64 (of_z w64 b) in
    to_z-of_z w64 (to_z w64 (of_z w64 two) +ℤ to_z w64 (of_z w64 c)) (sum_fits two c (two_small a b p q) r) ∙ sum_is two c (two_small a b p q) r
    ∙ ap (λ n. n +ℤ c) (sum_is a b (omega (arith, p)) q) ∙ ap (λ n. (n +ℤ b) +ℤ c) d ∙ ap (λ n. (x +ℤ n) +ℤ c) e ∙ ap (λ n. (x +ℤ y) +ℤ n) f

pub overflow_add-result : goal.overflow_add-result
overflow_add-result c = sum_fits c.product.result c.product-2.result (omega (arith, c.product.ensures.small)) c.product-2.ensures.small

pub overflow_add-result-2 : goal.overflow_add-result-2
overflow_add-result-2 c =
    let a = c.product.result in
    let b = c.product-2.result in
    sum_fits (to_z w64 (of_z w64 a) +ℤ to_z w64 (of_z w64 b)) c.product-3.result (two_small a b c.product.ensures.small c.product-2.ensures.small) c.product-3.ensures.small

pub returns : goal.returns
returns c =
    let f = c.args.f.now in
    let t = c.args.t.now in
    let first = c.requires.first in
    let last = c.requires.last in
    three_are c.product.result c.product-2.result c.product-3.result _ _ _ c.product.ensures.small c.product-2.ensures.small c.product-3.ensures.small
    (product_back c.product.result (at f 0) (at t 0) first.0 last.0 c.product.ensures.exact)
    (product_back c.product-2.result (at f 1) (at t 1) first.1 last.1 c.product-2.ensures.exact)
    (product_back c.product-3.result (at f 2) (at t 2) first.2 last.2 c.product-3.ensures.exact)

pub product-requires-clause-first : goal.product-requires-clause-first
product-requires-clause-first c = within_back axis_unit (get_or c.args.f.now 0 (pos 0)) (omega arith) c.requires.first.0

pub product-requires-clause-last : goal.product-requires-clause-last
product-requires-clause-last c = within_back axis_unit (get_or c.args.t.now 0 (pos 0)) (omega arith) c.requires.last.0

pub product-requires-2-clause-first : goal.product-requires-2-clause-first
product-requires-2-clause-first c = within_back axis_unit (get_or c.args.f.now 1 (pos 0)) (omega arith) c.requires.first.1

pub product-requires-2-clause-last : goal.product-requires-2-clause-last
product-requires-2-clause-last c = within_back axis_unit (get_or c.args.t.now 1 (pos 0)) (omega arith) c.requires.last.1

pub product-requires-3-clause-first : goal.product-requires-3-clause-first
product-requires-3-clause-first c = within_back axis_unit (get_or c.args.f.now 2 (pos 0)) (omega arith) c.requires.first.2

pub product-requires-3-clause-last : goal.product-requires-3-clause-last
product-requires-3-clause-last c = within_back axis_unit (get_or c.args.t.now 2 (pos 0)) (omega arith) c.requires.last.2
