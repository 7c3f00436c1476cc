use Rattle.std.proofs.Common.{◌≡◌, ◌*◌, ◌≤◌, [], ◌∷◌, List, ℤ, pos, ◌+ℤ◌, ◌*ℤ◌, unsigned_abs, FitsSigned, to_z, of_z, arith, ap, refl, subst, sym, ◌∙◌}
use Rattle.std.proofs.lemmas.Int.{fits_signed_mul, to_z-of_z}
use mir.Syntax.{w128}
use Rattle.space.specs.Vectors.{at, dot}
use Rattle.space.proofs.Naturals.{abs_mul}
use Rattle.space.proofs.Solver.{num, add, mul, ring}
use Rattle.space.proofs.Terms.{dots, from}
use Rattle.space.proofs.Reread.{back_of, small_as}
use Rattle.moment_forms.specs.Sizes.{moments_limit}
use Rattle.moment_forms.proofs.Fits.{both_fit, squares_fit}
use Rattle.moment_forms.proofs.moments.both_ways.Goals as goal

same_ways : (x y : List ℤ) → pos 2 *ℤ dot x y ≡ dot x y +ℤ dot y x
same_ways x y =
    let e = at x 0 ∷ at x 1 ∷ at x 2 ∷ at y 0 ∷ at y 1 ∷ at y 2 ∷ [] in
    ring e (mul (num (pos 2)) (dots (from 0) (from 3))) (add (dots (from 0) (from 3)) (dots (from 3) (from 0))) refl

two_small : 2 ≤ 2
two_small = omega arith

-- twice a product of moments
twice_back : (p : ℤ) → unsigned_abs p ≤ 3 * (moments_limit * moments_limit) → pos 2 *ℤ to_z w128 (of_z w128 p) ≡ pos 2 *ℤ p
twice_back p h = ap (λ z. pos 2 *ℤ z) (back_of w128 p (3 * (moments_limit * moments_limit)) squares_fit h)

twice_fits : (p : ℤ) → unsigned_abs p ≤ 3 * (moments_limit * moments_limit) → FitsSigned w128 (pos 2 *ℤ to_z w128 (of_z w128 p))
twice_fits p h = subst (FitsSigned w128) (sym (twice_back p h)) (fits_signed_mul w128 (pos 2) p 2 (3 * (moments_limit * moments_limit)) two_small h both_fit)

twice_is : (p : ℤ) → unsigned_abs p ≤ 3 * (moments_limit * moments_limit) → to_z w128 (of_z w128 (pos 2 *ℤ to_z w128 (of_z w128 p))) ≡ pos 2 *ℤ p
twice_is p h = to_z-of_z w128 (pos 2 *ℤ to_z w128 (of_z w128 p)) (twice_fits p h) ∙ twice_back p h

pub overflow_mul-result : goal.overflow_mul-result
overflow_mul-result c = twice_fits c.product.result c.product.ensures.small

pub returns-clause-value : goal.returns-clause-value
returns-clause-value c =
    let p = c.product.result in
    twice_is p c.product.ensures.small ∙ ap (λ z. pos 2 *ℤ z) c.product.ensures.value ∙ same_ways c.args.x.now c.args.y.now

pub returns-clause-small : goal.returns-clause-small
returns-clause-small c =
    let p = c.product.result in let small = c.product.ensures.small in
    small_as _ (pos 2 *ℤ p) (6 * (moments_limit * moments_limit)) (twice_is p small) (abs_mul (pos 2) p 2 (3 * (moments_limit * moments_limit)) two_small small)
