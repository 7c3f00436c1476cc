use Rattle.std.proofs.Common.{◌≡◌, ◌*◌, ◌^◌, ◌≤ℤ◌, ◌*ℤ◌, ℤ, pos, FitsSigned, to_z, of_z, arith, rules, refl, subst, sym, ◌∙◌}
use Rattle.std.proofs.lemmas.Int.{to_z-of_z, fits_signed_from_abs}
use mir.Syntax.{w64, w128}
use Rattle.space.proofs.Naturals.{abs_mul}
use Rattle.near_points.proofs.Bits.{as_bits, product_passed, small_fits}
use Rattle.near_points.proofs.cylinder_test.CylinderTest.of_cylinder.Goals as goal

moment : (c : goal.After-result-4-1) → FitsSigned w64 c.args.cylinder.now.moment
moment c = let y = c.args.cylinder.now in small_fits (3 * 10 ^ 18) y.moment (omega arith) y.moment_small

square : (c : goal.After-result-4-1) → to_z w128 (of_z w128 c.from-moment.result) *ℤ to_z w128 (of_z w128 c.from-moment.result) ≡ c.args.cylinder.now.moment *ℤ c.args.cylinder.now.moment
square c =
    let y = c.args.cylinder.now in let e = c.from-moment.ensures ∙ to_z-of_z w64 y.moment (moment c) in
    let wide = fits_signed_from_abs w128 y.moment (omega (arith, y.moment_small)) in
    product_passed w128 c.from-moment.result c.from-moment.result y.moment y.moment e e wide wide

fits : (c : goal.After-result-4-1) → FitsSigned w128 (c.args.cylinder.now.moment *ℤ c.args.cylinder.now.moment)
fits c =
    let y = c.args.cylinder.now in let s = abs_mul y.moment y.moment (3 * 10 ^ 18) (3 * 10 ^ 18) y.moment_small y.moment_small in
    fits_signed_from_abs w128 (y.moment *ℤ y.moment) (omega (arith, s))

pub overflow_mul-result : goal.overflow_mul-result
overflow_mul-result c = subst (FitsSigned w128) (sym (square c)) (fits c)

pub invariant_of-result : goal.invariant_of-result
invariant_of-result c =
    let y = c.args.cylinder.now in let across : FitsSigned w64 y.across = search rules in record {
      across_some = subst (λ (z : ℤ). pos 0 ≤ℤ z) (sym (to_z-of_z w64 y.across across)) y.across_some;
      square_is = as_bits w128 _ (y.moment *ℤ y.moment) (square c) (fits c) ∙ sym (product_passed w64 y.moment y.moment y.moment y.moment refl refl (moment c) (moment c));
      moment_some = subst (λ (z : ℤ). pos 0 ≤ℤ z) (sym (to_z-of_z w64 y.moment (moment c))) y.moment_some;
    }

pub returns : goal.returns
returns c =
    let y = c.args.cylinder.now in
    let least : FitsSigned w64 y.least = search rules in
    let most : FitsSigned w64 y.most = search rules in
    let across : FitsSigned w64 y.across = search rules in record {
      least = to_z-of_z w64 y.least least;
      most = to_z-of_z w64 y.most most;
      across = to_z-of_z w64 y.across across;
      moment = to_z-of_z w64 y.moment (small_fits (3 * 10 ^ 18) y.moment (omega arith) y.moment_small);
    }
