use Rattle.std.proofs.Common.{◌≡◌, ◌*◌, ◌≤◌, ◌*ℤ◌, ℤ, pos, FitsSigned, to_z, of_z, unsigned_abs, arith, subst, sym}
use mir.Syntax.{w64}
use Rattle.space.proofs.Naturals.{abs_mul}
use Rattle.sweep_boxes.specs.Limits.{place_limit}
use Rattle.near_points.proofs.Bits.{as_bits, place_passed, product_passed, small_fits}
use Rattle.near_points.proofs.offset.scaled.Goals as goal

small : (c : goal.After-from-2) → unsigned_abs (pos c.args.scale *ℤ c.args.place) ≤ 128 * place_limit
small c = abs_mul (pos c.args.scale) c.args.place 128 place_limit (omega (arith, c.requires.scale)) c.requires.place

fits : (c : goal.After-from-2) → FitsSigned w64 (pos c.args.scale *ℤ c.args.place)
fits c = small_fits (128 * place_limit) (pos c.args.scale *ℤ c.args.place) (omega arith) (small c)

times : (c : goal.After-from-2) → to_z w64 (of_z w64 c.from.result) *ℤ to_z w64 (of_z w64 c.from-2.result) ≡ pos c.args.scale *ℤ c.args.place
times c =
    product_passed w64 c.from.result c.from-2.result (pos c.args.scale) c.args.place c.from.ensures
    (place_passed c.from-2.result c.args.place c.requires.place c.from-2.ensures)
    (small_fits 128 (pos c.args.scale) (omega arith) (omega (arith, c.requires.scale))) (small_fits place_limit c.args.place (omega arith) c.requires.place)

pub overflow_mul-result : goal.overflow_mul-result
overflow_mul-result c = subst (FitsSigned w64) (sym (times c)) (fits c)

pub returns-clause-value : goal.returns-clause-value
returns-clause-value c = as_bits w64 _ (pos c.args.scale *ℤ c.args.place) (times c) (fits c)

pub returns-clause-small : goal.returns-clause-small
returns-clause-small c = subst (λ (z : ℤ). unsigned_abs z ≤ 128 * place_limit) (sym (returns-clause-value c)) (small c)
