use Rattle.std.proofs.Common.{◌<◌, ◌*◌, ◌^◌, ◌*ℤ◌, ℤ, unsigned_abs, FitsSigned, arith, refl}
use Rattle.std.proofs.lemmas.Int.{ints, to_z-of_z}
use mir.Syntax.{w128}
use borrow.Author.Differences.{abs_is}
use Rattle.bern_form.proofs.product.product.Goals as goal

small_fits : (z : ℤ) → unsigned_abs z < 4 * 10 ^ 37 → FitsSigned w128 z
small_fits z h = omega (arith, ints, h, abs_is z)

pub overflow_mul-result : goal.overflow_mul-result
overflow_mul-result c = let x = c.ranges.a in let y = c.ranges.b in simp to_z-of_z (small_fits (c.args.a *ℤ c.args.b) c.requires)

pub returns : goal.returns
returns c = let x = c.ranges.a in let y = c.ranges.b in let fits = small_fits (c.args.a *ℤ c.args.b) c.requires in simp to_z-of_z refl
