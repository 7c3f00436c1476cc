use Rattle.std.proofs.Common.{◌≤◌, ◌-ℤ◌, ◌*ℤ◌, ◌*◌, ◌^◌, ℤ, pos, unsigned_abs, FitsSigned, arith}
use Rattle.std.proofs.lemmas.Int.{ints, to_z-of_z}
use mir.Syntax.{w128}
use borrow.Author.Differences.{abs_is}
use Rattle.sweep_boxes.proofs.rise.floor_of.Goals as goal

twice_fits : (height_slack : ℤ) → unsigned_abs height_slack ≤ 3 * 10 ^ 18 → FitsSigned w128 (pos 2 *ℤ height_slack)
twice_fits height_slack h = omega (arith, ints, h, abs_is height_slack)

less_fits : (rise height_slack : ℤ) → unsigned_abs rise ≤ 10 ^ 18 → unsigned_abs height_slack ≤ 3 * 10 ^ 18 → FitsSigned w128 (rise -ℤ height_slack)
less_fits rise height_slack h k = omega (arith, ints, h, k, abs_is rise, abs_is height_slack)

pub overflow_mul-height_slack : goal.overflow_mul-height_slack
overflow_mul-height_slack c = let l = c.ranges.height_slack in simp to_z-of_z (twice_fits c.args.height_slack c.requires.height_slack)

pub overflow_sub-result : goal.overflow_sub-result
overflow_sub-result c =
    let l = c.ranges.height_slack in let r = c.ranges.rise in
    simp to_z-of_z (less_fits c.args.rise c.args.height_slack c.requires.rise c.requires.height_slack)
