use Rattle.std.proofs.Common.{◌≡◌, pos, ◌≤ℤ◌, unsigned_abs, arith, ap, ◌∙◌}
use Rattle.std.proofs.lemmas.Int.{ints, to_z-of_z}
use Rattle.ray_grid.proofs.Distances.{steps_is}
use Rattle.ray_grid.proofs.near.steps_within.Goals as goal

pub returns : goal.returns
returns c =
    let some : pos 0 ≤ℤ c.args.distance = grind (arith, ints) in
    let size : c.unsigned_abs.result ≡ unsigned_abs c.args.distance = c.unsigned_abs.ensures.value ∙ ap unsigned_abs (to_z-of_z _ _ c.ranges.distance) in
    λ l. steps_is c.args.distance c.unsigned_abs.result c.args.step l some size c.requires
