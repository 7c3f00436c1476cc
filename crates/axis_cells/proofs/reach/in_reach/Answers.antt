use Rattle.std.proofs.Common.{◌≡◌, subst}
use Rattle.std.proofs.lemmas.Int.{to_z-of_z}
use Rattle.space.specs.Reach.{is_in_reach}
use Rattle.space.specs.Sweeps.{SweepOf}
use Rattle.axis_cells.proofs.reach.in_reach.Goals as goal

pub returns : goal.returns
returns c =
    let reach = c.ranges.reach in
    subst (λ (m : SweepOf). c.is_in_reach.result ≡ is_in_reach c.args.reach m.from m.to c.args.point) c.sweep.view_is (simp to_z-of_z at c.is_in_reach.ensures)
