use Rattle.std.proofs.Common.{subst, sym}
use Rattle.std.proofs.lemmas.Int.{to_z-of_z}
use Rattle.space.specs.Sweeps.{IsSweep}
use Rattle.axis_cells.proofs.Marks.{none_out_of_reach}
use Rattle.axis_cells.proofs.plain.is_held_out_of_reach.Goals as goal

pub returns-then-all_fit_in_reach : goal.returns-then-all_fit_in_reach
returns-then-all_fit_in_reach c =
    let reach = c.ranges.reach in
    let fits = simp to_z-of_z at c.all_fit_in_reach.ensures.test in
    sym (none_out_of_reach c.args.reach c.args.slabs.now c.args.sweep.now c.args.point.now c.args.scale (cc) (c.all_fit_in_reach.ensures.valid c.if-all_fit_in_reach.true)
    (subst IsSweep c.sweep.view_is c.sweep.invariant) c.requires.some c.requires.out)
