-- The numbers of the sweep are those that are seen, and the reach is that of its cutter.
use Rattle.std.proofs.Common.{ℤ, FitsSigned, pos, subst, ◌∙◌}
use Rattle.std.proofs.lemmas.Int.{to_z-of_z}
use mir.Syntax.{w32}
use Rattle.space.specs.Sweeps.{SweepOf}
use Rattle.cutter_slabs.specs.Stacks.{reach_of}
use Rattle.cert_boxes.specs.Search.{AreReached}
use Rattle.cert_boxes.proofs.search.window_on.Goals as goal

pub returns-clause-exact : goal.returns-clause-exact
returns-clause-exact c =
    let grid = c.args.grid.now in let ray = c.args.ray.now in let s = c.sweep.inside in
    let a = c.window-range.result.0 in let b = c.window-range.result.1 in
    let fits : FitsSigned w32 c.reach.result = record { sfits = c.reach.type_inv } in
    subst (λ (x : SweepOf). AreReached (pos (reach_of c.args.stacks.now.cutter)) x grid ray a b) c.sweep.view_is
    (subst (λ (r : ℤ). AreReached r record { from = s.from; to = s.to; axis_from = s.axis_from; axis_to = s.axis_to } grid ray a b) (to_z-of_z w32 c.reach.result fits ∙ c.reach.ensures.value) c.window-range.ensures.exact)
