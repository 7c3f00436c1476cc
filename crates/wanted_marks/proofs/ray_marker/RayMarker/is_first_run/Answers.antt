use Rattle.std.proofs.Common.{ap, subst, sym}
use Rattle.wanted_marks.specs.Runs.{IsRun}
use Rattle.wanted_marks.proofs.OnRuns.{held_first_on}
use Rattle.wanted_marks.proofs.ray_marker.RayMarker.is_first_run.Goals as goal

pub held_first-requires : goal.held_first-requires
held_first-requires c = c.requires.line.fits c.args.l c.requires.within

pub returns-in-Some : goal.returns-in-Some
returns-in-Some c = λ yes.
    let r = c.args.self.now in let l = c.args.l in let line = c.args.line.now in let high = c.in-Some.high in let at = c.in-Some.ensures.index in
    let here = ap (λ x. x.sweep) c.self.view_is in
    let held = held_first_on line r c.self.inside.mover.now high l here c.requires.line c.requires.within at c.in-Some.ensures.held in
    subst (λ m. IsRun r c.args.low.now.index m) at (c.is_run.ensures.first yes r line (sym here) c.requires.line c.requires.low held)
