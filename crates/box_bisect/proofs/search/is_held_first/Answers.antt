-- The sample is at the first end of the stretch.
use Rattle.std.proofs.Common.{◌∙◌}
use Rattle.box_bisect.proofs.Ends.{held_first}
use Rattle.box_bisect.proofs.search.is_held_first.Goals as goal

pub returns-clause-held : goal.returns-clause-held
returns-clause-held g c =
    let s = c.args.stretch.now in let at = c.of-sample.result in let is = c.of-sample.ensures in
    c.is_covered_by_some.ensures.covered ∙ held_first c.args.slabs.now c.args.scale at.scale s.u.c s.n.c s.d.c at.u at.n at.w s.u_small s.n_small s.d_small is.scale is.u is.n is.w
