use Rattle.cutter_slabs.specs.Stacks.{outer_stack}
use Rattle.width_bisect.proofs.Parts.{whole_part}
use Rattle.width_bisect.proofs.point.mark_by_forms.Goals as goal

pub mark_on_part-requires-clause-part : goal.mark_on_part-requires-clause-part
mark_on_part-requires-clause-part c =
    let a = c.args in let s = a.stacks.now in let f = a.forms.now in
    whole_part (outer_stack s.cutter s.slabs) f.u.c f.n.c f.width.c a.sweep.now a.point a.depth c.requires.forms
