use Rattle.std.proofs.Common.{◌+◌, ◌^◌, pos, refl, sym, ◌∙◌}
use Rattle.axis_cells.specs.declared.mark.Mark.TheVariants.{Clear}
use Rattle.cutter_slabs.specs.Stacks.{inner_stack, outer_stack, reach_of}
use Rattle.box_bisect.proofs.Searching.{some_cells}
use Rattle.width_bisect.specs.Asked.{slabs_for}
use Rattle.width_bisect.proofs.Closing.{behind_dropped, clear_is}
use Rattle.width_bisect.proofs.Parts.{answered_on_part}
use Rattle.width_bisect.proofs.point.mark_on_part.Goals as goal

pub returns-then-all_negative : goal.returns-then-all_negative
returns-then-all_negative c =
    let a = c.args in let cutter = a.stacks.now.cutter in let n = a.stacks.now.slabs in let m = a.sweep.now in let p = a.point in let S = 2 ^ a.depth in let f = a.forms.now in
    let inner = c.inner-inner.result.now in let outer = outer_stack cutter n in let slabs = slabs_for a.asked (inner_stack cutter n) outer in let part = c.requires.part in let some = some_cells a.depth in
    answered_on_part a.asked Clear cutter n inner slabs m p part.first (part.first + 2 ^ a.levels) S some part.within c.inner-inner.ensures.stack refl (λ i h. c.inner-inner.ensures.enclosed m p i S h) part.early part.late
    (behind_dropped inner slabs f.u.c f.n.c f.width.c m p S a.levels part.first some part.forms (sym c.all_negative.ensures.exact ∙ c.if-all_negative.true))
    (clear_is inner outer (pos (reach_of cutter)) m p S)
