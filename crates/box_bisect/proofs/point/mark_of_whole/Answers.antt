use Rattle.std.proofs.Common.{length, sym, ◌∙◌}
use Rattle.box_bisect.specs.Boxes.{undecided_from}
use Rattle.box_bisect.proofs.Counting.{cost_of_whole, undecided_some}
use Rattle.box_bisect.proofs.Searching.{dropped_whole, first_held, last_held, left_whole, mark_of_all, search_whole}
use Rattle.box_bisect.proofs.point.mark_of_whole.Goals as goal

pub returns-then-not-is_left-clause-mark : goal.returns-then-not-is_left-clause-mark
returns-then-not-is_left-clause-mark g c = λ m p forms enclosed.
    let S = c.args.scale in let inner = c.args.inner.now in let outer = c.args.outer.now in let depth = c.args.depth in
    let u = c.args.whole.now.u.c in let n = c.args.whole.now.n.c in let d = c.args.whole.now.d.c in
    dropped_whole inner outer u n d m p S depth c.requires.cells forms enclosed (sym c.is_left.ensures.left ∙ c.if-not-is_left.true)

pub returns-then-is_held_last-clause-mark : goal.returns-then-is_held_last-clause-mark
returns-then-is_held_last-clause-mark g c = λ m p forms enclosed.
    let S = c.args.scale in let inner = c.args.inner.now in let outer = c.args.outer.now in let depth = c.args.depth in
    let u = c.args.whole.now.u.c in let n = c.args.whole.now.n.c in let d = c.args.whole.now.d.c in
    last_held inner outer u n d m p S forms (sym c.is_held_last.ensures.held ∙ c.if-is_held_last.true)

pub returns-then-is_held_first-clause-mark : goal.returns-then-is_held_first-clause-mark
returns-then-is_held_first-clause-mark g c = λ m p forms enclosed.
    let S = c.args.scale in let inner = c.args.inner.now in let outer = c.args.outer.now in let depth = c.args.depth in
    let u = c.args.whole.now.u.c in let n = c.args.whole.now.n.c in let d = c.args.whole.now.d.c in
    first_held inner outer u n d m p S forms (sym c.is_held_first.ensures.held ∙ c.if-is_held_first.true)

pub returns-clause-mark : goal.returns-clause-mark
returns-clause-mark g c = λ m p forms enclosed.
    let S = c.args.scale in let inner = c.args.inner.now in let outer = c.args.outer.now in let depth = c.args.depth in
    let u = c.args.whole.now.u.c in let n = c.args.whole.now.n.c in let d = c.args.whole.now.d.c in
    let searched = search_whole inner outer u n d m p S depth c.requires.cells forms enclosed (sym c.is_held_last.ensures.held ∙ c.if-is_held_last.false) (sym c.is_held_first.ensures.held ∙ c.if-is_held_first.false) in
    mark_of_all c.mark_between.result inner outer m p S depth c.requires.cells (c.mark_between.ensures.mark m p 0 searched)

pub returns-clause-cost : goal.returns-clause-cost
returns-clause-cost g c = λ m p forms enclosed.
    let S = c.args.scale in let inner = c.args.inner.now in let outer = c.args.outer.now in let depth = c.args.depth in
    let u = c.args.whole.now.u.c in let n = c.args.whole.now.n.c in let d = c.args.whole.now.d.c in
    let searched = search_whole inner outer u n d m p S depth c.requires.cells forms enclosed (sym c.is_held_last.ensures.held ∙ c.if-is_held_last.false) (sym c.is_held_first.ensures.held ∙ c.if-is_held_first.false) in
    let some = undecided_some outer m p S depth 0 (left_whole outer u n d m p S depth c.requires.cells forms (sym c.is_left.ensures.left ∙ c.if-not-is_left.false)) in
    cost_of_whole _ _ _ _ _ (length outer) (length inner) (undecided_from outer m p S depth 0) some c.requires.as_many c.is_left.ensures.cost c.is_held_last.ensures.cost c.is_held_first.ensures.cost
    (c.mark_between.ensures.cost m p 0 searched)
