use Rattle.std.proofs.Common.{◌+◌, ◌^◌, ◌≤◌, arith, subst, sym, ap, ◌∙◌}
use Rattle.bern_form.specs.Marks.{some_holds}
use Rattle.box_bisect.specs.Between.{IsMarkBetween, is_removed_mark}
use Rattle.box_bisect.specs.RayMarks.{is_possible_mark}
use Rattle.box_bisect.proofs.Searching.{some_cells}
use Rattle.width_bisect.proofs.Beginning.{first_is_held, last_is_held}
use Rattle.width_bisect.proofs.Early.{inner_search}
use Rattle.width_bisect.proofs.Ends.{ends_searched, first_tried, last_tried}
use Rattle.width_bisect.proofs.Lows.{as_many}
use Rattle.width_bisect.proofs.Tried.{after_possible, both_free, joined_known, left_at_ends, tried_held}
use Rattle.width_bisect.proofs.whole.mark_of_whole.Goals as goal

pub returns-then-is_removed : goal.returns-then-is_removed
returns-then-is_removed c = λ m p j forms enclosed left.
    let a = c.args in let S = a.scale in let k = j + 2 ^ a.levels in let inner = a.inner.now in let outer = a.outer.now in
    let tried =
    last_tried inner outer c.mark-last.result c.last_of.result a.whole.now m p j k S forms c.last_of.ensures c.mark-last.ensures in
    last_is_held inner outer m p j k S (omega arith)
    (tried_held c.mark-last.result (some_holds inner m p k S) (some_holds outer m p k S) tried
    (sym c.is_removed.ensures ∙ c.if-is_removed.true))

pub returns-then-is_removed-2 : goal.returns-then-is_removed-2
returns-then-is_removed-2 c = λ m p j forms enclosed left.
    let a = c.args in let S = a.scale in let k = j + 2 ^ a.levels in let inner = a.inner.now in let outer = a.outer.now in
    let tried =
    first_tried inner outer c.mark-first.result c.first_of.result a.whole.now m p j k S forms c.first_of.ensures c.mark-first.ensures in
    first_is_held inner outer m p j k S (omega arith)
    (tried_held c.mark-first.result (some_holds inner m p j S) (some_holds outer m p j S) tried
    (sym c.is_removed-2.ensures ∙ c.if-is_removed-2.true))

pub mark_between-found-requires-clause-high : goal.mark_between-found-requires-clause-high
mark_between-found-requires-clause-high c =
    let a = c.args in subst (λ k. a.high ≤ k) (sym (as_many a.inner.now a.outer.now c.requires.lows)) c.requires.high.within

pub returns-then-is_possible : goal.returns-then-is_possible
returns-then-is_possible c = λ m p j forms enclosed left.
    let a = c.args in let S = a.scale in let k = j + 2 ^ a.levels in let inner = a.inner.now in let outer = a.outer.now in
    let w = a.whole.now in let h = c.requires in let known = c.joined-known.result in let some = some_cells a.levels in
    let early = sym c.is_removed-2.ensures ∙ c.if-is_removed-2.false in let late = sym c.is_removed.ensures ∙ c.if-is_removed.false in
    let first = first_tried inner outer c.mark-first.result c.first_of.result w m p j k S forms c.first_of.ensures c.mark-first.ensures in
    let last = last_tried inner outer c.mark-last.result c.last_of.result w m p j k S forms c.last_of.ensures c.mark-last.ensures in
    let searched =
    ends_searched inner outer c.mark-first.result c.mark-last.result c.first_of.result c.last_of.result w m p S a.high a.levels j
    h.some forms enclosed h.positive h.high c.first_of.ensures c.mark-first.ensures early c.last_of.ensures c.mark-last.ensures late in
    let free = ap is_removed_mark c.joined-known.ensures ∙ both_free c.mark-first.result c.mark-last.result early late in
    subst (λ mark. IsMarkBetween mark inner outer m p j k S) (sym c.joined.ensures)
    (joined_known c.mark_between-found.result known inner outer inner m p j k S
    (after_possible known inner outer free (sym c.is_possible.ensures ∙ c.if-is_possible.true)) free
    (λ left'. left_at_ends c.mark-first.result c.mark-last.result inner outer m p j k S h.some (omega arith) first last
    (ap is_possible_mark (sym c.joined-known.ensures) ∙ left'))
    (c.mark_between-found.ensures m p j (inner_search inner outer w.u w.n w.width m p S a.high a.levels j h.lows searched)))

pub returns : goal.returns
returns c = λ m p j forms enclosed left.
    let a = c.args in let h = c.requires in let S = a.scale in let w = a.whole.now in let inner = a.inner.now in let outer = a.outer.now in
    let early = sym c.is_removed-2.ensures ∙ c.if-is_removed-2.false in let late = sym c.is_removed.ensures ∙ c.if-is_removed.false in
    let searched =
    ends_searched inner outer c.mark-first.result c.mark-last.result c.first_of.result c.last_of.result w m p S a.high a.levels j
    h.some forms enclosed h.positive h.high c.first_of.ensures c.mark-first.ensures early c.last_of.ensures c.mark-last.ensures late in
    c.mark_by_halves.ensures m p j searched left
