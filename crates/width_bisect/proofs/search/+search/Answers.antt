use Rattle.std.proofs.Common.{◌≡◌, Bool, ◌+◌, ◌-◌, ◌^◌, arith, rules, refl, sym, subst, ap, ◌∙◌}
use Rattle.bern_form.specs.Between.{d_between}
use Rattle.bern_form.specs.Forms.{all_positive}
use Rattle.bern_form.specs.Slab.{SlabSize}
use Rattle.box_bisect.specs.Between.{IsMarkBetween}
use Rattle.box_bisect.specs.SlabTests.{TurnsBetween}
use Rattle.box_bisect.proofs.Searching.{late_held, not_removed, removed_of}
use Rattle.width_bisect.proofs.Early.{after_asked, join_early}
use Rattle.width_bisect.proofs.Listed.{lists_leave, search_leaves, search_turns}
use Rattle.width_bisect.proofs.Middle.{first_searched, late_half, middle_tried}
use Rattle.width_bisect.proofs.Tried.{tried_held}
use Rattle.bern_form.specs.Marks.{some_holds}
use Rattle.width_bisect.proofs.Searching.{behind_none, middle_held, search_cell, search_dropped, search_forms, stopped_at, test_as}
use Rattle.width_bisect.proofs.search.+search.Goals as goal

pub mark_between-returns-then-is_behind : goal.mark_between-returns-then-is_behind
mark_between-returns-then-is_behind t c = λ m p j s.
    let a = c.args in let S = a.scale in let inner = a.inner.now in let outer = a.outer.now in let w = a.stretch.now in
    let d = d_between m p j (j + 2 ^ a.levels) S in
    search_dropped inner outer w.u w.n w.width m p S a.high a.levels j s
    (behind_none outer S w.u w.n d (sym c.is_behind.ensures ∙ c.if-is_behind.true))

pub mark_between-returns-then-are_beside : goal.mark_between-returns-then-are_beside
mark_between-returns-then-are_beside t c = λ m p j s.
    let a = c.args in let S = a.scale in let inner = a.inner.now in let outer = a.outer.now in let w = a.stretch.now in
    let l = c.of_stretch-lists.result in let e = c.of_stretch-lists.ensures in let ahead = sym c.is_behind.ensures ∙ c.if-is_behind.false in
    let turns = subst (λ (t : SlabSize → Bool). TurnsBetween t outer 0 a.high)
    (sym (test_as S l.scale l.raised l.height w.u w.n e.scale e.raised e.height)) s.turns in
    let left = lists_leave outer _ w l m p S j (j + 2 ^ a.levels) e ahead refl
    (search_forms inner outer w.u w.n w.width m p S a.high a.levels j s) in
    search_dropped inner outer w.u w.n w.width m p S a.high a.levels j s
    (sym left ∙ c.are_beside.ensures c.if-are_beside.true c.requires.outer (ap all_positive e.raised ∙ s.is_open) turns)

pub mark_between-returns-then-not-leaves_some : goal.mark_between-returns-then-not-leaves_some
mark_between-returns-then-not-leaves_some t c = λ m p j s.
    let a = c.args in let S = a.scale in let inner = a.inner.now in let outer = a.outer.now in let w = a.stretch.now in
    let lists = c.of_stretch-lists in let ahead = sym c.is_behind.ensures ∙ c.if-is_behind.false in let reached = c.walk_down-reached in
    let left = search_leaves inner outer c.leaves_some.result w lists.result m p S a.high reached.result a.levels j
    lists.ensures ahead c.requires.outer reached.ensures c.leaves_some.ensures s in
    search_dropped inner outer w.u w.n w.width m p S a.high a.levels j s (sym left ∙ c.if-not-leaves_some.true)

pub mark_between-returns : goal.mark_between-returns
mark_between-returns t c = λ m p j s.
    let a = c.args in let S = a.scale in let inner = a.inner.now in let outer = a.outer.now in let w = a.stretch.now in
    let lists = c.of_stretch-lists in let ahead = sym c.is_behind.ensures ∙ c.if-is_behind.false in let reached = c.walk_down-reached in
    let left = search_leaves inner outer c.leaves_some.result w lists.result m p S a.high reached.result a.levels j
    lists.ensures ahead c.requires.outer reached.ensures c.leaves_some.ensures s in
    let turns = search_turns inner outer w lists.result m p S a.high reached.result a.levels j lists.ensures reached.ensures s in
    c.mark_by_halves.ensures m p j (stopped_at inner outer w.u w.n w.width m p S a.high reached.result a.levels j turns s)
    (λ one. sym left ∙ c.if-not-leaves_some.false)

pub mark_by_halves-returns-then-levels-eq0 : goal.mark_by_halves-returns-then-levels-eq0
mark_by_halves-returns-then-levels-eq0 t c = λ m p j s left.
    let a = c.args in let w = a.stretch.now in
    search_cell a.inner.now a.outer.now w.u w.n w.width m p a.scale a.high a.levels j c.if-levels-eq0.true s
    (left c.if-levels-eq0.true)

pub mark_by_halves-returns-then-is_removed : goal.mark_by_halves-returns-then-is_removed
mark_by_halves-returns-then-is_removed t c = λ m p j search left.
    let a = c.args in let S = a.scale in let inner = a.inner.now in let outer = a.outer.now in let s = a.stretch.now in
    let k = a.levels - 1 in let e : a.levels ≡ k + 1 = omega (arith, c.if-levels-eq0.false) in
    let i = j + 2 ^ k in let middle = c.mark-middle.result in
    let tried = middle_tried inner outer c.mark-middle.result s c.first_half-first.result c.last_of.result
    m p S a.high a.levels k j e search c.first_half-first.ensures c.last_of.ensures c.mark-middle.ensures in
    middle_held inner outer m p S a.levels k j e
    (tried_held middle (some_holds inner m p i S) (some_holds outer m p i S) tried (sym c.is_removed.ensures ∙ c.if-is_removed.true))

pub mark_by_halves-mark_between-found-requires : goal.mark_by_halves-mark_between-found-requires
mark_by_halves-mark_between-found-requires t c =
    let a = c.args in let h = c.requires in let more = c.if-levels-eq0.false in (
      search rules,
      (
        h.scale,
        after_asked c.mark-middle.result a.inner.now a.outer.now c.slabs_after-late_slabs.result.now a.high
            c.slabs_after-late_slabs.ensures h.lows h.inner h.outer h.high,
      ),
    )

pub mark_by_halves-returns-then-is_removed-2 : goal.mark_by_halves-returns-then-is_removed-2
mark_by_halves-returns-then-is_removed-2 t c = λ m p j search left.
    let a = c.args in let S = a.scale in let inner = a.inner.now in let outer = a.outer.now in let s = a.stretch.now in
    let k = a.levels - 1 in let e : a.levels ≡ k + 1 = omega (arith, c.if-levels-eq0.false) in
    let tried = middle_tried inner outer c.mark-middle.result s c.first_half-first.result c.last_of.result
    m p S a.high a.levels k j e search c.first_half-first.ensures c.last_of.ensures c.mark-middle.ensures in
    let free = sym c.is_removed.ensures ∙ c.if-is_removed.false in let late = c.joined-late.result in
    let late_is = late_half inner outer c.slabs_after-late_slabs.result.now c.mark_between-found.result c.mark-middle.result late s
    c.last_half-last.result m p S a.high a.levels k j e search c.last_half-last.ensures tried free c.slabs_after-late_slabs.ensures
    c.requires.lows c.mark_between-found.ensures c.joined-late.ensures in
    late_held late inner outer m p S a.levels k j e (removed_of late (sym c.is_removed-2.ensures ∙ c.if-is_removed-2.true)) late_is

pub mark_by_halves-mark_between-early-requires : goal.mark_by_halves-mark_between-early-requires
mark_by_halves-mark_between-early-requires t c =
    let a = c.args in let h = c.requires in let more = c.if-levels-eq0.false in (
      search rules,
      (
        h.scale,
        after_asked c.joined-late.result a.inner.now a.outer.now c.slabs_after-early_slabs.result.now a.high
            c.slabs_after-early_slabs.ensures h.lows h.inner h.outer h.high,
      ),
    )

pub mark_by_halves-returns : goal.mark_by_halves-returns
mark_by_halves-returns t c = λ m p j search left.
    let a = c.args in let S = a.scale in let inner = a.inner.now in let outer = a.outer.now in let s = a.stretch.now in
    let k = a.levels - 1 in let e : a.levels ≡ k + 1 = omega (arith, c.if-levels-eq0.false) in
    let tried = middle_tried inner outer c.mark-middle.result s c.first_half-first.result c.last_of.result
    m p S a.high a.levels k j e search c.first_half-first.ensures c.last_of.ensures c.mark-middle.ensures in
    let free = sym c.is_removed.ensures ∙ c.if-is_removed.false in let late = c.joined-late.result in
    let late_is = late_half inner outer c.slabs_after-late_slabs.result.now c.mark_between-found.result c.mark-middle.result late s
    c.last_half-last.result m p S a.high a.levels k j e search c.last_half-last.ensures tried free c.slabs_after-late_slabs.ensures
    c.requires.lows c.mark_between-found.ensures c.joined-late.ensures in
    let slabs = c.slabs_after-early_slabs.result.now in let early = c.mark_between-early.result in
    let early_search = first_searched inner outer slabs c.mark-middle.result late s c.first_half-first.result
    m p S a.high a.levels k j e search c.first_half-first.ensures tried free c.slabs_after-early_slabs.ensures c.requires.lows in
    subst (λ mark. IsMarkBetween mark inner outer m p j (j + 2 ^ a.levels) S) (sym c.joined.ensures)
    (join_early early late inner outer slabs m p S a.levels k j e c.slabs_after-early_slabs.ensures
    (not_removed late (sym c.is_removed-2.ensures ∙ c.if-is_removed-2.false)) (c.mark_between-early.ensures m p j early_search) late_is)
