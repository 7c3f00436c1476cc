use Rattle.std.proofs.Common.{◌≡◌, ◌+◌, ◌-◌, ◌^◌, true, false, length, arith, sym, subst, ◌∙◌}
use Rattle.box_bisect.specs.Between.{IsMarkBetween}
use Rattle.box_bisect.specs.Halved.{first_half, last_half}
use Rattle.bern_form.specs.Between.{is_unexcluded_between}
use Rattle.box_bisect.specs.SlabTests.{is_held_with}
use Rattle.box_bisect.proofs.Counting.{cost_of_both, cost_of_late, cost_of_middle}
use Rattle.box_bisect.proofs.Searching.{at_cell, dropped, held_as, join_marks, late_held, left_between, middle_held, not_removed, removed_of, search_first, search_last, searched_as}
use Rattle.box_bisect.proofs.search.+mark_between.Goals as goal

pub returns-then-not-is_left-clause-mark : goal.returns-then-not-is_left-clause-mark
returns-then-not-is_left-clause-mark g t c = λ m p j s.
    let S = c.args.scale in let inner = c.args.inner.now in let outer = c.args.outer.now in let levels = c.args.levels in let k = levels - 1 in
    let u = c.args.stretch.now.u.c in let n = c.args.stretch.now.n.c in let d = c.args.stretch.now.d.c in
    dropped inner outer u n d m p S levels j s.some s.forms s.enclosed (sym c.is_left.ensures.left ∙ c.if-not-is_left.true)

pub returns-then-levels-eq0-clause-mark : goal.returns-then-levels-eq0-clause-mark
returns-then-levels-eq0-clause-mark g t c = λ m p j s.
    let S = c.args.scale in let inner = c.args.inner.now in let outer = c.args.outer.now in let levels = c.args.levels in let k = levels - 1 in
    let u = c.args.stretch.now.u.c in let n = c.args.stretch.now.n.c in let d = c.args.stretch.now.d.c in
    at_cell inner outer u n d m p S levels j c.if-levels-eq0.true s (sym c.is_left.ensures.left ∙ c.if-not-is_left.false)

pub returns-then-is_held_last-clause-mark : goal.returns-then-is_held_last-clause-mark
returns-then-is_held_last-clause-mark g t c = λ m p j s.
    let S = c.args.scale in let inner = c.args.inner.now in let outer = c.args.outer.now in let levels = c.args.levels in let k = levels - 1 in
    let u = c.args.stretch.now.u.c in let n = c.args.stretch.now.n.c in let d = c.args.stretch.now.d.c in
    let e : levels ≡ k + 1 = omega (arith, c.if-levels-eq0.false) in
    let first = c.first_half-first.result in let f = c.first_half-first.ensures in
    let held = c.is_held_last.ensures.held ∙ held_as 2 inner S first.u.c first.n.c first.d.c (first_half u) (first_half n) (first_half d) f.u f.n f.d in
    middle_held inner outer u n d m p S levels k j e s (sym held ∙ c.if-is_held_last.true)

pub returns-then-is_held_last-clause-cost : goal.returns-then-is_held_last-clause-cost
returns-then-is_held_last-clause-cost g t c = λ m p j s.
    let S = c.args.scale in let inner = c.args.inner.now in let outer = c.args.outer.now in let levels = c.args.levels in let k = levels - 1 in
    let u = c.args.stretch.now.u.c in let n = c.args.stretch.now.n.c in let d = c.args.stretch.now.d.c in
    let e : levels ≡ k + 1 = omega (arith, c.if-levels-eq0.false) in
    let left : is_unexcluded_between outer m p j (j + 2 ^ levels) S ≡ true = sym (left_between outer u n d m p j (j + 2 ^ levels) S s.forms) ∙ sym c.is_left.ensures.left ∙ c.if-not-is_left.false in
    cost_of_middle outer m p S levels k j e left _ _ _ (length outer) (length inner) c.requires.as_many c.is_left.ensures.cost c.is_held_last.ensures.cost

pub returns-then-is_removed-clause-mark : goal.returns-then-is_removed-clause-mark
returns-then-is_removed-clause-mark g t c = λ m p j s.
    let S = c.args.scale in let inner = c.args.inner.now in let outer = c.args.outer.now in let levels = c.args.levels in let k = levels - 1 in
    let u = c.args.stretch.now.u.c in let n = c.args.stretch.now.n.c in let d = c.args.stretch.now.d.c in
    let e : levels ≡ k + 1 = omega (arith, c.if-levels-eq0.false) in
    let first = c.first_half-first.result in let f = c.first_half-first.ensures in
    let held = c.is_held_last.ensures.held ∙ held_as 2 inner S first.u.c first.n.c first.d.c (first_half u) (first_half n) (first_half d) f.u f.n f.d in
    let free : is_held_with 2 inner S (first_half u) (first_half n) (first_half d) ≡ false = sym held ∙ c.if-is_held_last.false in
    let last = c.last_half.result in let l = c.last_half.ensures in
    let late_search = searched_as inner outer last.u.c last.n.c last.d.c (last_half u) (last_half n) (last_half d) m p S k (j + 2 ^ k) l.u l.n l.d (search_last inner outer u n d m p S levels k j e s free) in
    late_held c.mark_between-late.result inner outer m p S levels k j e (removed_of c.mark_between-late.result (sym c.is_removed.ensures ∙ c.if-is_removed.true)) (c.mark_between-late.ensures.mark m p (j + 2 ^ k) late_search)

pub returns-then-is_removed-clause-cost : goal.returns-then-is_removed-clause-cost
returns-then-is_removed-clause-cost g t c = λ m p j s.
    let S = c.args.scale in let inner = c.args.inner.now in let outer = c.args.outer.now in let levels = c.args.levels in let k = levels - 1 in
    let u = c.args.stretch.now.u.c in let n = c.args.stretch.now.n.c in let d = c.args.stretch.now.d.c in
    let e : levels ≡ k + 1 = omega (arith, c.if-levels-eq0.false) in
    let left : is_unexcluded_between outer m p j (j + 2 ^ levels) S ≡ true = sym (left_between outer u n d m p j (j + 2 ^ levels) S s.forms) ∙ sym c.is_left.ensures.left ∙ c.if-not-is_left.false in
    let first = c.first_half-first.result in let f = c.first_half-first.ensures in
    let held = c.is_held_last.ensures.held ∙ held_as 2 inner S first.u.c first.n.c first.d.c (first_half u) (first_half n) (first_half d) f.u f.n f.d in
    let free : is_held_with 2 inner S (first_half u) (first_half n) (first_half d) ≡ false = sym held ∙ c.if-is_held_last.false in
    let last = c.last_half.result in let l = c.last_half.ensures in
    let late_search = searched_as inner outer last.u.c last.n.c last.d.c (last_half u) (last_half n) (last_half d) m p S k (j + 2 ^ k) l.u l.n l.d (search_last inner outer u n d m p S levels k j e s free) in
    cost_of_late outer m p S levels k j e left _ _ _ _ (length outer) (length inner) c.requires.as_many c.is_left.ensures.cost c.is_held_last.ensures.cost (c.mark_between-late.ensures.cost m p (j + 2 ^ k) late_search)

pub returns-clause-mark : goal.returns-clause-mark
returns-clause-mark g t c = λ m p j s.
    let S = c.args.scale in let inner = c.args.inner.now in let outer = c.args.outer.now in let levels = c.args.levels in let k = levels - 1 in
    let u = c.args.stretch.now.u.c in let n = c.args.stretch.now.n.c in let d = c.args.stretch.now.d.c in
    let e : levels ≡ k + 1 = omega (arith, c.if-levels-eq0.false) in
    let first = c.first_half-first.result in let f = c.first_half-first.ensures in
    let held = c.is_held_last.ensures.held ∙ held_as 2 inner S first.u.c first.n.c first.d.c (first_half u) (first_half n) (first_half d) f.u f.n f.d in
    let free : is_held_with 2 inner S (first_half u) (first_half n) (first_half d) ≡ false = sym held ∙ c.if-is_held_last.false in
    let last = c.last_half.result in let l = c.last_half.ensures in
    let late_search = searched_as inner outer last.u.c last.n.c last.d.c (last_half u) (last_half n) (last_half d) m p S k (j + 2 ^ k) l.u l.n l.d (search_last inner outer u n d m p S levels k j e s free) in
    let early_search = searched_as inner outer first.u.c first.n.c first.d.c (first_half u) (first_half n) (first_half d) m p S k j f.u f.n f.d (search_first inner outer u n d m p S levels k j e s free) in
    subst (λ mark. IsMarkBetween mark inner outer m p j (j + 2 ^ levels) S) (sym c.joined.ensures)
    (join_marks c.mark_between-early.result c.mark_between-late.result inner outer m p S levels k j e (not_removed c.mark_between-late.result (sym c.is_removed.ensures ∙ c.if-is_removed.false))
    (c.mark_between-early.ensures.mark m p j early_search) (c.mark_between-late.ensures.mark m p (j + 2 ^ k) late_search))

pub returns-clause-cost : goal.returns-clause-cost
returns-clause-cost g t c = λ m p j s.
    let S = c.args.scale in let inner = c.args.inner.now in let outer = c.args.outer.now in let levels = c.args.levels in let k = levels - 1 in
    let u = c.args.stretch.now.u.c in let n = c.args.stretch.now.n.c in let d = c.args.stretch.now.d.c in
    let e : levels ≡ k + 1 = omega (arith, c.if-levels-eq0.false) in
    let left : is_unexcluded_between outer m p j (j + 2 ^ levels) S ≡ true = sym (left_between outer u n d m p j (j + 2 ^ levels) S s.forms) ∙ sym c.is_left.ensures.left ∙ c.if-not-is_left.false in
    let first = c.first_half-first.result in let f = c.first_half-first.ensures in
    let held = c.is_held_last.ensures.held ∙ held_as 2 inner S first.u.c first.n.c first.d.c (first_half u) (first_half n) (first_half d) f.u f.n f.d in
    let free : is_held_with 2 inner S (first_half u) (first_half n) (first_half d) ≡ false = sym held ∙ c.if-is_held_last.false in
    let last = c.last_half.result in let l = c.last_half.ensures in
    let late_search = searched_as inner outer last.u.c last.n.c last.d.c (last_half u) (last_half n) (last_half d) m p S k (j + 2 ^ k) l.u l.n l.d (search_last inner outer u n d m p S levels k j e s free) in
    let early_search = searched_as inner outer first.u.c first.n.c first.d.c (first_half u) (first_half n) (first_half d) m p S k j f.u f.n f.d (search_first inner outer u n d m p S levels k j e s free) in
    cost_of_both outer m p S levels k j e left _ _ _ _ _ (length outer) (length inner) c.requires.as_many c.is_left.ensures.cost c.is_held_last.ensures.cost
    (c.mark_between-late.ensures.cost m p (j + 2 ^ k) late_search) (c.mark_between-early.ensures.cost m p j early_search)
