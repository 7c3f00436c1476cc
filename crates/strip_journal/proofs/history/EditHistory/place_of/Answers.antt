use Rattle.std.proofs.Common.{◌≡◌, ◌∙◌, ℕ, ◌<◌, List, length, take, slice_index, arith, sym, ap, subst}
use Rattle.std.proofs.lemmas.List.{length-take-le}
use Rattle.vf_spans.specs.Edges.{Ascends}
use Rattle.strip_journal.proofs.EditHistories.{ahead_within, rest_ascends, seen_straight, stands_behind, stands_nowhere}
use Rattle.strip_journal.proofs.history.EditHistory.place_of.Goals as goal

pub returns-then-edit-at : goal.returns-then-edit-at
returns-then-edit-at c =
    let line = c.self.inside in (
      c.if-edit-at.true,
      seen_straight line.straight line.rest.items c.args.self.now c.self.view_is c.args.edit c.if-edit-self.true,
    )

pub returns-else-edit-at : goal.returns-else-edit-at
returns-else-edit-at c = λ k low is.
    let line = c.self.inside in
    let own = seen_straight line.straight line.rest.items c.args.self.now c.self.view_is k (omega (arith, low)) in
    omega (arith, own, is, low)

pub slice_bounds-place_in-end : goal.slice_bounds-place_in-end
slice_bounds-place_in-end c =
    let line = c.self.inside in
    let fits = ahead_within line.straight line.rest.items c.args.self.now c.self.view_is c.args.at c.args.edit c.requires.within in
    sym
    (ap (λ (edits : List ℕ). length (take c.saturating_sub-ahead.result edits)) c.as_slice.ensures.value
    ∙ length-take-le c.saturating_sub-ahead.result line.rest.items
    (let is = c.saturating_sub-ahead.ensures in omega (arith, fits, is)))

pub place_in-requires : goal.place_in-requires
place_in-requires c =
    let line = c.self.inside in
    let fits = ahead_within line.straight line.rest.items c.args.self.now c.self.view_is c.args.at c.args.edit c.requires.within in
    let whole = subst (λ (edits : List ℕ). Ascends edits) (sym c.self.view_is) c.requires.ascends in
    subst (λ (edits : List ℕ). Ascends (take c.saturating_sub-ahead.result edits)) (sym c.as_slice.ensures.value)
    (rest_ascends line.straight c.saturating_sub-ahead.result line.rest.items
    (let is = c.saturating_sub-ahead.ensures in omega (arith, fits, is)) whole)

pub returns-in-None : goal.returns-in-None
returns-in-None c =
    let line = c.self.inside in
    let none = subst
    (λ (edits : List ℕ). (k : ℕ) → k < length edits → slice_index edits k ≡ c.args.edit → ⊥)
    (ap (λ (edits : List ℕ). take c.saturating_sub-ahead.result edits) c.as_slice.ensures.value
    ∙ ap (λ n. take n line.rest.items) c.saturating_sub-ahead.ensures) c.in-None.ensures in
    stands_nowhere line.straight line.rest.items c.args.self.now c.self.view_is c.args.at c.args.edit c.requires.within (omega arith) none

pub returns-in-Some : goal.returns-in-Some
returns-in-Some c =
    let line = c.self.inside in
    let some = subst
    (λ (edits : List ℕ). (c.in-Some.k < length edits) × (slice_index edits c.in-Some.k ≡ c.args.edit))
    (ap (λ (edits : List ℕ). take c.saturating_sub-ahead.result edits) c.as_slice.ensures.value
    ∙ ap (λ n. take n line.rest.items) c.saturating_sub-ahead.ensures) c.in-Some.ensures in
    stands_behind line.straight line.rest.items c.args.self.now c.self.view_is c.args.at c.args.edit c.requires.within c.in-Some.k some.0
    some.1
