-- The stacks at the place of a move, its motion and the depth are that move as the plan has it.
use Rattle.std.proofs.Common.{◌∙◌, ◌≡◌, ◌<◌, List, ap, length, refl, rules, slice_get, subst, sym}
use Rattle.std.proofs.lemmas.Option.{slice_get_read}
use Rattle.wanted_marks.specs.Ready.{IsReadyMove}
use Rattle.job_model.specs.Tasks.{JobMove, PlanOf}
use Rattle.strip_plan.specs.Plans.{HasNumber}
use Rattle.strip_plan.proofs.Marked.{marker_is, stacks_within}
use Rattle.strip_plan.proofs.draft.PlanDraft.marker.Goals as goal

pub index-requires-2 : goal.index-requires-2
index-requires-2 c =
    let s = c.self.inside in
    let lt : c.args.number < length s.moves.items = search rules in
    let within = stacks_within s.moves.items s.cutters.slabs s.cutters.stacks.items s.cutters.places.items c.args.number
    c.index-place.result.now c.index.result.now c.self.invariant.5 lt c.index-place.ensures c.index.ensures in
    search (rules, within)

pub of_ready-requires : goal.of_ready-requires
of_ready-requires c =
    let s = c.self.inside in
    let plan = c.args.self.now in
    let next = c.index.result.now in
    let moves : s.moves.items ≡ plan.moves = ap (λ (p : PlanOf). p.moves) c.self.view_is in
    let lt : c.args.number < length s.moves.items = search rules in
    let named : HasNumber plan c.args.number next = ap (λ (all : List JobMove). slice_get all c.args.number) (sym moves)
    ∙ slice_get_read s.moves.items (length s.moves.items) c.args.number next refl lt c.index.ensures in
    let is = marker_is plan s.moves.items s.cutters.slabs s.depth s.cutters.stacks.items s.cutters.places.items c.args.number
    c.index-place.result.now next next c.index-2.result.now c.behind-self.inside.sweep moves
    (ap (λ (p : PlanOf). p.slabs) c.self.view_is) (ap (λ (p : PlanOf). p.depth) c.self.view_is) c.self.invariant.5 lt
    c.index-place.ensures c.index-2.ensures c.index.ensures (ap (λ (m : JobMove). m.sweep) c.behind-self.view_is) named in
    subst (IsReadyMove c.args.ready.now) (sym is) (c.requires.ready next named)

pub returns-clause-marker : goal.returns-clause-marker
returns-clause-marker c move named =
    let s = c.self.inside in
    c.of_ready.ensures
    ∙ marker_is c.args.self.now s.moves.items s.cutters.slabs s.depth s.cutters.stacks.items s.cutters.places.items c.args.number
    c.index-place.result.now move c.index.result.now c.index-2.result.now c.behind-self.inside.sweep
    (ap (λ (p : PlanOf). p.moves) c.self.view_is) (ap (λ (p : PlanOf). p.slabs) c.self.view_is)
    (ap (λ (p : PlanOf). p.depth) c.self.view_is) c.self.invariant.5 (search rules) c.index-place.ensures c.index-2.ensures
    c.index.ensures (ap (λ (m : JobMove). m.sweep) c.behind-self.view_is) named
