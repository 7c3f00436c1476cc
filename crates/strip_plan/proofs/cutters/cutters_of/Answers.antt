use Rattle.std.proofs.Common.{◌≡◌, List, ℕ, ◌+◌, ◌<◌, ◌≤◌, All, arith, length, rules, subst, sym}
use Rattle.std.proofs.lemmas.List.{take_all}
use Rattle.std.proofs.lemmas.List.Elements.{All-more}
use Rattle.job_model.specs.Tasks.{IsJobMove, JobMove}
use Rattle.strip_plan.specs.Cutters.{HasStacks, IsStackPlace}
use Rattle.strip_plan.proofs.Places.{no_places, no_stacks, one_more}
use Rattle.strip_plan.proofs.cutters.cutters_of.Goals as goal

pub loop-next-init : goal.loop-next-init
loop-next-init c = (
  no_stacks c.args.slabs c.new-stacks.result.items c.new-stacks.ensures.items,
  no_places c.args.slabs c.args.moves.now c.new-stacks.result.items c.in_ok-places.places.items c.in_ok-places.ensures.items,
  λ k d lt. absurd (omega (arith, lt)),
)

pub loop-next-preserved : goal.loop-next-preserved
loop-next-preserved c =
    let next = c.next-item.result in
    let place = c.in_ok-place.place in
    let here = subst (λ (m : JobMove). IsStackPlace c.place_of.new.stacks.items m.cutter c.args.slabs place) c.next.view_is c.in_ok-place.ensures.place in
    let more = one_more c.args.slabs c.args.moves.now c.loop-next.stacks.items c.place_of.new.stacks.items c.loop-next.places.items c.loop-next.next-index next place
    c.loop-next.invariant.1 c.in_ok-place.ensures.kept c.next-item.is here in
    let lt : c.loop-next.next-index < length c.args.moves.now = search rules in
    let valid : IsJobMove next = subst IsJobMove c.next.view_is c.next.invariant in
    let all = All-more IsJobMove c.args.moves.now c.loop-next.next-index next lt c.loop-next.invariant.2 (subst IsJobMove c.next-item.is valid) in (
      c.in_ok-place.ensures.all,
      subst (λ (places : List ℕ). HasStacks c.args.slabs c.args.moves.now c.place_of.new.stacks.items places (c.loop-next.next-index + 1)) (sym c.in_ok-push.ensures.items) more,
      all,
    )

pub returns-clause-valid : goal.returns-clause-valid
returns-clause-valid c =
    let moves = c.args.moves.now in
    let all : length moves ≤ c.loop-next.next-index = search rules in
    subst (All IsJobMove) (take_all c.loop-next.next-index moves all) c.loop-next.invariant.2

pub returns-clause-stacks : goal.returns-clause-stacks
returns-clause-stacks c =
    let moves = c.args.moves.now in
    let all : c.loop-next.next-index ≡ length moves = search rules in
    subst (HasStacks c.args.slabs moves c.loop-next.stacks.items c.loop-next.places.items) all c.loop-next.invariant.1

pub place_of-requires-clause-all : goal.place_of-requires-clause-all
place_of-requires-clause-all c = c.loop-next.invariant.0
