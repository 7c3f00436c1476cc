use Rattle.std.proofs.Common.{◌≡◌, true, ◌<◌, ◌^◌, List, ℤ, ap, length, rules, subst}
use Rattle.space.specs.Sweeps.{SweepOf}
use Rattle.cutter_marks.specs.MarkBy.{is_possible_by}
use Rattle.cutter_slabs.specs.Stacks.{StacksOf}
use Rattle.sweep_boxes.specs.Boxes.{IsInBox}
use Rattle.sweep_boxes.specs.Cylinders.{IsInCylinder}
use Rattle.job_model.specs.Tasks.{JobMove}
use Rattle.strip_plan.specs.Cylinders.{HasCylinders}
use Rattle.strip_plan.proofs.Cylindered.{more_cylinders}
use Rattle.strip_plan.proofs.Marked.{stacks_are, stacks_within}
use Rattle.strip_plan.proofs.cylinders.cylinders_of.Goals as goal

pub loop-n-preserved : goal.loop-n-preserved
loop-n-preserved c depth =
    let moves = c.args.moves.now in
    let next = c.index-moves-n.result in
    let slabs = c.args.cutters.now.slabs in
    let region = c.bounds-region.result in
    let cylinder = c.cylinder_of.result in
    let lt : c.loop-n.n < length moves = search rules in
    let own = stacks_are moves slabs c.args.cutters.now.stacks.items c.args.cutters.now.places.items c.loop-n.n c.index-place.result.now next c.index.result.now
    c.requires lt c.index-place.ensures c.index.ensures c.index-moves-n.is in
    let by_stacks =
    subst (λ (s : StacksOf). (p : List ℤ) → IsInBox region p → is_possible_by s.cutter s.slabs c.next.inside.sweep p (2 ^ depth) ≡ true → IsInCylinder cylinder p) own
    (λ p. c.cylinder_of.ensures p depth) in
    let held =
    subst (λ (m : SweepOf). (p : List ℤ) → IsInBox region p → is_possible_by next.cutter slabs m p (2 ^ depth) ≡ true → IsInCylinder cylinder p)
    (ap (λ (m : JobMove). m.sweep) c.next.view_is) by_stacks in
    let more = more_cylinders c.args.grid.now slabs depth moves c.loop-n.cylinders.items c.loop-n.n next region cylinder (c.loop-n.invariant depth) c.index-moves-n.is
    c.bounds-region.ensures.holds held in
    rw c.in_ok-push.ensures.items more

pub returns : goal.returns
returns c depth =
    let all : c.loop-n.n ≡ length c.args.moves.now = search rules in
    subst (HasCylinders c.args.grid.now c.args.cutters.now.slabs depth c.args.moves.now c.loop-n.cylinders.items) all (c.loop-n.invariant depth)

pub index-requires : goal.index-requires
index-requires c =
    let lt : c.loop-n.n < length c.args.moves.now = search rules in
    let within = stacks_within c.args.moves.now c.args.cutters.now.slabs c.args.cutters.now.stacks.items c.args.cutters.now.places.items c.loop-n.n c.index-place.result.now c.index-moves-n.result
    c.requires lt c.index-place.ensures c.index-moves-n.is in search (rules, within)
