use Rattle.std.proofs.Common.{◌≡◌, ◌<◌, List, ap, length, rules, subst, sym}
use Rattle.space.specs.Sweeps.{SweepOf}
use Rattle.cutter_slabs.specs.Stacks.{StacksOf}
use Rattle.sweep_boxes.specs.declared.point_box.PointBox.{PointBox}
use Rattle.job_model.specs.Tasks.{JobMove}
use Rattle.strip_plan.specs.Boxed.{Covers, HasBoxes}
use Rattle.strip_plan.proofs.Boxed.{more_boxes, no_boxes}
use Rattle.strip_plan.proofs.Marked.{stacks_are, stacks_within}
use Rattle.strip_plan.proofs.boxes.boxes_of.Goals as goal

pub loop-n-init : goal.loop-n-init
loop-n-init c =
    let made = c.in_ok-made.made in
    no_boxes c.args.grid.now c.args.cutters.now.slabs c.args.depth c.args.moves.now made.hulls.items made.boxes.items made.starts.items
    c.in_ok-made.ensures.hulls c.in_ok-made.ensures.boxes c.in_ok-made.ensures.starts

pub loop-n-preserved : goal.loop-n-preserved
loop-n-preserved c =
    let grid = c.args.grid.now in
    let moves = c.args.moves.now in
    let next = c.index-moves-n.result in
    let slabs = c.args.cutters.now.slabs in
    let old = c.loop-n.made.boxes.items in
    let new = c.push_several.new.boxes.items in
    let region = c.bounds-region.result in
    let held = c.deref.result.now in
    let lt : c.loop-n.n < length moves = search rules in
    let ends : c.len.result ≡ length new = search rules in
    let own = stacks_are moves slabs c.args.cutters.now.stacks.items c.args.cutters.now.places.items c.loop-n.n c.index-place.result.now next c.index.result.now
    c.requires.stacks lt c.index-place.ensures c.index.ensures c.index-moves-n.is in
    let by_list = subst (λ (xs : List PointBox). Covers xs region c.index.result.now c.next.inside.sweep c.args.depth) (sym c.deref.ensures.value) c.in_ok-held.ensures in
    let by_stacks = subst (λ (s : StacksOf). Covers held region s c.next.inside.sweep c.args.depth) own by_list in
    let covers = subst (λ (m : SweepOf). Covers held region (record { cutter = next.cutter; slabs = slabs }) m c.args.depth) (ap (λ (m : JobMove). m.sweep) c.next.view_is) by_stacks in
    let more = more_boxes grid slabs c.args.depth moves c.loop-n.made.hulls.items old new c.loop-n.made.starts.items c.loop-n.n next region held c.in_ok-hull.hull c.len.result c.loop-n.invariant
    ends c.index-moves-n.is c.bounds-region.ensures.holds covers c.in_ok-hull.ensures in
    rw (c.in_ok-push.ensures.items, c.in_ok-push-2.ensures.items) more

pub returns : goal.returns
returns c =
    let all : c.loop-n.n ≡ length c.args.moves.now = search rules in
    subst (HasBoxes c.args.grid.now c.args.cutters.now.slabs c.args.depth c.args.moves.now c.loop-n.made.hulls.items c.loop-n.made.boxes.items c.loop-n.made.starts.items) all c.loop-n.invariant

pub index-requires : goal.index-requires
index-requires c =
    let lt : c.loop-n.n < length c.args.moves.now = search rules in
    let within = stacks_within c.args.moves.now c.args.cutters.now.slabs c.args.cutters.now.stacks.items c.args.cutters.now.places.items c.loop-n.n c.index-place.result.now c.index-moves-n.result
    c.requires.stacks lt c.index-place.ensures c.index-moves-n.is in search (rules, within)

pub push_several-requires : goal.push_several-requires
push_several-requires c = c.loop-n.invariant.boxes_fit
