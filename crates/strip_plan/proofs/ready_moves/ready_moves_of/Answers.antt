use Rattle.std.proofs.Common.{◌≡◌, ℕ, ◌<◌, ap, length, rules, subst}
use Rattle.space.specs.Sweeps.{SweepOf}
use Rattle.cutter_slabs.specs.Stacks.{StacksOf}
use Rattle.wanted_marks.specs.Rays.{move_of}
use Rattle.wanted_marks.specs.Ready.{IsReadyMove}
use Rattle.job_model.specs.Tasks.{JobMove}
use Rattle.strip_plan.specs.ReadyMoves.{HasReadyMoves}
use Rattle.strip_plan.proofs.Marked.{stacks_are, stacks_within}
use Rattle.strip_plan.proofs.Tables.{more_ready_moves}
use Rattle.strip_plan.proofs.ready_moves.ready_moves_of.Goals as goal

pub loop-n-preserved : goal.loop-n-preserved
loop-n-preserved c =
    let moves = c.args.moves.now in
    let next = c.index-moves-n.result in
    let slabs = c.args.cutters.now.slabs in
    let depth = c.args.depth in
    let lt : c.loop-n.n < length moves = search rules in
    let own = stacks_are moves slabs c.args.cutters.now.stacks.items c.args.cutters.now.places.items c.loop-n.n c.index-place.result.now next c.index.result.now
    c.requires.stacks lt c.index-place.ensures c.index.ensures c.index-moves-n.is in
    let by_stacks = subst (λ (s : StacksOf). IsReadyMove c.new.result (move_of s c.next.inside.sweep depth)) own c.new.ensures in
    let is = subst (λ (m : SweepOf). IsReadyMove c.new.result record { cutter = next.cutter; slabs = slabs; sweep = m; depth = depth })
    (ap (λ (m : JobMove). m.sweep) c.next.view_is) by_stacks in
    let more = more_ready_moves slabs depth moves c.args.from c.loop-n.n c.loop-n.ready.items next c.new.result c.loop-n.invariant c.index-moves-n.is is in
    rw c.in_ok-push.ensures.items more

pub returns : goal.returns
returns c =
    let all : c.loop-n.n ≡ c.args.to = search rules in
    subst (λ (n : ℕ). HasReadyMoves c.args.cutters.now.slabs c.args.depth c.args.moves.now c.args.from n c.loop-n.ready.items) all c.loop-n.invariant

pub index-requires : goal.index-requires
index-requires c =
    let lt : c.loop-n.n < length c.args.moves.now = search rules in
    let within = stacks_within c.args.moves.now c.args.cutters.now.slabs c.args.cutters.now.stacks.items c.args.cutters.now.places.items c.loop-n.n c.index-place.result.now c.index-moves-n.result
    c.requires.stacks lt c.index-place.ensures c.index-moves-n.is in search (rules, within)
