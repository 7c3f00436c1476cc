-- The cutters were made of the draft's own moves, in its own slabs.
use Rattle.std.proofs.Common.{arith}
use Rattle.strip_plan.proofs.Stacked.{own_plan, own_stacks}
use Rattle.strip_plan.proofs.draft.PlanDraft.new.Goals as goal

pub invariant_of-result : goal.invariant_of-result
invariant_of-result c =
    let cutters = c.in_ok-cutters.cutters in
    let made = c.in_ok-cutters.ensures in
    let moves = c.args.moves.items in
    let valid = own_plan c.args.grid c.args.slabs cutters.slabs c.args.depth moves c.deref.result.now c.args.edits
    c.deref.ensures.value made.slabs c.requires.some made.valid in
    let stacks = own_stacks c.args.slabs moves c.deref.result.now cutters c.deref.ensures.value made.slabs made.stacks in
    (c.requires.shallow, c.requires.few_moves, c.requires.few_edits, c.requires.named, valid, stacks, omega (arith, made.slabs, c.requires.few))
