use Rattle.std.proofs.Common.{All, take}
use Rattle.job_model.specs.Tasks.{IsJobMove}
use Rattle.strip_plan.specs.Cutters.{HasSlabs, HasStacks}
use Rattle.strip_plan.proofs.cutters.cutters_of.Given as goal

abbrev pub invariant-loop-next : goal.invariant-loop-next
invariant-loop-next l =
    All (HasSlabs l.slabs) l.stacks.items × HasStacks l.slabs l.moves l.stacks.items l.places.items l.next-index × All IsJobMove (take l.next-index l.moves)
