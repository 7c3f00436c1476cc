use Rattle.strip_plan.specs.Boxed.{ArePushed}
use Rattle.strip_plan.proofs.boxes.push_each.Given as goal

abbrev pub invariant-loop-places : goal.invariant-loop-places
invariant-loop-places l = ArePushed l.grid l.held l.initial.boxes.items l.boxes.items l.places-index
