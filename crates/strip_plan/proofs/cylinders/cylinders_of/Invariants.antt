use Rattle.std.specs.Prelude.{ℕ}
use Rattle.strip_plan.specs.Cylinders.{HasCylinders}
use Rattle.strip_plan.proofs.cylinders.cylinders_of.Given as goal

abbrev pub invariant-loop-n : goal.invariant-loop-n
invariant-loop-n l = (depth : ℕ) → HasCylinders l.grid l.cutters.slabs depth l.moves l.cylinders.items l.n
