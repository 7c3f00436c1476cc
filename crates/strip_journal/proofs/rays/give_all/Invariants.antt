use Rattle.std.proofs.Common.{false, take}
use Rattle.strip_journal.specs.Steps.{AreRaysTurned}
use Rattle.strip_journal.proofs.rays.give_all.Given as goal

abbrev pub invariant-loop-change : goal.invariant-loop-change
invariant-loop-change l = AreRaysTurned l.initial.rays l.rays (take l.change-index l.changes) false
