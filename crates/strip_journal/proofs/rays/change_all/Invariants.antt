use Rattle.std.proofs.Common.{take}
use Rattle.strip_journal.specs.Steps.{AreRaysTurned}
use Rattle.strip_journal.proofs.rays.change_all.Given as goal

abbrev pub invariant-loop-k : goal.invariant-loop-k
invariant-loop-k l = AreRaysTurned l.initial.rays l.rays (take l.k l.changes) l.is_undo
