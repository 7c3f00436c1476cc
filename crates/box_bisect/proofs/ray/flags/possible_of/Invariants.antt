use Rattle.box_bisect.specs.RayMarks.{is_possible_mark}
use Rattle.box_bisect.proofs.RayFlags.{AreFlagged}
use Rattle.box_bisect.proofs.ray.flags.possible_of.Given as goal

abbrev pub invariant-loop-l : goal.invariant-loop-l
invariant-loop-l l = AreFlagged is_possible_mark l.marks l.set l.l
