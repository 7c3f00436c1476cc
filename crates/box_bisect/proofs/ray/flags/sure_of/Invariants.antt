use Rattle.box_bisect.specs.Between.{is_removed_mark}
use Rattle.box_bisect.proofs.RayFlags.{AreFlagged}
use Rattle.box_bisect.proofs.ray.flags.sure_of.Given as goal

abbrev pub invariant-loop-l : goal.invariant-loop-l
invariant-loop-l l = AreFlagged is_removed_mark l.marks l.set l.l
