use Rattle.std.proofs.Common.{◌<◌, length}
use Rattle.ray_runs.proofs.slab_at.reached.Given as goal

abbrev pub invariant-loop-i : goal.invariant-loop-i
invariant-loop-i l = l.i < length l.slabs

abbrev pub decreases-loop-i : goal.decreases-loop-i
decreases-loop-i l = l.i
