use Rattle.std.proofs.Common.{◌-◌, length}
use Rattle.width_bisect.specs.Turns.{IsReachedBefore}
use Rattle.width_bisect.proofs.slab_search.walk_up.Given as goal

abbrev pub invariant-loop-at : goal.invariant-loop-at
invariant-loop-at g l = IsReachedBefore (g.T.Reaches.reached l.test) l.slabs l.at

abbrev pub decreases-loop-at : goal.decreases-loop-at
decreases-loop-at g l = length l.slabs - l.at
