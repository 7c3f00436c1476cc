use Rattle.std.proofs.Common.{◌≡◌, ◌≤◌, ◌<◌, false, get_or}
use Rattle.box_bisect.specs.SlabTests.{no_slab}
use Rattle.width_bisect.proofs.slab_search.walk_down.Given as goal

abbrev pub invariant-loop-at : goal.invariant-loop-at
invariant-loop-at g l = record {
  at_most : l.at ≤ l.high;
  after : l.at < l.high → g.T.Reaches.reached l.test (get_or l.slabs l.at no_slab) ≡ false;
}

abbrev pub decreases-loop-at : goal.decreases-loop-at
decreases-loop-at g l = l.at
