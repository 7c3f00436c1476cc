use Rattle.std.proofs.Common.{◌-◌}
use Rattle.box_bisect.proofs.slab_search.+first_unreached.Given as goal

abbrev pub decreases-first_unreached : goal.decreases-first_unreached
decreases-first_unreached g l = l.high - l.low
