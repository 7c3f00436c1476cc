use Rattle.std.proofs.Common.{◌+◌, ◌*◌}
use Rattle.width_bisect.proofs.search.+search.Given as goal

abbrev pub decreases-mark_between : goal.decreases-mark_between
decreases-mark_between l = 2 * l.levels + 1

abbrev pub decreases-mark_by_halves : goal.decreases-mark_by_halves
decreases-mark_by_halves l = 2 * l.levels
