use Rattle.std.proofs.Common.{◌+◌, ◌*◌}
use Rattle.cert_boxes.proofs.cover.+cover.Given as goal

abbrev pub decreases-cover_of : goal.decreases-cover_of
decreases-cover_of l = 2 * l.halvings + 1

abbrev pub decreases-cover_by : goal.decreases-cover_by
decreases-cover_by l = 2 * l.halvings
