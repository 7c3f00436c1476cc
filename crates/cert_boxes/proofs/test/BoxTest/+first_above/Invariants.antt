use Rattle.std.proofs.Common.{◌-◌}
use Rattle.cert_boxes.proofs.test.BoxTest.+first_above.Given as goal

abbrev pub decreases-first_above : goal.decreases-first_above
decreases-first_above l = l.high - l.low
