use Rattle.cert_boxes.proofs.Times.{times_are_covered}
use Rattle.cert_boxes.proofs.laws.time_laws.Goals as goal

pub returns : goal.returns
returns c = times_are_covered
