use Rattle.cert_boxes.proofs.Due.{due_is_for_task}
use Rattle.cert_boxes.proofs.laws.making_law.Goals as goal

pub returns : goal.returns
returns c = due_is_for_task
