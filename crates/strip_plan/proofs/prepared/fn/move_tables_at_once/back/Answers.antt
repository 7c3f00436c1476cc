-- the halves are those that the workers made
use Rattle.strip_plan.proofs.prepared.fn.move_tables_at_once.back.Goals as goal

pub returns : goal.returns
returns g c = c.halves_by.ensures
