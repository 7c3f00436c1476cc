-- As many moves are left as the journal's line says.
use Rattle.strip_journal.proofs.ToldFound.{left_told}
use Rattle.strip_journal.proofs.strip.Strip.left.Goals as goal

pub returns : goal.returns
returns c = left_told c.self.inside.journal c.args.self.now c.self.invariant c.self.view_is
