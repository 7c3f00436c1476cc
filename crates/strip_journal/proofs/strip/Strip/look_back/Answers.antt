-- As many moves are left as the journal's line says.
use Rattle.strip_journal.proofs.SeenBack.{looked_told}
use Rattle.strip_journal.proofs.strip.Strip.look_back.Goals as goal

pub returns : goal.returns
returns c = looked_told c.self.inside.journal c.args.self _ c.self.invariant c.self.view_is c.of.ensures
