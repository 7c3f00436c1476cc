use Rattle.strip_journal.proofs.SeenBack.{left_seen}
use Rattle.strip_journal.proofs.looked_back.LookedBack.left.Goals as goal

pub returns-clause-within : goal.returns-clause-within
returns-clause-within c = left_seen c.self.inside.journal c.args.self.now c.self.inside.place c.self.inside.left c.self.invariant c.self.view_is
