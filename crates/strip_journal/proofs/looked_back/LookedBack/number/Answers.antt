use Rattle.strip_journal.proofs.SeenBack.{number_seen}
use Rattle.strip_journal.proofs.looked_back.LookedBack.number.Goals as goal

pub returns-clause-strip : goal.returns-clause-strip
returns-clause-strip c =
    number_seen c.self.inside.journal c.args.self.now c.self.inside.place c.self.inside.left c.self.invariant c.self.view_is
