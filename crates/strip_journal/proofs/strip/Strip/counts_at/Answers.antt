-- The journal's totals are the strip's.
use Rattle.strip_journal.proofs.ToldStates.{totals_told}
use Rattle.strip_journal.proofs.strip.Strip.counts_at.Goals as goal

pub returns : goal.returns
returns c = totals_told c.self.inside.journal c.args.self.now c.args.version c.totals_at.result c.self.view_is c.totals_at.ensures
