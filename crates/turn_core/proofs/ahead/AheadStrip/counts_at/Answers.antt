use Rattle.turn_core.proofs.Seen.{totals_seen}
use Rattle.turn_core.proofs.ahead.AheadStrip.counts_at.Goals as goal

pub returns : goal.returns
returns c =
    totals_seen c.self.inside.strip c.args.self.now c.self.inside.seen.value c.args.version c.counts_at.result c.self.view_is c.counts_at.ensures
