use Rattle.std.proofs.Common.{◌∙◌, ◌+◌, ap}
use Rattle.strip_journal.proofs.EditHistories.{goes_straight_by, joined}
use Rattle.strip_journal.proofs.history.EditHistory.put_straight.Goals as goal

pub returns : goal.returns
returns c =
    ap (joined (c.args.at + c.args.count)) c.clear.ensures.items
    ∙ goes_straight_by c.args.at c.args.count c.args.self.now c.requires.straight
