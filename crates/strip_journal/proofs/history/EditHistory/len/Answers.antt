use Rattle.std.proofs.Common.{arith}
use Rattle.strip_journal.proofs.EditHistories.{seen_length}
use Rattle.strip_journal.proofs.history.EditHistory.len.Goals as goal

pub returns : goal.returns
returns c =
    let line = c.self.inside in
    let all = seen_length line.straight line.rest.items c.args.self.now c.self.view_is in
    let size = line.rest.ok.0 in let is = c.len.ensures in omega (arith, all, size, is)
