use Rattle.std.proofs.Common.{sym}
use Rattle.stock_file.proofs.TakenLemmas.{taken}
use Rattle.stock_file.proofs.line.Ranges.add.Goals as goal

pub returns-clause-added : goal.returns-clause-added
returns-clause-added c =
    taken c.args.self.now c.args.lo c.args.hi c.push_range.new.self (sym c.if-not-follows.ensures) c.push_range.ensures.bound c.in_ok-push_range.ensures.added
