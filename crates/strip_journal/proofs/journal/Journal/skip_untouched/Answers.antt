use Rattle.std.proofs.Common.{◌<◌, arith}
use Rattle.strip_journal.proofs.StoodBy.{passed_at}
use Rattle.strip_journal.proofs.journal.Journal.skip_untouched.Goals as goal

pub returns-clause-passed : goal.returns-clause-passed
returns-clause-passed c =
    let count = c.untouched_edits-count.result in
    let some : 0 < count = omega arith in
    passed_at count c.args.plan.now c.args.self.now c.push_edits.new.self c.requires.journal c.requires.plan some
    c.untouched_edits-count.ensures.alone c.push_edits.ensures
