use Rattle.std.proofs.Common.{◌<◌, length, arith}
use Rattle.job_run.proofs.Asked.{asked_more}
use Rattle.job_run.proofs.run.answered.Goals as goal

pub loop-n-preserved : goal.loop-n-preserved
loop-n-preserved c =
    let n = c.loop-n.n in
    let lt : n < length c.args.queries.now = omega arith in
    asked_more c.args.queries.now c.args.answers.now n _ _ c.loop-n.pairs.items c.push.new.self.items c.requires lt c.loop-n.invariant
    c.in_ok-push.ensures.items
