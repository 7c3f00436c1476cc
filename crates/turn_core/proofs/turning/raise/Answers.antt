use Rattle.std.proofs.Common.{arith}
use Rattle.turn_core.proofs.turning.raise.Goals as goal

pub returns-clause-ok : goal.returns-clause-ok
returns-clause-ok c =
    let raised = c.loop-strip.invariant in
    let later = raised.later in let most = raised.most in let done = c.done.ensures.done in let at_end = c.loop-strip-test.false in
    record { job = raised.job; number = raised.number; done = omega arith }
