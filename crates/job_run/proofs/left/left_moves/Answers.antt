use Rattle.std.proofs.Common.{length}
use Rattle.std.proofs.lemmas.Result.{IfOk-weaker}
use Rattle.job_run.specs.Left.{AreFirstTold, AreTold}
use Rattle.job_run.proofs.Telling.{all_told}
use Rattle.job_run.proofs.left.left_moves.Goals as goal

pub returns : goal.returns
returns c =
    let plan = c.args.plan.now in
    let numbers = c.in_ok-numbers in
    let read = c.deref.result.now in
    IfOk-weaker c.told.result (λ told. AreFirstTold plan read (length read) told.items) (λ told. AreTold plan told.items)
    (λ told first. all_told plan numbers.numbers.items read told.items c.deref.ensures.value numbers.ensures.left numbers.ensures.named first)
    c.told.ensures
