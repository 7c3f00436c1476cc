use Rattle.std.proofs.Common.{◌≡◌, ◌+◌, List, length, sym, subst, arith}
use Rattle.job_run.specs.Left.{AreFirstTold}
use Rattle.job_run.specs.declared.left.LeftMove.{LeftMove}
use Rattle.job_run.proofs.Telling.{told_more}
use Rattle.job_run.proofs.left.told.Goals as goal

pub loop-j-preserved : goal.loop-j-preserved
loop-j-preserved c =
    let plan = c.args.plan.now in
    let numbers = c.args.numbers.now in
    let j = c.loop-j.j in
    let before : List LeftMove = c.loop-j.told.items in
    let after : List LeftMove = c.push.new.self.items in
    let pushed : after ≡ _ = c.in_ok-push.ensures.items in
    subst (λ (z : List LeftMove). AreFirstTold plan numbers (j + 1) z) (sym pushed)
    (told_more plan numbers j before c.told_of.result c.loop-j.invariant c.told_of.ensures)

pub returns : goal.returns
returns c =
    let plan = c.args.plan.now in
    let numbers = c.args.numbers.now in
    let all : c.loop-j.j ≡ length numbers = omega (arith, c.loop-j-test.false, c.loop-j.auto.j-end) in
    subst (λ n. AreFirstTold plan numbers n c.loop-j.told.items) all c.loop-j.invariant
