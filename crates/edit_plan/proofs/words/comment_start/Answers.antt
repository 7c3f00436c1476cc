use Rattle.std.proofs.Common.{◌==◌, ap, eq-eqb, get_or, not}
use Rattle.std.proofs.lemmas.Bool.{ne_eqb}
use Rattle.edit_plan.specs.Words.{hash}
use Rattle.edit_plan.proofs.CountedAhead.{last_one, one_more}
use Rattle.edit_plan.proofs.words.comment_start.Goals as goal

pub loop-i-preserved : goal.loop-i-preserved
loop-i-preserved c =
    one_more (λ b. not (b == hash)) c.args.line.now c.loop-i.i c.loop-i-test.true
    (ap not (ne_eqb (get_or c.args.line.now c.loop-i.i 0) hash c.if-b-eq35.false)) c.loop-i.invariant

pub returns-then-b-eq35-clause-count : goal.returns-then-b-eq35-clause-count
returns-then-b-eq35-clause-count c =
    last_one (λ b. not (b == hash)) c.args.line.now c.loop-i.i c.loop-i-test.true
    (ap not (eq-eqb (get_or c.args.line.now c.loop-i.i 0) hash c.if-b-eq35.true)) c.loop-i.invariant
