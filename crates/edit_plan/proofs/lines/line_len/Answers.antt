use Rattle.std.proofs.Common.{◌==◌, ap, eq-eqb, get_or, not}
use Rattle.std.proofs.lemmas.Bool.{ne_eqb}
use Rattle.vf_io.specs.Pieces.{line_feed}
use Rattle.edit_plan.proofs.CountedAhead.{last_one, one_more}
use Rattle.edit_plan.proofs.lines.line_len.Goals as goal

pub loop-i-preserved : goal.loop-i-preserved
loop-i-preserved c =
    one_more (λ b. not (b == line_feed)) c.args.text.now c.loop-i.i c.loop-i-test.true
    (ap not (ne_eqb (get_or c.args.text.now c.loop-i.i 0) line_feed c.if-b-eq10.false)) c.loop-i.invariant

pub returns-then-b-eq10-clause-count : goal.returns-then-b-eq10-clause-count
returns-then-b-eq10-clause-count c =
    last_one (λ b. not (b == line_feed)) c.args.text.now c.loop-i.i c.loop-i-test.true
    (ap not (eq-eqb (get_or c.args.text.now c.loop-i.i 0) line_feed c.if-b-eq10.true)) c.loop-i.invariant
