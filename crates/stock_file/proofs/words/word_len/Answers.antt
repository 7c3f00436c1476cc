use Rattle.std.proofs.Common.{◌==◌, ap, eq-eqb, get_or, not}
use Rattle.std.proofs.lemmas.Bool.{ne_eqb}
use Rattle.vf_text.specs.Blanks.{blank_space}
use Rattle.cert_lines.proofs.CountedAhead.{last_one, one_more}
use Rattle.stock_file.proofs.words.word_len.Goals as goal

pub loop-i-preserved : goal.loop-i-preserved
loop-i-preserved c =
    one_more (λ b. not (b == blank_space)) c.args.text.now c.loop-i.i c.loop-i-test.true
    (ap not (ne_eqb (get_or c.args.text.now c.loop-i.i 0) blank_space c.if-b-eq32.false)) c.loop-i.invariant

pub returns-then-b-eq32-clause-count : goal.returns-then-b-eq32-clause-count
returns-then-b-eq32-clause-count c =
    last_one (λ b. not (b == blank_space)) c.args.text.now c.loop-i.i c.loop-i-test.true
    (ap not (eq-eqb (get_or c.args.text.now c.loop-i.i 0) blank_space c.if-b-eq32.true)) c.loop-i.invariant
