use Rattle.std.proofs.Common.{ap, not, sym}
use Rattle.vf_text.specs.Blanks.{is_blank}
use Rattle.edit_plan.proofs.CountedAhead.{last_one, one_more}
use Rattle.edit_plan.proofs.words.word_len.Goals as goal

pub loop-i-preserved : goal.loop-i-preserved
loop-i-preserved c =
    one_more (λ b. not (is_blank b)) c.args.text.now c.loop-i.i c.loop-i-test.true (ap not (sym c.if-is_blank_byte.ensures)) c.loop-i.invariant

pub returns-then-is_blank_byte-clause-count : goal.returns-then-is_blank_byte-clause-count
returns-then-is_blank_byte-clause-count c =
    last_one (λ b. not (is_blank b)) c.args.text.now c.loop-i.i c.loop-i-test.true (ap not (sym c.if-is_blank_byte.ensures)) c.loop-i.invariant
