use Rattle.std.proofs.Common.{◌+◌, ◌*◌, ◌||◌, arith, sym, ap₂, ◌∙◌}
use Rattle.vf_spans.proofs.WordBits.{has_bit-or, has_bit-zero}
use Rattle.vf_spans.proofs.WordRanges.{range_more}
use Rattle.ray_words.proofs.range_word.word_of.Goals as goal

pub loop-r-init : goal.loop-r-init
loop-r-init c = λ b lt. has_bit-zero b

pub loop-r-preserved : goal.loop-r-preserved
loop-r-preserved c =
    λ b lt. has_bit-or c.loop-r.word c.bits_within-word.result b
    ∙ ap₂ (λ p q. p || q) (c.loop-r.invariant b lt) (c.bits_within-word.ensures b lt)
    ∙ sym (range_more c.args.set.now c.loop-r.r (64 * c.args.n + b) c.range.result (omega arith) c.range.ensures.range)
