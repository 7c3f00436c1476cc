use Rattle.std.proofs.Common.{sym, ◌∙◌}
use Rattle.std.proofs.lemmas.Bool.{iff_false}
use Rattle.vf_spans.proofs.WordBits.{has_bit-zero}
use Rattle.ray_words.proofs.Ranges.{not_entered}
use Rattle.ray_words.proofs.range_word.bits_within.Goals as goal

pub returns-else-enters : goal.returns-else-enters
returns-else-enters c =
    λ b lt. has_bit-zero b ∙ sym (not_entered c.args.n c.args.range.0 c.args.range.1 b (iff_false c.enters.ensures c.if-enters.false) lt)
