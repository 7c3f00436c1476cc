use Rattle.std.proofs.Common.{◌+◌, ◌&&◌, arith, sym, ap₂, ◌∙◌}
use Rattle.vf_spans.proofs.WordBits.{has_bit-and, has_bit-zero}
use Rattle.near_points.proofs.Trimming.{in_none_from, in_range_on}
use Rattle.near_points.proofs.strip.bits_between.Goals as goal

pub returns-then-range : goal.returns-then-range
returns-then-range c = λ b below. has_bit-zero b ∙ sym (in_none_from (c.args.first + b) c.args.range.0 c.args.range.1 (omega (arith, c.if-range.true)))

pub returns : goal.returns
returns c = λ b below.
    has_bit-and c.bits_from.result c.lowest_bits.result b ∙ ap₂ (λ u v. u && v) (c.bits_from.ensures b below) (c.lowest_bits.ensures b below)
    ∙ in_range_on c.args.first b c.args.range.0 c.args.range.1 c.requires.from (omega (arith, c.requires.from, c.if-range.false))
