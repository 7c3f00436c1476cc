use Rattle.std.proofs.Common.{◌∙◌, ◌||◌, ◌*◌, ◌^◌, ◌%◌, ap}
use Rattle.vf_spans.specs.Words.{has_bit}
use Rattle.vf_spans.proofs.WordBits.{has_bit-or, has_bit-one}
use Rattle.vf_spans.proofs.bits.with_bit.Goals as goal

pub returns : goal.returns
returns c = λ k lt. has_bit-or c.args.word (1 * 2 ^ c.args.b % 2 ^ 64) k ∙ ap (λ p. has_bit c.args.word k || p) (has_bit-one c.args.b k c.requires)
