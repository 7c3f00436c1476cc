use Rattle.std.proofs.Common.{◌∙◌, sym, ap, cond, not, rules}
use Rattle.vf_spans.specs.Words.{has_bit}
use Rattle.vf_spans.proofs.WordBits.{has_bit-not}
use Rattle.vf_spans.proofs.word_list.bits_sought.Goals as goal

pub returns-else-sought : goal.returns-else-sought
returns-else-sought c =
    λ k lt. has_bit-not c.args.word k (search rules) lt ∙ ap (λ s. cond s (has_bit c.args.word k) (not (has_bit c.args.word k))) (sym c.if-sought.false)
