use Rattle.std.proofs.Common.{◌∙◌, ◌*◌, ◌+◌, ◌-◌, ◌^◌, ◌&&◌, ap, ap₂, rules}
use Rattle.vf_spans.specs.Words.{has_bit}
use Rattle.vf_spans.proofs.WordBits.{has_bit-and, has_bit-not}
use Rattle.vf_spans.proofs.WordFlags.{past_bound, minus_written}
use Rattle.vf_spans.proofs.words.Words.minus_word.Goals as goal

pub set_word-requires-clause-within : goal.set_word-requires-clause-within
set_word-requires-clause-within c =
    λ b lt le. has_bit-and c.word.result (2 ^ 64 - 1 - c.args.bits) b
    ∙ ap (λ p. p && has_bit (2 ^ 64 - 1 - c.args.bits) b) (c.word.ensures.bits b lt ∙ past_bound c.args.self.now (64 * c.args.n + b) le)

pub returns-clause-taken : goal.returns-clause-taken
returns-clause-taken c =
    minus_written c.args.self.now c.set_word.new.self c.args.n _ c.args.bits
    (λ k lt. has_bit-and c.word.result (2 ^ 64 - 1 - c.args.bits) k ∙ ap₂ (λ p q. p && q) (c.word.ensures.bits k lt) (has_bit-not c.args.bits k (search rules) lt)) c.set_word.ensures.written
