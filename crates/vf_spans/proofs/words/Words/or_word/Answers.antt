use Rattle.std.proofs.Common.{◌∙◌, ◌*◌, ◌-◌, ◌||◌, ap, ap₂}
use Rattle.vf_spans.proofs.WordBits.{has_bit-or}
use Rattle.vf_spans.proofs.WordFlags.{or_within, or_written}
use Rattle.vf_spans.proofs.words.Words.or_word.Goals as goal

pub set_word-requires-clause-within : goal.set_word-requires-clause-within
set_word-requires-clause-within c =
    or_within c.args.self.now c.args.n _ c.args.bits (c.bound.result - 64 * c.args.n) (ap (λ m. m - 64 * c.args.n) c.bound.ensures)
    (λ k lt. has_bit-or c.word.result c.bits_below-inside.result k ∙ ap₂ (λ p q. p || q) (c.word.ensures.bits k lt) (c.bits_below-inside.ensures k lt))

pub returns-clause-added : goal.returns-clause-added
returns-clause-added c =
    or_written c.args.self.now c.set_word.new.self c.args.n _ c.args.bits (c.bound.result - 64 * c.args.n) (ap (λ m. m - 64 * c.args.n) c.bound.ensures)
    (λ k lt. has_bit-or c.word.result c.bits_below-inside.result k ∙ ap₂ (λ p q. p || q) (c.word.ensures.bits k lt) (c.bits_below-inside.ensures k lt)) c.set_word.ensures.written
