use Rattle.std.proofs.Common.{◌∙◌, ◌&&◌, ◌^◌, ◌-◌, sym, ap, rules}
use Rattle.vf_spans.specs.Words.{has_bit}
use Rattle.vf_spans.specs.Merge.{combined}
use Rattle.vf_spans.proofs.WordBits.{has_bit-and, has_bit-or, has_bit-not}
use Rattle.vf_spans.proofs.word_list.combine_bits.Goals as goal

pub returns-in-Union : goal.returns-in-Union
returns-in-Union c = λ k lt. has_bit-or c.args.a c.args.b k ∙ ap (λ o. combined o (has_bit c.args.a k) (has_bit c.args.b k)) (sym c.in-Union.is)

pub returns-in-Minus : goal.returns-in-Minus
returns-in-Minus c =
    λ k lt. has_bit-and c.args.a (2 ^ 64 - 1 - c.args.b) k
    ∙ ap (λ p. has_bit c.args.a k && p) (has_bit-not c.args.b k (search rules) lt)
    ∙ ap (λ o. combined o (has_bit c.args.a k) (has_bit c.args.b k)) (sym c.in-Minus.is)

pub returns-in-Meet : goal.returns-in-Meet
returns-in-Meet c = λ k lt. has_bit-and c.args.a c.args.b k ∙ ap (λ o. combined o (has_bit c.args.a k) (has_bit c.args.b k)) (sym c.in-Meet.is)
