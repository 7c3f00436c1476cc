use Rattle.std.proofs.Common.{◌≡◌, ℕ, ◌+◌, ◌&&◌, nat_le, nat_lt, ap, ap₂, arith, ◌∙◌}
use Rattle.std.proofs.lemmas.Bool.Decides.{nat_tests}
use Rattle.vf_spans.specs.Words.{has_bit}
use Rattle.vf_spans.proofs.WordBits.{has_bit-and}
use Rattle.wanted_marks.proofs.word.bits_between.Goals as goal

at_most : (k to : ℕ) → nat_lt k (to + 1) ≡ nat_le k to
at_most k to = grind (arith, nat_tests)

pub returns : goal.returns
returns c = λ k below.
    c.bits_below.ensures k below
    ∙ ap₂ (λ x y. x && y)
    (has_bit-and c.args.word c.bits_from.result k ∙ ap (λ x. has_bit c.args.word k && x) (c.bits_from.ensures k below))
    (at_most k c.args.to)
