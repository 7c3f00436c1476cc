use Rattle.std.proofs.Common.{arith, ap, sym, ◌∙◌}
use Rattle.vf_spans.specs.Words.{has_bit}
use Rattle.vf_spans.proofs.WordBits.{has_bit-zero}
use Rattle.ray_words.proofs.Runs.{above_bit, none_above, set_above}
use Rattle.ray_words.proofs.settled.end_of_run.Goals as goal

pub returns-then-above-eq0-clause-set : goal.returns-then-above-eq0-clause-set
returns-then-above-eq0-clause-set c = λ k from lt.
    let w = c.args.word in let b = c.args.b in let m = c.bits_from.result in
    set_above (has_bit w k) b k from
    (sym (above_bit w m b k c.ranges.word.fits c.bits_from.ensures lt) ∙ ap (λ v. has_bit v k) c.if-above-eq0.true ∙ has_bit-zero k)

pub returns-clause-from : goal.returns-clause-from
returns-clause-from c =
    let w = c.args.word in let b = c.args.b in let m = c.bits_from.result in let low = c.lowest_bit in
    none_above w b low.result c.requires.first
    (sym (above_bit w m b low.result c.ranges.word.fits c.bits_from.ensures low.ensures.within) ∙ low.ensures.set)

pub returns-clause-set : goal.returns-clause-set
returns-clause-set c = λ k from lt.
    let w = c.args.word in let b = c.args.b in let m = c.bits_from.result in
    set_above (has_bit w k) b k from
    (sym (above_bit w m b k c.ranges.word.fits c.bits_from.ensures (omega (arith, lt, c.lowest_bit.ensures.within)))
    ∙ c.lowest_bit.ensures.lowest k lt)
