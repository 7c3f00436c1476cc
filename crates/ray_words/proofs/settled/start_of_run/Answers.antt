use Rattle.std.proofs.Common.{◌<◌, arith, ap, sym, ◌∙◌}
use Rattle.vf_spans.specs.Words.{has_bit}
use Rattle.vf_spans.proofs.WordBits.{has_bit-zero}
use Rattle.ray_words.proofs.Runs.{below_bit, none_below, set_below}
use Rattle.ray_words.proofs.settled.start_of_run.Goals as goal

pub returns-then-below-eq0-clause-set : goal.returns-then-below-eq0-clause-set
returns-then-below-eq0-clause-set c = λ k from lt.
    let w = c.args.word in let b = c.args.b in let m = c.bits_from.result in
    set_below (has_bit w k) b k lt
    (sym (below_bit w m b k c.ranges.word.fits c.bits_from.type_inv c.bits_from.ensures (omega (arith, lt, c.requires)))
    ∙ ap (λ v. has_bit v k) c.if-below-eq0.true ∙ has_bit-zero k)

pub returns-clause-within : goal.returns-clause-within
returns-clause-within c =
    let w = c.args.word in let b = c.args.b in let m = c.bits_from.result in let top = c.highest_bit in
    let lt : top.result < b =
    none_below (has_bit w top.result) b top.result
    (sym (below_bit w m b top.result c.ranges.word.fits c.bits_from.type_inv c.bits_from.ensures top.ensures.within) ∙ top.ensures.set) in
    omega (arith, lt)

pub returns-clause-set : goal.returns-clause-set
returns-clause-set c = λ k from lt.
    let w = c.args.word in let b = c.args.b in let m = c.bits_from.result in
    set_below (has_bit w k) b k lt
    (sym (below_bit w m b k c.ranges.word.fits c.bits_from.type_inv c.bits_from.ensures (omega (arith, lt, c.requires)))
    ∙ c.highest_bit.ensures.highest k (omega (arith, from)))
