use Rattle.std.proofs.Common.{◌+◌, arith}
use Rattle.vf_spans.proofs.HighestBit.{at_least, at_most}
use Rattle.wanted_marks.proofs.BitLemmas.{none_set}
use Rattle.wanted_marks.proofs.ray_marker.RayMarker.are_bits_missed.Goals as goal

pub returns-then-bits-eq0 : goal.returns-then-bits-eq0
returns-then-bits-eq0 c = λ yes b below set. none_set c.args.bits b c.if-bits-eq0.true set

pub returns : goal.returns
returns c = λ yes b below set.
    let low = c.lowest_bit in let high = c.highest_bit in
    c.are_missed.ensures yes (c.args.first + b)
    (let l = at_least c.args.bits low.result b low.ensures.lowest set in omega (arith, l))
    (let l = at_most c.args.bits high.result b high.ensures.highest set in omega (arith, l))
