use Rattle.std.proofs.Common.{◌+◌}
use Rattle.vf_spans.specs.Words.{has_bit}
use Rattle.wanted_marks.specs.Rays.{is_possible_at, is_sure_at, is_told_at}
use Rattle.vf_spans.proofs.WordBits.{has_bit-zero}
use Rattle.wanted_marks.proofs.Taking.{neither, none_told, told_of}
use Rattle.wanted_marks.proofs.ray_marker.RayMarker.mark.Goals as goal

pub returns-then-are_bits_missed-clause-sure : goal.returns-then-are_bits_missed-clause-sure
returns-then-are_bits_missed-clause-sure c = λ b below.
    let r = c.args.self.now in
    none_told (has_bit 0 b) (has_bit c.args.wanted b) (is_sure_at r (c.args.first + b)) (has_bit-zero b) (λ set. (c.are_bits_missed.ensures c.if-are_bits_missed.true b below set).not_sure)

pub returns-then-are_bits_missed-clause-possible : goal.returns-then-are_bits_missed-clause-possible
returns-then-are_bits_missed-clause-possible c = λ b below.
    let r = c.args.self.now in let l = c.args.first + b in
    none_told (has_bit 0 b) (has_bit c.args.wanted b) (is_told_at r (has_bit c.args.sure_only b) l) (has_bit-zero b)
    (λ set.
    let clear = c.are_bits_missed.ensures c.if-are_bits_missed.true b below set in
    neither (has_bit c.args.sure_only b) (is_sure_at r l) (is_possible_at r l) clear.not_sure clear.not_possible)

pub returns-clause-possible : goal.returns-clause-possible
returns-clause-possible c = λ b below.
    let r = c.args.self.now in let marks = c.mark_all-marks in let l = c.args.first + b in
    told_of (has_bit c.chosen_bits.result b) (has_bit c.args.sure_only b) (has_bit marks.result.sure b) (has_bit marks.result.possible b) (has_bit c.args.wanted b) (is_sure_at r l) (is_possible_at r l)
    (c.chosen_bits.ensures b below) (marks.ensures.sure b below) (marks.ensures.possible b below)
