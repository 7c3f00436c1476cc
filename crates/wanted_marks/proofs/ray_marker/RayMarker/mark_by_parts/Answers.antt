use Rattle.std.proofs.Common.{◌+◌, ◌∙◌}
use Rattle.vf_spans.specs.Words.{has_bit}
use Rattle.vf_spans.proofs.WordBits.{has_bit-zero}
use Rattle.wanted_marks.specs.Rays.{is_possible_at, is_sure_at}
use Rattle.wanted_marks.proofs.Opening.{none_told}
use Rattle.wanted_marks.proofs.ray_marker.RayMarker.mark_by_parts.Goals as goal

pub returns-in-None-clause-sure : goal.returns-in-None-clause-sure
returns-in-None-clause-sure c = λ b below.
    let r = c.args.self.now in let first = c.args.first in
    has_bit-zero b ∙ none_told (has_bit c.args.wanted b) (is_sure_at r (first + b)) (λ set. (c.in-None.ensures b below set).not_sure)

pub returns-in-None-clause-possible : goal.returns-in-None-clause-possible
returns-in-None-clause-possible c = λ b below whole.
    let r = c.args.self.now in let first = c.args.first in
    has_bit-zero b ∙ none_told (has_bit c.args.wanted b) (is_possible_at r (first + b)) (λ set. (c.in-None.ensures b below set).not_possible)
