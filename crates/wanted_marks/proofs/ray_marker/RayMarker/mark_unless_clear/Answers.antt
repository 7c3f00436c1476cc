use Rattle.std.proofs.Common.{◌+◌, refl, ◌∙◌}
use Rattle.vf_spans.specs.Words.{has_bit}
use Rattle.vf_spans.proofs.WordBits.{has_bit-zero}
use Rattle.wanted_marks.specs.Rays.{is_possible_at, is_sure_at}
use Rattle.wanted_marks.proofs.BitLemmas.{none_set, set_without}
use Rattle.wanted_marks.proofs.Opening.{fewer_open, none_told}
use Rattle.wanted_marks.proofs.ray_marker.RayMarker.mark_unless_clear.Goals as goal

pub sure_beside-sure-requires-clause-among : goal.sure_beside-sure-requires-clause-among
sure_beside-sure-requires-clause-among c = λ b below set. none_set 0 b refl set

pub sure_beside-sure-requires-clause-known : goal.sure_beside-sure-requires-clause-known
sure_beside-sure-requires-clause-known c = λ b below set. none_set 0 b refl set

pub mark_open-marks-requires-clause-open : goal.mark_open-marks-requires-clause-open
mark_open-marks-requires-clause-open c =
    let rest = c.bits_without-rest in
    fewer_open c.in-Some.stretch c.args.self.now c.args.first c.args.wanted rest.result
    (λ b below set. set_without c.args.wanted c.sure_beside-sure.result rest.result b (rest.ensures b below) set) c.in-Some.ensures

pub returns-in-None-clause-sure : goal.returns-in-None-clause-sure
returns-in-None-clause-sure c = λ b below.
    let r = c.args.self.now in let first = c.args.first in
    has_bit-zero b ∙ none_told (has_bit c.args.wanted b) (is_sure_at r (first + b)) (λ set. (c.in-None.ensures b below set).not_sure)

pub returns-in-None-clause-possible : goal.returns-in-None-clause-possible
returns-in-None-clause-possible c = λ b below whole.
    let r = c.args.self.now in let first = c.args.first in
    has_bit-zero b ∙ none_told (has_bit c.args.wanted b) (is_possible_at r (first + b)) (λ set. (c.in-None.ensures b below set).not_possible)
