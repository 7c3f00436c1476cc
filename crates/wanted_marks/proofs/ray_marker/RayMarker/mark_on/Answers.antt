use Rattle.std.proofs.Common.{◌+◌, ap, ◌∙◌}
use Rattle.vf_spans.specs.Words.{has_bit}
use Rattle.vf_spans.proofs.WordBits.{has_bit-zero}
use Rattle.wanted_marks.specs.Rays.{is_possible_at, is_sure_at}
use Rattle.wanted_marks.proofs.Taking.{all_taken}
use Rattle.wanted_marks.proofs.ray_marker.RayMarker.mark_on.Goals as goal

pub returns-clause-sure : goal.returns-clause-sure
returns-clause-sure c = λ b below.
    let r = c.args.self.now in let first = c.args.first in let wanted = c.args.wanted in let progress = c.loop-progress.progress in
    all_taken (has_bit progress.marks.sure b) (has_bit wanted b) (has_bit progress.rest b) (is_sure_at r (first + b)) (c.loop-progress.invariant.progress.sure b below) (ap (λ z. has_bit z b) c.loop-progress-test.false ∙ has_bit-zero b)

pub returns-clause-possible : goal.returns-clause-possible
returns-clause-possible c = λ b below whole.
    let r = c.args.self.now in let first = c.args.first in let wanted = c.args.wanted in let progress = c.loop-progress.progress in
    all_taken (has_bit progress.marks.possible b) (has_bit wanted b) (has_bit progress.rest b) (is_possible_at r (first + b)) (c.loop-progress.invariant.progress.possible b below whole) (ap (λ z. has_bit z b) c.loop-progress-test.false ∙ has_bit-zero b)
