use Rattle.std.proofs.Common.{◌+◌, ap, ◌∙◌}
use Rattle.vf_spans.specs.Words.{has_bit}
use Rattle.vf_spans.proofs.WordBits.{has_bit-zero}
use Rattle.wanted_marks.specs.Rays.{is_possible_at, is_sure_at}
use Rattle.wanted_marks.proofs.Taking.{all_taken}
use Rattle.wanted_marks.proofs.ray_marker.RayMarker.mark_each.Goals as goal

pub mark_to_held-requires-clause-near : goal.mark_to_held-requires-clause-near
mark_to_held-requires-clause-near c = c.from_slab-near.ensures c.args.self.now.sweep

pub returns-in-Some-clause-sure : goal.returns-in-Some-clause-sure
returns-in-Some-clause-sure c = λ b below.
    let r = c.args.self.now in let first = c.args.first in let wanted = c.args.wanted in let progress = c.mark_down_to.new.progress in
    let is = c.mark_down_to.ensures.progress wanted (c.mark_to_held.ensures.progress wanted (c.of_word-progress.ensures.progress r first c.args.sure_only)) in
    all_taken (has_bit progress.marks.sure b) (has_bit wanted b) (has_bit progress.rest b) (is_sure_at r (first + b)) (is.sure b below) (ap (λ z. has_bit z b) c.mark_down_to.ensures.all ∙ has_bit-zero b)

pub returns-in-Some-clause-possible : goal.returns-in-Some-clause-possible
returns-in-Some-clause-possible c = λ b below whole.
    let r = c.args.self.now in let first = c.args.first in let wanted = c.args.wanted in let progress = c.mark_down_to.new.progress in
    let is = c.mark_down_to.ensures.progress wanted (c.mark_to_held.ensures.progress wanted (c.of_word-progress.ensures.progress r first c.args.sure_only)) in
    all_taken (has_bit progress.marks.possible b) (has_bit wanted b) (has_bit progress.rest b) (is_possible_at r (first + b)) (is.possible b below whole) (ap (λ z. has_bit z b) c.mark_down_to.ensures.all ∙ has_bit-zero b)

pub returns-in-None-clause-sure : goal.returns-in-None-clause-sure
returns-in-None-clause-sure c = λ b below.
    let r = c.args.self.now in let first = c.args.first in let wanted = c.args.wanted in let progress = c.mark_to_held.new.progress in
    let is = c.mark_to_held.ensures.progress wanted (c.of_word-progress.ensures.progress r first c.args.sure_only) in
    all_taken (has_bit progress.marks.sure b) (has_bit wanted b) (has_bit progress.rest b) (is_sure_at r (first + b)) (is.sure b below) (ap (λ z. has_bit z b) c.in-None.ensures.above ∙ has_bit-zero b)

pub returns-in-None-clause-possible : goal.returns-in-None-clause-possible
returns-in-None-clause-possible c = λ b below whole.
    let r = c.args.self.now in let first = c.args.first in let wanted = c.args.wanted in let progress = c.mark_to_held.new.progress in
    let is = c.mark_to_held.ensures.progress wanted (c.of_word-progress.ensures.progress r first c.args.sure_only) in
    all_taken (has_bit progress.marks.possible b) (has_bit wanted b) (has_bit progress.rest b) (is_possible_at r (first + b)) (is.possible b below whole) (ap (λ z. has_bit z b) c.in-None.ensures.above ∙ has_bit-zero b)
