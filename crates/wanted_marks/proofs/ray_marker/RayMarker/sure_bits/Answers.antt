use Rattle.std.proofs.Common.{◌+◌, ◌-◌, ◌&&◌, arith, leb, refl, subst, sym, ◌∙◌}
use Rattle.std.proofs.lemmas.Bool.{and_parts, leb-true}
use Rattle.ray_grid.specs.Lattice.{point_of}
use Rattle.vf_spans.specs.Words.{has_bit}
use Rattle.wanted_marks.specs.Rays.{IsRemovedBy, RayOf}
use Rattle.wanted_marks.proofs.BitLemmas.{none_set}
use Rattle.wanted_marks.proofs.ray_marker.RayMarker.sure_bits.Goals as goal

pub returns-then-wanted-eq0-clause-wanted : goal.returns-then-wanted-eq0-clause-wanted
returns-then-wanted-eq0-clause-wanted c = λ b below set. none_set 0 b refl set

pub returns-then-wanted-eq0-clause-sure : goal.returns-then-wanted-eq0-clause-sure
returns-then-wanted-eq0-clause-sure c = λ b below set. none_set 0 b refl set

pub returns-in-None-clause-wanted : goal.returns-in-None-clause-wanted
returns-in-None-clause-wanted c = λ b below set. none_set 0 b refl set

pub returns-in-None-clause-sure : goal.returns-in-None-clause-sure
returns-in-None-clause-sure c = λ b below set. none_set 0 b refl set

pub returns-in-Some-clause-wanted : goal.returns-in-Some-clause-wanted
returns-in-Some-clause-wanted c = λ b below set.
    let run = c.in-Some.run' in let w = has_bit c.args.wanted b in let from = leb (run.first - c.args.first) b in
    (and_parts w from (and_parts (w && from) (leb b (run.last - c.args.first)) (sym (c.bits_between.ensures b below) ∙ set)).0).0

pub returns-in-Some-clause-sure : goal.returns-in-Some-clause-sure
returns-in-Some-clause-sure c = λ b below set.
    let run = c.in-Some.run' in let is = c.in-Some.ensures in let first = c.args.first in
    let w = has_bit c.args.wanted b in let from = leb (run.first - first) b in
    let both = and_parts (w && from) (leb b (run.last - first)) (sym (c.bits_between.ensures b below) ∙ set) in
    let low = leb-true (run.first - first) b (and_parts w from both.0).1 in let high = leb-true b (run.last - first) both.1 in
    let starts = is.first in let goes = is.order in
    subst (λ (r : RayOf). IsRemovedBy r.sweep (point_of r.grid r.ray (first + b))) c.self.view_is (is.sure (first + b) (omega arith) (omega arith))
