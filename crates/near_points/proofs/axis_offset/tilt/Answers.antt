use Rattle.std.proofs.Common.{◌≡◌, ◌*◌, ◌≤◌, ◌+ℤ◌, ◌*ℤ◌, ℤ, FitsSigned, to_z, of_z, unsigned_abs, arith, subst, sym, ap, ◌∙◌}
use Rattle.std.proofs.lemmas.Int.{to_z-of_z}
use mir.Syntax.{w64}
use Rattle.space.specs.Vectors.{at}
use Rattle.sweep_boxes.specs.Limits.{side_component_limit}
use Rattle.space.specs.Ranges.{vector_limit}
use Rattle.near_points.specs.Limits.{tilt_limit}
use Rattle.near_points.proofs.Bits.{as_bits, pair_sum, small_fits, small_passed, sum_fits, triple_fits, triple_sum}
use Rattle.near_points.proofs.Growing.{three_by, three_small}
use Rattle.near_points.proofs.axis_offset.tilt.Goals as goal

share_is : (d r p m : ℤ) → unsigned_abs r ≤ 2 * (vector_limit * vector_limit) → p ≡ d *ℤ to_z w64 (of_z w64 r) → r ≡ m → p ≡ d *ℤ m
share_is d r p m h e f = e ∙ ap (λ w. d *ℤ w) (to_z-of_z w64 r (small_fits (2 * (vector_limit * vector_limit)) r (omega arith) h) ∙ f)

pub share-along-requires-clause-part : goal.share-along-requires-clause-part
share-along-requires-clause-part c = small_passed (2 * (vector_limit * vector_limit)) c.minor.result (omega arith) c.minor.ensures.small

pub share-second-requires-clause-part : goal.share-second-requires-clause-part
share-second-requires-clause-part c = small_passed (2 * (vector_limit * vector_limit)) c.minor-2.result (omega arith) c.minor-2.ensures.small

pub share-third-requires-clause-part : goal.share-third-requires-clause-part
share-third-requires-clause-part c = small_passed (2 * (vector_limit * vector_limit)) c.minor-3.result (omega arith) c.minor-3.ensures.small

pub overflow_add-result : goal.overflow_add-result
overflow_add-result c =
    let p = c.share-along in let q = c.share-second in
    subst (FitsSigned w64) (sym (pair_sum (side_component_limit * (2 * (vector_limit * vector_limit))) p.result q.result (omega arith) p.ensures.small q.ensures.small))
    (sum_fits (side_component_limit * (2 * (vector_limit * vector_limit))) p.result q.result (omega arith) p.ensures.small q.ensures.small)

pub overflow_add-result-2 : goal.overflow_add-result-2
overflow_add-result-2 c =
    let p = c.share-along in let q = c.share-second in let r = c.share-third in
    subst (FitsSigned w64) (sym (triple_sum (side_component_limit * (2 * (vector_limit * vector_limit))) p.result q.result r.result (omega arith) p.ensures.small q.ensures.small r.ensures.small))
    (triple_fits (side_component_limit * (2 * (vector_limit * vector_limit))) p.result q.result r.result (omega arith) p.ensures.small q.ensures.small r.ensures.small)

sum_is : (c : goal.After-share-third) → to_z w64 (of_z w64 (to_z w64 (of_z w64 (to_z w64 (of_z w64 c.share-along.result) +ℤ to_z w64 (of_z w64 c.share-second.result))) +ℤ to_z w64 (of_z w64 c.share-third.result)))
    ≡ (c.share-along.result +ℤ c.share-second.result) +ℤ c.share-third.result
sum_is c =
    let p = c.share-along in let q = c.share-second in let r = c.share-third in
    as_bits w64 _ _ (triple_sum (side_component_limit * (2 * (vector_limit * vector_limit))) p.result q.result r.result (omega arith) p.ensures.small q.ensures.small r.ensures.small)
    (triple_fits (side_component_limit * (2 * (vector_limit * vector_limit))) p.result q.result r.result (omega arith) p.ensures.small q.ensures.small r.ensures.small)

pub returns-clause-value : goal.returns-clause-value
returns-clause-value c =
    let d = c.args.side.now in let p = c.share-along in let q = c.share-second in let r = c.share-third in
    sum_is c
    ∙ three_by p.result q.result r.result _ _ _ (share_is (at d 0) c.minor.result p.result _ c.minor.ensures.small p.ensures.value c.minor.ensures.value)
    (share_is (at d 1) c.minor-2.result q.result _ c.minor-2.ensures.small q.ensures.value c.minor-2.ensures.value)
    (share_is (at d 2) c.minor-3.result r.result _ c.minor-3.ensures.small r.ensures.value c.minor-3.ensures.value)

pub returns-clause-small : goal.returns-clause-small
returns-clause-small c =
    let p = c.share-along in let q = c.share-second in let r = c.share-third in
    subst (λ (z : ℤ). unsigned_abs z ≤ tilt_limit) (sym (sum_is c)) (three_small p.result q.result r.result (side_component_limit * (2 * (vector_limit * vector_limit))) p.ensures.small q.ensures.small r.ensures.small)
