use Rattle.std.proofs.Common.{◌≡◌, ◌≤ℤ◌, ◌*ℤ◌, ◌+ℤ◌, ℤ, pos, neg_ℤ, rules}
use Rattle.std.proofs.lemmas.Int.{to_z-of_z}
use Rattle.sweep_boxes.specs.Limits.{place_limit}
use Rattle.sweep_boxes.proofs.LineEnds.{bound_fits, bound_from_tip, bounds_fit, heights_along, line_fits, margin_after, more, square_scaled}
use Rattle.sweep_boxes.proofs.Lined.{last_of, not_before}
use Rattle.space.proofs.Words.{fits32, fits_of, kept}
use Rattle.sweep_boxes.proofs.Words.{kept_place, place_fits}
use Rattle.sweep_boxes.proofs.side.last_end.Goals as goal

pub most_along-requires : goal.most_along-requires
most_along-requires c = heights_along c.args.line.now c.args.bounds.now

pub overflow_add-bound : goal.overflow_add-bound
overflow_add-bound c =
    let x = c.most_along in
    let small = margin_after x.result c.args.margin x.type_inv c.ranges.margin x.ensures.small c.requires.margin in
    bound_fits (more x.result c.args.margin) small

pub from_tip-requires : goal.from_tip-requires
from_tip-requires c =
    let x = c.most_along in
    let small = margin_after x.result c.args.margin x.type_inv c.ranges.margin x.ensures.small c.requires.margin in
    bound_from_tip c.args.line.now (more x.result c.args.margin) small

pub scaled-requires : goal.scaled-requires
scaled-requires c = square_scaled c.args.line.now

pub quotient-place-requires : goal.quotient-place-requires
quotient-place-requires c = record { divisor = kept (λ (z : ℤ). pos 1 ≤ℤ z) c.scaled.result c.scaled.type_inv c.scaled.ensures.some }

pub last_place-requires : goal.last_place-requires
last_place-requires c = record { high = kept_place c.args.line.now.high c.args.line.now.high_small }

pub returns-clause-high : goal.returns-clause-high
returns-clause-high c =
    let e = place_fits c.args.line.now.high c.args.line.now.high_small in let r = fits32 c.last_place.result c.last_place.type_inv in
    let within : c.last_place.result ≤ℤ c.args.line.now.high = simp to_z-of_z at c.last_place.ensures.most in
    simp to_z-of_z within

pub returns-clause-small : goal.returns-clause-small
returns-clause-small c = kept_place c.last_place.result c.last_place.ensures.small

pub returns-clause-value : goal.returns-clause-value
returns-clause-value c z u after before above below far =
    let l = fits_of c.most_along.result c.most_along.type_inv in
    let d = fits_of c.from_tip.result c.from_tip.type_inv in
    let e = fits_of c.scaled.result c.scaled.type_inv in
    let p = fits_of c.quotient-place.result c.quotient-place.type_inv in
    let r = fits32 c.last_place.result c.last_place.type_inv in
    let record { square = square; axis = axis; tip = tip; low = low; high = high } = line_fits c.args.line.now in
    let record { least = least; most = most; moment = moment } = bounds_fit c.args.bounds.now in
    let margin = c.ranges.margin in
    let x = c.most_along in
    let small = margin_after x.result c.args.margin x.type_inv c.ranges.margin x.ensures.small c.requires.margin in
    let bound = simp to_z-of_z at (bound_fits (more x.result c.args.margin) small) in
    let d_is : c.from_tip.result ≡ (c.most_along.result +ℤ c.args.margin) +ℤ c.args.line.now.tip *ℤ c.args.line.now.square = simp to_z-of_z at c.from_tip.ensures in
    let e_is : c.scaled.result ≡ pos c.args.line.now.scale *ℤ c.args.line.now.square = simp to_z-of_z at c.scaled.ensures.value in
    let value : (u : ℤ) → c.args.bounds.now.least ≤ℤ u → u ≤ℤ c.args.bounds.now.most → (u *ℤ c.args.line.now.axis) ≤ℤ c.most_along.result = simp to_z-of_z at c.most_along.ensures.value in
    let last : (z : ℤ) → (z *ℤ c.scaled.result) ≤ℤ c.from_tip.result → z ≤ℤ c.quotient-place.result = simp to_z-of_z at c.quotient-place.ensures.last in
    let place : (z : ℤ) → neg_ℤ (pos place_limit) ≤ℤ z → z ≤ℤ c.args.line.now.high → z ≤ℤ c.quotient-place.result → z ≤ℤ c.last_place.result = simp to_z-of_z at c.last_place.ensures.value in
    simp to_z-of_z (place z (not_before z c.args.line.now.low after (search rules)) before
    (last z (last_of c.most_along.result c.args.margin c.from_tip.result c.scaled.result (pos c.args.line.now.scale) z c.args.line.now.tip c.args.line.now.square (u *ℤ c.args.line.now.axis) (value u above below) far d_is e_is)))
