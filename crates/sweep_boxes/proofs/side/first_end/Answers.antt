use Rattle.std.proofs.Common.{◌≡◌, ◌≤ℤ◌, ◌*ℤ◌, ◌+ℤ◌, ◌-ℤ◌, ℤ, pos, rules}
use Rattle.std.proofs.lemmas.Int.{to_z-of_z}
use Rattle.sweep_boxes.specs.Limits.{place_limit}
use Rattle.sweep_boxes.proofs.LineEnds.{bound_fits, bound_from_tip, heights_along, bounds_fit, line_fits, less, margin_before, square_scaled}
use Rattle.sweep_boxes.proofs.Lined.{first_of, not_beyond}
use Rattle.space.proofs.Words.{fits32, fits_of, kept}
use Rattle.sweep_boxes.proofs.Words.{kept_place, place_fits}
use Rattle.sweep_boxes.proofs.side.first_end.Goals as goal

pub least_along-requires : goal.least_along-requires
least_along-requires c = heights_along c.args.line.now c.args.bounds.now

pub overflow_sub-bound : goal.overflow_sub-bound
overflow_sub-bound c =
    let x = c.least_along in
    let small = margin_before x.result c.args.margin x.type_inv c.ranges.margin x.ensures.small c.requires.margin in
    bound_fits (less x.result c.args.margin) small

pub from_tip-requires : goal.from_tip-requires
from_tip-requires c =
    let x = c.least_along in
    let small = margin_before x.result c.args.margin x.type_inv c.ranges.margin x.ensures.small c.requires.margin in
    bound_from_tip c.args.line.now (less x.result c.args.margin) small

pub scaled-requires : goal.scaled-requires
scaled-requires c = square_scaled c.args.line.now

pub quotient-place-requires : goal.quotient-place-requires
quotient-place-requires c = record { divisor = kept (λ (z : ℤ). pos 1 ≤ℤ z) c.scaled.result c.scaled.type_inv c.scaled.ensures.some }

pub first_place-requires : goal.first_place-requires
first_place-requires c = record { low = kept_place c.args.line.now.low c.args.line.now.low_small }

pub returns-clause-low : goal.returns-clause-low
returns-clause-low c =
    let e = place_fits c.args.line.now.low c.args.line.now.low_small in let r = fits32 c.first_place.result c.first_place.type_inv in
    let within : c.args.line.now.low ≤ℤ c.first_place.result = simp to_z-of_z at c.first_place.ensures.least in
    simp to_z-of_z within

pub returns-clause-small : goal.returns-clause-small
returns-clause-small c = kept_place c.first_place.result c.first_place.ensures.small

pub returns-clause-value : goal.returns-clause-value
returns-clause-value c z u after before above below far =
    let l = fits_of c.least_along.result c.least_along.type_inv in
    let d = fits_of c.from_tip.result c.from_tip.type_inv in
    let e = fits_of c.scaled.result c.scaled.type_inv in
    let p = fits_of c.quotient-place.result c.quotient-place.type_inv in
    let r = fits32 c.first_place.result c.first_place.type_inv in
    let record { square = square; axis = axis; tip = tip; low = low; high = high } = line_fits c.args.line.now in
    let record { least = least; most = most; moment = moment } = bounds_fit c.args.bounds.now in
    let margin = c.ranges.margin in
    let x = c.least_along in
    let small = margin_before x.result c.args.margin x.type_inv c.ranges.margin x.ensures.small c.requires.margin in
    let bound = simp to_z-of_z at (bound_fits (less x.result c.args.margin) small) in
    let d_is : c.from_tip.result ≡ (c.least_along.result -ℤ c.args.margin) +ℤ c.args.line.now.tip *ℤ c.args.line.now.square = simp to_z-of_z at c.from_tip.ensures in
    let e_is : c.scaled.result ≡ pos c.args.line.now.scale *ℤ c.args.line.now.square = simp to_z-of_z at c.scaled.ensures.value in
    let value : (u : ℤ) → c.args.bounds.now.least ≤ℤ u → u ≤ℤ c.args.bounds.now.most → c.least_along.result ≤ℤ (u *ℤ c.args.line.now.axis) = simp to_z-of_z at c.least_along.ensures.value in
    let first : (z : ℤ) → c.from_tip.result ≤ℤ (z *ℤ c.scaled.result) → c.quotient-place.result ≤ℤ z = simp to_z-of_z at c.quotient-place.ensures.first in
    let place : (z : ℤ) → c.args.line.now.low ≤ℤ z → z ≤ℤ pos place_limit → c.quotient-place.result ≤ℤ z → c.first_place.result ≤ℤ z = simp to_z-of_z at c.first_place.ensures.value in
    simp to_z-of_z (place z after (not_beyond z c.args.line.now.high before (search rules))
    (first z (first_of c.least_along.result c.args.margin c.from_tip.result c.scaled.result (pos c.args.line.now.scale) z c.args.line.now.tip c.args.line.now.square (u *ℤ c.args.line.now.axis) (value u above below) far d_is e_is)))
