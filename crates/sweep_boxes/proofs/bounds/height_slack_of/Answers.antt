use Rattle.std.proofs.Common.{unsigned_abs}
use Rattle.std.proofs.lemmas.Int.{to_z-of_z}
use Rattle.sweep_boxes.proofs.Numbers.{lifted}
use Rattle.space.proofs.Words.{fits_of, kept_small}
use Rattle.sweep_boxes.proofs.Words.{length_in, product_small}
use Rattle.sweep_boxes.proofs.bounds.height_slack_of.Goals as goal

pub sizes-axis_change-requires : goal.sizes-axis_change-requires
sizes-axis_change-requires c = c.args.interval.now.axis_change_within

pub dot-requires : goal.dot-requires
dot-requires c = record { p = c.args.interval.now.offset_change_within; a = c.args.interval.now.axis_within }

pub dot-requires-2 : goal.dot-requires-2
dot-requires-2 c = record { p = c.requires.far; a = c.sizes-axis_change.ensures.small }

pub dot-requires-3 : goal.dot-requires-3
dot-requires-3 c = record { p = c.args.interval.now.offset_change_within; a = c.args.interval.now.axis_change_within }

pub distance-drift-requires : goal.distance-drift-requires
distance-drift-requires c = kept_small c.dot.result _ c.dot.type_inv (product_small (unsigned_abs c.dot.result) c.dot.ensures.small)

pub distance-swing-requires : goal.distance-swing-requires
distance-swing-requires c = kept_small c.dot-2.result _ c.dot-2.type_inv (product_small (unsigned_abs c.dot-2.result) c.dot-2.ensures.small)

pub distance-bend-requires : goal.distance-bend-requires
distance-bend-requires c = kept_small c.dot-3.result _ c.dot-3.type_inv (product_small (unsigned_abs c.dot-3.result) c.dot-3.ensures.small)

pub total-requires : goal.total-requires
total-requires c =
    let drift = c.distance-drift in let swing = c.distance-swing in let bend = c.distance-bend in
    record {
      a = length_in drift.result c.dot.result drift.type_inv c.dot.type_inv drift.ensures c.dot.ensures.small;
      b = length_in swing.result c.dot-2.result swing.type_inv c.dot-2.type_inv swing.ensures c.dot-2.ensures.small;
      c = length_in bend.result c.dot-3.result bend.type_inv c.dot-3.type_inv bend.ensures c.dot-3.ensures.small;
    }

pub returns-clause-small : goal.returns-clause-small
returns-clause-small c = kept_small c.total.result _ c.total.type_inv c.total.ensures.small

pub returns-clause-value : goal.returns-clause-value
returns-clause-value c =
    let x = fits_of c.distance-drift.result c.distance-drift.type_inv in
    let y = fits_of c.distance-swing.result c.distance-swing.type_inv in
    let z = fits_of c.distance-bend.result c.distance-bend.type_inv in
    let d = fits_of c.dot.result c.dot.type_inv in
    let e = fits_of c.dot-2.result c.dot-2.type_inv in
    let f = fits_of c.dot-3.result c.dot-3.type_inv in
    let t = fits_of c.total.result c.total.type_inv in
    simp to_z-of_z (lifted c.total.result c.distance-drift.result c.distance-swing.result c.distance-bend.result c.dot.result c.dot-2.result c.dot-3.result c.args.interval.now c.args.far.now c.sizes-axis_change.result
    (simp to_z-of_z at c.total.ensures.value) (simp to_z-of_z at c.distance-drift.ensures) (simp to_z-of_z at c.distance-swing.ensures) (simp to_z-of_z at c.distance-bend.ensures)
    c.dot.ensures.value c.dot-2.ensures.value c.dot-3.ensures.value c.sizes-axis_change.ensures.value)
