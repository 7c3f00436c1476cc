use Rattle.std.proofs.Common.{FitsSigned, rules}
use Rattle.std.proofs.lemmas.Int.{to_z-of_z}
use mir.Syntax.{w128}
use Rattle.sweep_boxes.proofs.Numbers.{grown_by}
use Rattle.space.proofs.Words.{fits_of, kept_small, small32_in}
use Rattle.sweep_boxes.proofs.Words.{long_few, long_some, scale_few}
use Rattle.sweep_boxes.proofs.bounds.grown.Goals as goal

pub sizes-axis_change-requires : goal.sizes-axis_change-requires
sizes-axis_change-requires c = c.args.interval.now.axis_change_within

pub cross-drift-requires : goal.cross-drift-requires
cross-drift-requires c = record { p = c.args.interval.now.offset_change_within; a = c.args.interval.now.axis_within }

pub cross-bend-requires : goal.cross-bend-requires
cross-bend-requires c = record { p = c.args.interval.now.offset_change_within; a = c.args.interval.now.axis_change_within }

pub radius-half-requires : goal.radius-half-requires
radius-half-requires c = record {
  scale = scale_few c.args.interval.now.scale c.args.interval.now.scaled.1;
  length = small32_in c.args.widest _ c.ranges.widest c.requires.widest;
  some = long_some c.args.interval.now.longest c.args.interval.now.long;
  few = long_few c.args.interval.now.longest c.args.interval.now.long;
}

pub change_limit-requires : goal.change_limit-requires
change_limit-requires c = record { c = c.cross-drift.ensures.small; far = c.requires.far; axis_change = c.sizes-axis_change.ensures.small }

pub length_limit-requires : goal.length_limit-requires
length_limit-requires c = c.cross-bend.ensures.small

pub total-requires : goal.total-requires
total-requires c = record {
  a = kept_small c.radius-half.result _ c.radius-half.type_inv c.radius-half.ensures.small;
  b = kept_small c.change_limit.result _ c.change_limit.type_inv c.change_limit.ensures.small;
  c = kept_small c.length_limit.result _ c.length_limit.type_inv c.length_limit.ensures.small;
}

pub returns-clause-small : goal.returns-clause-small
returns-clause-small c = kept_small c.total.result _ c.total.type_inv c.total.ensures.small

pub returns-clause-value : goal.returns-clause-value
returns-clause-value c =
    let x = fits_of c.radius-half.result c.radius-half.type_inv in
    let y = fits_of c.change_limit.result c.change_limit.type_inv in
    let z = fits_of c.length_limit.result c.length_limit.type_inv in
    let t = fits_of c.total.result c.total.type_inv in
    let l : FitsSigned w128 c.args.interval.now.longest = search rules in
    let w = c.ranges.widest in
    simp to_z-of_z (grown_by c.total.result c.radius-half.result c.change_limit.result c.length_limit.result c.args.interval.now c.args.widest c.args.far.now c.sizes-axis_change.result c.cross-drift.result c.cross-bend.result
    (simp to_z-of_z at c.total.ensures.value) c.radius-half.ensures.some c.change_limit.ensures.some c.length_limit.ensures.some c.cross-drift.ensures.value c.cross-bend.ensures.value c.sizes-axis_change.ensures.value
    (simp to_z-of_z at c.radius-half.ensures.value) c.change_limit.ensures.value c.length_limit.ensures.value)
