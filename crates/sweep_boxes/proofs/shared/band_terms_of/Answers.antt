use Rattle.std.proofs.Common.{◌≡◌, false, ◌≤ℤ◌, ◌*ℤ◌, ℤ, pos, to_z, of_z, arith, subst}
use Rattle.std.specs.Int.Signed.{lt_z}
use Rattle.std.proofs.lemmas.Int.{ints, to_z-of_z}
use mir.Syntax.{w128}
use Rattle.sweep_boxes.proofs.Spares.{bends_of, bent_parts, changes_of, spare_few, spare_is, spare_parts, spare_thirds}
use Rattle.sweep_boxes.proofs.Stepped.{band_terms_as}
use Rattle.space.proofs.Words.{fits_of, kept_at_most, kept_small, kept_some, read_out}
use Rattle.sweep_boxes.proofs.Words.{long_fits, long_in, long_some}
use Rattle.sweep_boxes.proofs.shared.band_terms_of.Goals as goal

pub sizes-axis_change-requires : goal.sizes-axis_change-requires
sizes-axis_change-requires c = c.args.interval.now.axis_change_within

pub cross-requires : goal.cross-requires
cross-requires c = record { p = c.args.interval.now.offset_change_within; a = c.args.interval.now.axis_within }

pub cross-requires-2 : goal.cross-requires-2
cross-requires-2 c = record { p = c.args.interval.now.offset_change_within; a = c.args.interval.now.axis_change_within }

pub change_limit-change-requires : goal.change_limit-change-requires
change_limit-change-requires c = record { c = c.cross.ensures.small; far = c.requires.far; axis_change = c.sizes-axis_change.ensures.small }

pub length_limit-bent-requires : goal.length_limit-bent-requires
length_limit-bent-requires c = c.cross-2.ensures.small

pub sum-requires : goal.sum-requires
sum-requires c = let bent = c.length_limit-bent in bent_parts bent.result bent.type_inv bent.ensures.small

pub sum-spare-requires : goal.sum-spare-requires
sum-spare-requires c =
    let change = c.change_limit-change in let bent = c.length_limit-bent in let two = c.sum in
    spare_parts change.result two.result bent.result change.type_inv two.type_inv bent.type_inv
    change.ensures.small bent.ensures.small two.ensures.small

pub height_slack_of-requires : goal.height_slack_of-requires
height_slack_of-requires c = record { far = c.requires.far }

least_some : (z : ℤ) → lt_z z (pos 1) ≡ false → pos 0 ≤ℤ z
least_some z h = omega (arith, ints, h)

pub root_down-requires : goal.root_down-requires
root_down-requires c =
    let least = c.least_square-least in
    record { some = least_some (to_z w128 (of_z w128 least.result)) c.if-least-lt1.false; small = kept_at_most least.result _ least.type_inv least.ensures.small }

pub root_up-requires : goal.root_up-requires
root_up-requires c = record { some = long_some c.args.interval.now.longest c.args.interval.now.long; small = long_in c.args.interval.now.longest c.args.interval.now.long }

pub short_square-requires : goal.short_square-requires
short_square-requires c = c.requires.side

pub side_slack_of-requires : goal.side_slack_of-requires
side_slack_of-requires c = record { side = c.requires.side; far = c.requires.far }

pub invariant_of-result : goal.invariant_of-result
invariant_of-result c =
    let down = c.root_down in let up = c.root_up in let change = c.change_limit-change in let bent = c.length_limit-bent in
    let short = c.short_square in let third = c.third_of_square in let side_slack = c.side_slack_of in
    record {
      height_slack_small = kept_small c.height_slack_of.result _ c.height_slack_of.type_inv c.height_slack_of.ensures.small;
      shortest_small = (kept_some down.result down.type_inv down.ensures.some, kept_small down.result _ down.type_inv down.ensures.small);
      longest_small = (kept_some up.result up.type_inv up.ensures.some, kept_small up.result _ up.type_inv up.ensures.small);
      change_small = (kept_some change.result change.type_inv change.ensures.some, kept_small change.result _ change.type_inv change.ensures.small);
      bent_small = (kept_some bent.result bent.type_inv bent.ensures.some, kept_small bent.result _ bent.type_inv bent.ensures.small);
      square_small = (kept_some short.result short.type_inv short.ensures.some, kept_small short.result _ short.type_inv short.ensures.small);
      third_small = (kept_some third.result third.type_inv third.ensures.some, kept_small third.result _ third.type_inv third.ensures.small);
      side_slack_small = (kept_some side_slack.result side_slack.type_inv side_slack.ensures.some, kept_small side_slack.result _ side_slack.type_inv side_slack.ensures.small);
    }

pub third_of_square-requires : goal.third_of_square-requires
third_of_square-requires c =
    let change = c.change_limit-change in let bent = c.length_limit-bent in let two = c.sum in let spare = c.sum-spare in
    let is =
    spare_is change.result bent.result two.result spare.result change.type_inv bent.type_inv two.type_inv
    two.ensures.value spare.ensures.value in
    spare_few spare.result change.result bent.result spare.type_inv is change.ensures.some bent.ensures.some
    c.if-spare-gt50000000000000000.false

at_most_of : (a b c : ℤ) → a ≤ℤ b → b ≤ℤ c → a ≤ℤ c
at_most_of a b c h k = omega (arith, ints, h, k)

pub returns : goal.returns
returns c =
    let interval = c.args.interval.now in let side = c.args.side.now in let far = c.args.far.now in
    let change = c.change_limit-change in let bent = c.length_limit-bent in let two = c.sum in let spare = c.sum-spare in let least = c.least_square-least in
    let f0 = fits_of c.height_slack_of.result c.height_slack_of.type_inv in
    let f1 = fits_of change.result change.type_inv in
    let f2 = fits_of bent.result bent.type_inv in
    let g2 = fits_of two.result two.type_inv in
    let g3 = fits_of spare.result spare.type_inv in
    let f3 = fits_of c.root_down.result c.root_down.type_inv in
    let f4 = fits_of c.root_up.result c.root_up.type_inv in
    let f5 = fits_of c.short_square.result c.short_square.type_inv in
    let f6 = fits_of c.third_of_square.result c.third_of_square.type_inv in
    let f7 = fits_of c.side_slack_of.result c.side_slack_of.type_inv in
    let f8 = fits_of least.result least.type_inv in
    let l = long_fits interval.longest interval.long.0 interval.long.1 in
    let is =
    spare_is change.result bent.result two.result spare.result change.type_inv bent.type_inv two.type_inv
    two.ensures.value spare.ensures.value in
    let down : (c.root_down.result *ℤ c.root_down.result) ≤ℤ least.result = read_out (λ (z : ℤ). (c.root_down.result *ℤ c.root_down.result) ≤ℤ z) least.result least.type_inv c.root_down.ensures.value in
    let long : interval.longest ≤ℤ (c.root_up.result *ℤ c.root_up.result) =
    subst (λ (z : ℤ). z ≤ℤ (c.root_up.result *ℤ c.root_up.result)) (to_z-of_z w128 interval.longest l) c.root_up.ensures.value in
    band_terms_as _ c.height_slack_of.result c.root_down.result c.root_up.result change.result bent.result c.short_square.result c.third_of_square.result c.side_slack_of.result interval side far
    record {
      height_slack_is = to_z-of_z w128 c.height_slack_of.result f0;
      shortest_is = to_z-of_z w128 c.root_down.result f3;
      longest_is = to_z-of_z w128 c.root_up.result f4;
      change_is = to_z-of_z w128 change.result f1;
      bent_is = to_z-of_z w128 bent.result f2;
      square_is = to_z-of_z w128 c.short_square.result f5;
      third_is = to_z-of_z w128 c.third_of_square.result f6;
      side_slack_is = to_z-of_z w128 c.side_slack_of.result f7;
    }
    c.height_slack_of.ensures.value
    record {
      some = c.root_down.ensures.some;
      first = at_most_of _ least.result _ down least.ensures.first;
      middle = at_most_of _ least.result _ down least.ensures.middle;
      last = at_most_of _ least.result _ down least.ensures.last;
    }
    long
    (changes_of interval far c.cross.result c.sizes-axis_change.result change.result
    c.cross.ensures.value c.sizes-axis_change.ensures.value change.ensures.value)
    (bends_of interval c.cross-2.result bent.result c.cross-2.ensures.value bent.ensures.value)
    c.short_square.ensures.value
    (spare_thirds spare.result _ c.third_of_square.result spare.type_inv is c.third_of_square.ensures.value)
    c.side_slack_of.ensures.value
