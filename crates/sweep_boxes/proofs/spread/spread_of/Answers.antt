use Rattle.std.proofs.Common.{◌≡◌, ◌≤◌, ◌≤ℤ◌, ◌*◌, ◌^◌, ◌*ℤ◌, ◌+ℤ◌, ℕ, ℤ, pos, to_z, of_z, unsigned_abs, arith, subst, ◌∙◌}
use Rattle.std.proofs.lemmas.Int.{ints, to_z-of_z}
use mir.Syntax.{w128}
use Rattle.sweep_boxes.specs.Held.{IsSpread}
use Rattle.sweep_boxes.proofs.AlongSide.{spread_by}
use Rattle.sweep_boxes.proofs.Spares.{bends_of, bent_parts, changes_of, spare_few, spare_is, spare_parts, spare_thirds}
use Rattle.space.proofs.Words.{fits_of, kept, kept_small, kept_some, small32_in, two_read}
use Rattle.sweep_boxes.proofs.Words.{long_few, long_fits, long_some, scale_few, small_up_to, summand}
use Rattle.sweep_boxes.proofs.spread.spread_of.Goals as goal

pub sizes-axis_change-requires : goal.sizes-axis_change-requires
sizes-axis_change-requires c = c.args.interval.now.axis_change_within

pub cross-requires : goal.cross-requires
cross-requires c = record { p = c.args.interval.now.offset_change_within; a = c.args.interval.now.axis_within }

pub cross-requires-2 : goal.cross-requires-2
cross-requires-2 c = record { p = c.args.interval.now.offset_change_within; a = c.args.interval.now.axis_change_within }

pub change_limit-change-requires : goal.change_limit-change-requires
change_limit-change-requires c = record { c = c.cross.ensures.small; far = c.requires.far; axis_change = c.sizes-axis_change.ensures.small }

pub length_limit-bent-requires : goal.length_limit-bent-requires
length_limit-bent-requires c = c.cross-2.ensures.small

pub sum-requires : goal.sum-requires
sum-requires c = let bent = c.length_limit-bent in bent_parts bent.result bent.type_inv bent.ensures.small

pub sum-spare-requires : goal.sum-spare-requires
sum-spare-requires c =
    let change = c.change_limit-change in let bent = c.length_limit-bent in let two = c.sum in
    spare_parts change.result two.result bent.result change.type_inv two.type_inv bent.type_inv
    change.ensures.small bent.ensures.small two.ensures.small

pub radius-half-requires : goal.radius-half-requires
radius-half-requires c = record {
  scale = scale_few c.args.interval.now.scale c.args.interval.now.scaled.1;
  length = small32_in c.args.widest _ c.ranges.widest c.requires.widest;
  some = long_some c.args.interval.now.longest c.args.interval.now.long;
  few = long_few c.args.interval.now.longest c.args.interval.now.long;
}

pub short_square-requires : goal.short_square-requires
short_square-requires c = c.requires.side

pub reach_across-reach-requires : goal.reach_across-reach-requires
reach_across-reach-requires c =
    let half = c.radius-half in let short = c.short_square in let third = c.third_of_square in
    record {
      square_some = kept_some short.result short.type_inv short.ensures.some;
      square = kept_small short.result _ short.type_inv short.ensures.small;
      half = small_up_to (to_z w128 (of_z w128 half.result)) (5 * 10 ^ 16) (kept_some half.result half.type_inv half.ensures.some) c.if-half-gt50000000000000000.false;
      third_some = kept_some third.result third.type_inv third.ensures.some;
      third = kept_small third.result _ third.type_inv third.ensures.small;
    }

pub side_slack_of-requires : goal.side_slack_of-requires
side_slack_of-requires c = record { side = c.requires.side; far = c.requires.far }

side_slack_small : (n : ℕ) → n ≤ 10 ^ 36 → n ≤ 10 ^ 37
side_slack_small n h = omega (arith, h)

pub sum-requires-2 : goal.sum-requires-2
sum-requires-2 c =
    let reach = c.reach_across-reach in let side_slack = c.side_slack_of in
    record { a = summand reach.result reach.type_inv reach.ensures.small; b = kept_small side_slack.result _ side_slack.type_inv (side_slack_small (unsigned_abs side_slack.result) side_slack.ensures.small) }

pub third_of_square-requires : goal.third_of_square-requires
third_of_square-requires c =
    let change = c.change_limit-change in let bent = c.length_limit-bent in let two = c.sum in let spare = c.sum-spare in
    let is =
    spare_is change.result bent.result two.result spare.result change.type_inv bent.type_inv two.type_inv
    two.ensures.value spare.ensures.value in
    spare_few spare.result change.result bent.result spare.type_inv is change.ensures.some bent.ensures.some
    c.if-spare-gt50000000000000000.false

whole_some : (whole a b : ℤ) → whole ≡ a +ℤ b → pos 0 ≤ℤ a → pos 0 ≤ℤ b → pos 0 ≤ℤ whole
whole_some whole a b e h k = omega (arith, ints, e, h, k)

pub returns-clause-some : goal.returns-clause-some
returns-clause-some c =
    let reach = c.reach_across-reach in let side_slack = c.side_slack_of in let whole = c.sum-2 in
    let a = fits_of reach.result reach.type_inv in
    let b = fits_of side_slack.result side_slack.type_inv in
    let d = fits_of whole.result whole.type_inv in
    let whole_is : whole.result ≡ reach.result +ℤ side_slack.result = whole.ensures.value ∙ two_read reach.result side_slack.result reach.type_inv side_slack.type_inv in
    let some = whole_some whole.result reach.result side_slack.result whole_is reach.ensures.some side_slack.ensures.some in
    kept_some whole.result whole.type_inv some

pub returns-clause-value : goal.returns-clause-value
returns-clause-value c = λ small.
    let interval = c.args.interval.now in let side = c.args.side.now in let far = c.args.far.now in
    let half = c.radius-half in let change = c.change_limit-change in let bent = c.length_limit-bent in
    let two = c.sum in let spare = c.sum-spare in let third = c.third_of_square in let short = c.short_square in
    let reach = c.reach_across-reach in let side_slack = c.side_slack_of in let whole = c.sum-2 in
    let f0 = fits_of half.result half.type_inv in
    let f1 = fits_of change.result change.type_inv in
    let f2 = fits_of bent.result bent.type_inv in
    let f3 = fits_of two.result two.type_inv in
    let f4 = fits_of spare.result spare.type_inv in
    let f5 = fits_of third.result third.type_inv in
    let f6 = fits_of short.result short.type_inv in
    let f7 = fits_of reach.result reach.type_inv in
    let f8 = fits_of side_slack.result side_slack.type_inv in
    let f9 = fits_of whole.result whole.type_inv in
    let w = c.ranges.widest in
    let l = long_fits interval.longest interval.long.0 interval.long.1 in
    let is =
    spare_is change.result bent.result two.result spare.result change.type_inv bent.type_inv two.type_inv
    two.ensures.value spare.ensures.value in
    let whole_is : whole.result ≡ reach.result +ℤ side_slack.result = whole.ensures.value ∙ two_read reach.result side_slack.result reach.type_inv side_slack.type_inv in
    let rooted : (short.result *ℤ (half.result *ℤ half.result +ℤ third.result)) ≤ℤ (reach.result *ℤ reach.result) = simp to_z-of_z at reach.ensures.value in
    let spread : IsSpread whole.result side interval c.args.widest far =
    spread_by whole.result half.result change.result bent.result third.result reach.result side_slack.result interval c.args.widest side far
    record {
      across_is = whole_is;
      change_some = change.ensures.some;
      bent_some = bent.ensures.some;
      third_some = third.ensures.some;
      reach_some = reach.ensures.some;
      wide = simp to_z-of_z at half.ensures.value;
      changes =
          changes_of interval far c.cross.result c.sizes-axis_change.result change.result
          c.cross.ensures.value c.sizes-axis_change.ensures.value change.ensures.value;
      bends = bends_of interval c.cross-2.result bent.result c.cross-2.ensures.value bent.ensures.value;
      thirds = spare_thirds spare.result _ third.result spare.type_inv is third.ensures.value;
      root = subst (λ (z : ℤ). (z *ℤ (half.result *ℤ half.result +ℤ third.result)) ≤ℤ (reach.result *ℤ reach.result)) short.ensures.value rooted;
      side_slacks = side_slack.ensures.value;
    } in
    kept (λ (z : ℤ). IsSpread z side interval c.args.widest far) whole.result whole.type_inv spread
