use Rattle.std.proofs.Common.{◌≡◌, ◌≤◌, ◌≤ℤ◌, ◌+◌, ◌+ℤ◌, ◌*◌, ◌^◌, ℕ, ℤ, pos, unsigned_abs, arith, ap, ◌∙◌}
use Rattle.std.proofs.lemmas.Int.{ints, to_z-of_z}
use borrow.Author.Differences.{abs_is}
use Rattle.sweep_boxes.specs.BandTerms.{IsSideSlack}
use Rattle.space.specs.Ranges.{vector_limit}
use Rattle.sweep_boxes.proofs.AlongSide.{side_slack_by}
use Rattle.sweep_boxes.proofs.Words.{distance_below, distance_in, side_within}
use Rattle.space.proofs.Words.{fits_of, kept, kept_small, kept_some}
use Rattle.sweep_boxes.proofs.shared.side_slack_of.Goals as goal

reach_small : (n : ℕ) → n ≤ 3 * (vector_limit * (2 * (vector_limit * vector_limit))) → n ≤ 10 ^ 37
reach_small n h = omega (arith, h)

pub cross-drift-requires : goal.cross-drift-requires
cross-drift-requires c = record { p = c.args.interval.now.offset_change_within; a = c.args.interval.now.axis_within }

pub cross-bend-requires : goal.cross-bend-requires
cross-bend-requires c = record { p = c.args.interval.now.offset_change_within; a = c.args.interval.now.axis_change_within }

pub tilt-requires : goal.tilt-requires
tilt-requires c = record { side = c.requires.side; v = c.cross-drift.ensures.small }

pub distance-requires : goal.distance-requires
distance-requires c = kept_small c.tilt.result _ c.tilt.type_inv c.tilt.ensures.small

pub cross-requires : goal.cross-requires
cross-requires c = record { p = c.args.interval.now.axis_change_within; a = side_within c.args.side.now c.requires.side }

pub reach_of-requires : goal.reach_of-requires
reach_of-requires c = record { far = c.requires.far; v = c.cross.ensures.small }

pub sum-side_change-requires : goal.sum-side_change-requires
sum-side_change-requires c = record {
  a = distance_in c.distance.result c.tilt.result c.distance.type_inv c.tilt.type_inv c.distance.ensures c.tilt.ensures.small;
  b = kept_small c.reach_of.result _ c.reach_of.type_inv (reach_small (unsigned_abs c.reach_of.result) c.reach_of.ensures.small);
}

pub tilt-requires-2 : goal.tilt-requires-2
tilt-requires-2 c = record { side = c.requires.side; v = c.cross-bend.ensures.small }

pub distance-requires-2 : goal.distance-requires-2
distance-requires-2 c = kept_small c.tilt-2.result _ c.tilt-2.type_inv c.tilt-2.ensures.small

-- the numbers are not below zero, and not too great
whole_small : (side_slack share reached side_bend : ℤ) (d b : ℕ) → side_slack ≡ (share +ℤ reached) +ℤ side_bend → share ≡ pos d → d ≤ 48 * (vector_limit * vector_limit) → side_bend ≡ pos b → b ≤ 48 * (vector_limit * vector_limit)
    → pos 0 ≤ℤ reached → unsigned_abs reached ≤ 3 * (vector_limit * (2 * (vector_limit * vector_limit))) → (pos 0 ≤ℤ side_slack) × (unsigned_abs side_slack ≤ 10 ^ 36)
whole_small side_slack share reached side_bend d b is e h f k some l = (omega (arith, ints, is, e, f, some), omega (arith, ints, is, e, h, f, k, some, l, abs_is side_slack, abs_is reached))

side_change_small : (s a b : ℕ) → s ≤ a + b → a ≤ 48 * (vector_limit * vector_limit) → b ≤ 3 * (vector_limit * (2 * (vector_limit * vector_limit)))
    → s ≤ 10 ^ 37
side_change_small s a b h k l = omega (arith, h, k, l)

pub sum-requires : goal.sum-requires
sum-requires c =
    let share = c.distance in let reached = c.reach_of in let side_change = c.sum-side_change in let side_bend = c.distance-2 in
    record {
      a = kept_small side_change.result _ side_change.type_inv (side_change_small (unsigned_abs side_change.result) _ _ side_change.ensures.small
          (distance_below share.result c.tilt.result share.type_inv c.tilt.type_inv share.ensures c.tilt.ensures.small)
          (kept_small reached.result _ reached.type_inv reached.ensures.small));
      b = distance_in side_bend.result c.tilt-2.result side_bend.type_inv c.tilt-2.type_inv side_bend.ensures c.tilt-2.ensures.small;
    }

pub returns : goal.returns
returns c =
    let drifted = c.tilt in let share = c.distance in let reached = c.reach_of in let side_change = c.sum-side_change in let side_bent = c.tilt-2 in let side_bend = c.distance-2 in let whole = c.sum in
    let f0 = fits_of drifted.result drifted.type_inv in
    let f1 = fits_of share.result share.type_inv in
    let f2 = fits_of reached.result reached.type_inv in
    let f3 = fits_of side_change.result side_change.type_inv in
    let f4 = fits_of side_bent.result side_bent.type_inv in
    let f5 = fits_of side_bend.result side_bend.type_inv in
    let f6 = fits_of whole.result whole.type_inv in
    let share_by : share.result ≡ pos (unsigned_abs drifted.result) = simp to_z-of_z at share.ensures in
    let side_bend_by : side_bend.result ≡ pos (unsigned_abs side_bent.result) = simp to_z-of_z at side_bend.ensures in
    let side_change_is : side_change.result ≡ share.result +ℤ reached.result = simp to_z-of_z at side_change.ensures.value in
    let whole_is : whole.result ≡ side_change.result +ℤ side_bend.result = simp to_z-of_z at whole.ensures.value in
    let side_slack : IsSideSlack whole.result c.args.side.now c.args.interval.now c.args.far.now =
    side_slack_by whole.result share.result reached.result side_bend.result c.args.interval.now c.args.side.now c.args.far.now c.cross-drift.result c.cross-bend.result c.cross.result
    (whole_is ∙ ap (λ z. z +ℤ side_bend.result) side_change_is) c.cross-drift.ensures.value c.cross-bend.ensures.value c.cross.ensures.value (share_by ∙ ap (λ z. pos (unsigned_abs z)) drifted.ensures.value)
    reached.ensures.some reached.ensures.value (side_bend_by ∙ ap (λ z. pos (unsigned_abs z)) side_bent.ensures.value) in
    let both = whole_small whole.result share.result reached.result side_bend.result (unsigned_abs drifted.result) (unsigned_abs side_bent.result) (whole_is ∙ ap (λ z. z +ℤ side_bend.result) side_change_is)
    share_by drifted.ensures.small side_bend_by side_bent.ensures.small reached.ensures.some reached.ensures.small in
    record {
      value = kept (λ (z : ℤ). IsSideSlack z c.args.side.now c.args.interval.now c.args.far.now) whole.result whole.type_inv side_slack;
      some = kept_some whole.result whole.type_inv both.0;
      small = kept_small whole.result _ whole.type_inv both.1;
    }
