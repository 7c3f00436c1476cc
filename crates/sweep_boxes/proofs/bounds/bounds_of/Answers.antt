use Rattle.std.proofs.Common.{◌≡◌, ◌≤◌, ◌≤ℤ◌, ◌*ℤ◌, ◌+ℤ◌, ◌-ℤ◌, ◌<ℤ◌, ◌*◌, ◌+◌, List, ℕ, ℤ, pos, to_z, of_z, unsigned_abs, FitsSigned, arith, rules, subst, sym}
use Rattle.std.proofs.lemmas.Int.{ints, to_z-of_z}
use mir.Syntax.{w32, w128}
use borrow.Author.Differences.{abs_is}
use Rattle.space.specs.Vectors.{cross, dot}
use Rattle.sweep_boxes.specs.Intervals.{middle_axis, middle_offset}
use Rattle.sweep_boxes.specs.Held.{IsGrown}
use Rattle.sweep_boxes.specs.BandTerms.{IsRiseAbove}
use Rattle.sweep_boxes.proofs.Holding.{held_on}
use Rattle.sweep_boxes.proofs.Risen.{risen_on}
use Rattle.space.proofs.Words.{fits_of, kept_small, kept_some, small32_in}
use Rattle.sweep_boxes.proofs.Words.{long_few, long_some}
use Rattle.sweep_boxes.proofs.bounds.bounds_of.Goals as goal

twice_few : (scale : ℕ) → scale ≤ 128 → 2 * scale ≤ 256
twice_few scale h = omega (arith, h)

grown_some : (grow : ℤ) (n : ℕ) → grow ≡ pos n → pos 0 ≤ℤ grow
grown_some grow n e = omega (arith, ints, e)

pub farthest-far-requires : goal.farthest-far-requires
farthest-far-requires c = record { low = c.requires.low; high = c.requires.high }

pub height_slack_of-height_slack-requires : goal.height_slack_of-height_slack-requires
height_slack_of-height_slack-requires c = record { far = c.farthest-far.ensures.small }

pub radius-top-requires : goal.radius-top-requires
radius-top-requires c = record {
  scale = twice_few c.args.interval.now.scale c.args.interval.now.scaled.1;
  length = small32_in c.args.highest _ c.ranges.highest c.requires.highest;
  some = long_some c.args.interval.now.longest c.args.interval.now.long;
  few = long_few c.args.interval.now.longest c.args.interval.now.long;
}

pub rise_above-requires : goal.rise_above-requires
rise_above-requires c = record { lowest = small32_in c.args.lowest _ c.ranges.lowest c.requires.lowest }

pub floor_of-requires : goal.floor_of-requires
floor_of-requires c = record {
  rise = kept_small c.rise_above.result _ c.rise_above.type_inv c.rise_above.ensures.small;
  height_slack = kept_small c.height_slack_of-height_slack.result _ c.height_slack_of-height_slack.type_inv c.height_slack_of-height_slack.ensures.small;
}

pub least_of-requires : goal.least_of-requires
least_of-requires c = record {
  axis = c.args.interval.now.axis_within;
  low = c.requires.low;
  high = c.requires.high;
  floor = kept_small c.floor_of.result _ c.floor_of.type_inv c.floor_of.ensures.small;
}

pub most_of-requires : goal.most_of-requires
most_of-requires c = record {
  axis = c.args.interval.now.axis_within;
  low = c.requires.low;
  high = c.requires.high;
  top = kept_small c.radius-top.result _ c.radius-top.type_inv c.radius-top.ensures.small;
  height_slack = kept_small c.height_slack_of-height_slack.result _ c.height_slack_of-height_slack.type_inv c.height_slack_of-height_slack.ensures.small;
}

pub grown-requires : goal.grown-requires
grown-requires c = record { widest = small32_in c.args.widest _ c.ranges.widest c.requires.widest; far = c.farthest-far.ensures.small }

pub invariant_of-result : goal.invariant_of-result
invariant_of-result c =
    let grow = c.grown in let by = grow.ensures.value in
    record {
      least_small = kept_small c.least_of.result _ c.least_of.type_inv c.least_of.ensures.small;
      most_small = kept_small c.most_of.result _ c.most_of.type_inv c.most_of.ensures.small;
      moment_some = kept_some grow.result grow.type_inv (grown_some grow.result (by.r + (by.m + by.n)) by.total_is);
      moment_small = kept_small grow.result _ grow.type_inv grow.ensures.small;
    }

above_height_slack : (height_slack u : ℤ) (n : ℕ) → height_slack ≡ pos n → (pos 0 -ℤ pos n) ≤ℤ u → (pos 0 -ℤ height_slack) ≤ℤ u
above_height_slack height_slack u n e h = omega (arith, ints, e, h)

below_top : (top height_slack u : ℤ) (n : ℕ) → height_slack ≡ pos n → pos 0 ≤ℤ top → u ≤ℤ pos (unsigned_abs top + n) → u ≤ℤ (top +ℤ height_slack)
below_top top height_slack u n e some h = omega (arith, ints, e, some, h, abs_is top)

beside_all : (grow z : ℤ) (n : ℕ) → grow ≡ pos n → z ≤ℤ pos (n * n) → z ≤ℤ (grow *ℤ grow)
beside_all grow z n e h = subst (λ (y : ℤ). z ≤ℤ (y *ℤ y)) (sym e) (omega (arith, ints, h))

pub returns : goal.returns
returns c m k S slabs p of large begin among left =
    let a = fits_of c.least_of.result c.least_of.type_inv in
    let b = fits_of c.most_of.result c.most_of.type_inv in
    let d = fits_of c.grown.result c.grown.type_inv in
    let e = fits_of c.height_slack_of-height_slack.result c.height_slack_of-height_slack.type_inv in
    let f = fits_of c.radius-top.result c.radius-top.type_inv in
    let r = fits_of c.rise_above.result c.rise_above.type_inv in
    let o = fits_of c.floor_of.result c.floor_of.type_inv in
    let b32 : FitsSigned w32 c.args.lowest = search rules in
    let w : FitsSigned w32 c.args.widest = search rules in
    let t : FitsSigned w32 c.args.highest = search rules in
    let x : FitsSigned w128 c.args.interval.now.longest = search rules in
    let v = middle_offset m p k S in let axis = middle_axis m k S in
    let near = c.farthest-far.ensures.value v among in
    let height_slack = c.height_slack_of-height_slack.ensures.value in let grow : IsGrown c.grown.result c.args.interval.now c.args.widest c.farthest-far.result =
    subst (λ (z : ℤ). IsGrown c.grown.result c.args.interval.now z c.farthest-far.result) (to_z-of_z w32 c.args.widest w) c.grown.ensures.value in
    let held = held_on c.args.interval.now m k S slabs p c.args.widest c.args.highest c.height_slack_of-height_slack.result c.grown.result c.radius-top.result c.farthest-far.result of large left near height_slack grow c.radius-top.ensures.some (simp to_z-of_z at c.radius-top.ensures.value) in
    let above : (pos 0 -ℤ c.height_slack_of-height_slack.result) ≤ℤ dot v axis = above_height_slack c.height_slack_of-height_slack.result (dot v axis) (height_slack.v + height_slack.b) height_slack.total_is held.0 in
    let below : dot v axis ≤ℤ (c.radius-top.result +ℤ c.height_slack_of-height_slack.result) = below_top c.radius-top.result c.height_slack_of-height_slack.result (dot v axis) (height_slack.v + height_slack.b) height_slack.total_is c.radius-top.ensures.some held.1 in
    let raised : IsRiseAbove c.rise_above.result c.args.lowest c.args.interval.now =
    subst (λ (z : ℤ). IsRiseAbove c.rise_above.result z c.args.interval.now) (to_z-of_z w32 c.args.lowest b32) c.rise_above.ensures.value in
    let risen : (pos 2 *ℤ c.height_slack_of-height_slack.result) <ℤ c.rise_above.result → (c.rise_above.result -ℤ c.height_slack_of-height_slack.result) ≤ℤ dot v axis = λ room.
    subst (λ (y : List ℤ). (c.rise_above.result -ℤ c.height_slack_of-height_slack.result) ≤ℤ dot v y) of.axis
    (risen_on c.args.interval.now m k S slabs p c.args.lowest c.height_slack_of-height_slack.result c.rise_above.result c.farthest-far.result of begin left near height_slack raised room) in
    let floor : c.floor_of.result ≤ℤ dot v axis = (simp to_z-of_z at c.floor_of.ensures.value) (dot v axis) above risen in
    let least : c.least_of.result ≤ℤ dot v axis =
    subst (λ (y : List ℤ). c.least_of.result ≤ℤ dot v y) of.axis
    (c.least_of.ensures.value v among (subst (λ (y : List ℤ). to_z w128 (of_z w128 c.floor_of.result) ≤ℤ dot v y) (sym of.axis) (simp to_z-of_z floor))) in
    let most : dot v axis ≤ℤ c.most_of.result =
    subst (λ (y : List ℤ). dot v y ≤ℤ c.most_of.result) of.axis
    (c.most_of.ensures.value v among (subst (λ (y : List ℤ). dot v y ≤ℤ (to_z w128 (of_z w128 c.radius-top.result) +ℤ to_z w128 (of_z w128 c.height_slack_of-height_slack.result))) (sym of.axis) (simp to_z-of_z below))) in
    simp to_z-of_z
    (record {
      above = least;
      below = most;
      beside = beside_all c.grown.result (dot (cross v axis) (cross v axis)) (grow.r + (grow.m + grow.n)) grow.total_is held.2;
    })
