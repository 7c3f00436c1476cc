use Rattle.std.proofs.Common.{◌≡◌, false, [], ◌∷◌, ◌*◌, ◌^◌, ◌≤◌, ◌<◌, ◌≤ℤ◌, ℕ, ℤ, List, pos, to_z, of_z, unsigned_abs}
use Rattle.std.specs.Int.Signed.{lt_z}
use Rattle.std.proofs.lemmas.Int.{to_z-of_z}
use lib.Signed.{mag}
use mir.Syntax.{w128}
use Rattle.space.specs.Ranges.{IsWithin, vector_limit}
use Rattle.space.specs.Vectors.{at, dot}
use Rattle.sweep_boxes.specs.Limits.{place_limit}
use Rattle.sweep_boxes.proofs.BoxEnds.{among_words, inner_words, words_within}
use Rattle.sweep_boxes.proofs.Boxed.{among_of, component_small, held_of}
use Rattle.space.proofs.Words.{at_x, at_y, at_z, kept_small, read_as, small32_in}
use Rattle.sweep_boxes.proofs.Words.{not_below}
use Rattle.sweep_boxes.proofs.narrow.narrowed.Goals as goal

pub dot-square-requires : goal.dot-square-requires
dot-square-requires c = record { p = c.args.interval.now.axis_within; a = c.args.interval.now.axis_within }

pub offset_from-low-requires : goal.offset_from-low-requires
offset_from-low-requires c = record { scale = c.args.interval.now.scaled.1; place = c.requires.low; tip = c.args.interval.now.tip_within }

pub offset_from-high-requires : goal.offset_from-high-requires
offset_from-high-requires c = record { scale = c.args.interval.now.scaled.1; place = c.requires.high; tip = c.args.interval.now.tip_within }

pub bounds_of-bounds-requires : goal.bounds_of-bounds-requires
bounds_of-bounds-requires c = record {
  widest = small32_in c.args.widest _ c.ranges.widest c.requires.widest;
  highest = small32_in c.args.highest _ c.ranges.highest c.requires.highest;
  lowest = small32_in c.args.lowest _ c.ranges.lowest c.requires.lowest;
  low = c.offset_from-low.ensures.small;
  high = c.offset_from-high.ensures.small;
}

-- what is known of a square and of a region is known along each axis
axis_of : (axis lows highs : List ℤ) (whole : ℤ) (k : ℕ) → k < 3 → mag whole < 2 ^ 127
    → record { value : whole ≡ dot axis axis; small : unsigned_abs whole ≤ 3 * (vector_limit * vector_limit) }
    → lt_z (to_z w128 (of_z w128 whole)) (pos 1) ≡ false → IsWithin place_limit lows → IsWithin place_limit highs
    → record {
      i : k < 3;
      square : to_z w128 (of_z w128 whole) ≡ dot axis axis;
      some : pos 1 ≤ℤ to_z w128 (of_z w128 whole);
      few : unsigned_abs (to_z w128 (of_z w128 whole)) ≤ 3 * (vector_limit * vector_limit);
      low : unsigned_abs (at lows k) ≤ place_limit;
      high : unsigned_abs (at highs k) ≤ place_limit;
    }
axis_of axis lows highs whole k l fits known some low high = record {
  i = l;
  square = read_as whole _ fits known.value;
  some = not_below (to_z w128 (of_z w128 whole)) (pos 1) some;
  few = kept_small whole _ fits known.small;
  low = component_small lows k _ l low;
  high = component_small highs k _ l high;
}

pub ends_along-x0-requires : goal.ends_along-x0-requires
ends_along-x0-requires c =
    let square = c.dot-square in let region = c.args.region.now in
    axis_of c.args.interval.now.axis region.low region.high square.result 0 at_x square.type_inv square.ensures c.if-square-lt1.false
    c.requires.low c.requires.high

pub ends_along-y0-requires : goal.ends_along-y0-requires
ends_along-y0-requires c =
    let square = c.dot-square in let region = c.args.region.now in
    axis_of c.args.interval.now.axis region.low region.high square.result 1 at_y square.type_inv square.ensures c.if-square-lt1.false
    c.requires.low c.requires.high

pub ends_along-z0-requires : goal.ends_along-z0-requires
ends_along-z0-requires c =
    let square = c.dot-square in let region = c.args.region.now in
    axis_of c.args.interval.now.axis region.low region.high square.result 2 at_z square.type_inv square.ensures c.if-square-lt1.false
    c.requires.low c.requires.high

pub returns-clause-low : goal.returns-clause-low
returns-clause-low c =
    let x = c.ends_along-x0 in let y = c.ends_along-y0 in let z = c.ends_along-z0 in
    words_within (x.result.0 ∷ y.result.0 ∷ z.result.0 ∷ []) (x.ensures.low_small, y.ensures.low_small, z.ensures.low_small)

pub returns-clause-high : goal.returns-clause-high
returns-clause-high c =
    let x = c.ends_along-x0 in let y = c.ends_along-y0 in let z = c.ends_along-z0 in
    words_within (x.result.1 ∷ y.result.1 ∷ z.result.1 ∷ []) (x.ensures.high_small, y.ensures.high_small, z.ensures.high_small)

pub returns-then-square-lt1 : goal.returns-then-square-lt1
returns-then-square-lt1 c = record {
  kept = λ m k S slabs p of large begin inside left. inside;
  within = λ p inside. inside;
  low = c.requires.low;
  high = c.requires.high;
}

pub returns-clause-kept : goal.returns-clause-kept
returns-clause-kept c m k S slabs p of large begin inside left =
    let wide = c.ranges.widest in
    let tall = c.ranges.highest in
    let low = c.ranges.lowest in
    let bounds = c.bounds_of-bounds in
    let among = among_of c.args.interval.now m k S p c.args.region.now.low c.args.region.now.high c.offset_from-low.result c.offset_from-high.result of c.offset_from-low.ensures.value c.offset_from-high.ensures.value inside in
    let held = held_of c.args.interval.now m k S p bounds.result.least bounds.result.most bounds.result.moment of (bounds.ensures m k S slabs p of (simp to_z-of_z large) (simp to_z-of_z begin) among left) in
    let x = c.ends_along-x0 in let y = c.ends_along-y0 in let z = c.ends_along-z0 in
    among_words (x.result.0 ∷ y.result.0 ∷ z.result.0 ∷ []) (x.result.1 ∷ y.result.1 ∷ z.result.1 ∷ []) p
    (x.ensures.low_small, y.ensures.low_small, z.ensures.low_small) (x.ensures.high_small, y.ensures.high_small, z.ensures.high_small)
    (record {
      x = record {
        from_least = x.ensures.first p held inside.x.from_least inside.x.to_most;
        to_most = x.ensures.last p held inside.x.from_least inside.x.to_most;
      };
      y = record {
        from_least = y.ensures.first p held inside.y.from_least inside.y.to_most;
        to_most = y.ensures.last p held inside.y.from_least inside.y.to_most;
      };
      z = record {
        from_least = z.ensures.first p held inside.z.from_least inside.z.to_most;
        to_most = z.ensures.last p held inside.z.from_least inside.z.to_most;
      };
    })

pub returns-clause-within : goal.returns-clause-within
returns-clause-within c p inside =
    let x = c.ends_along-x0 in let y = c.ends_along-y0 in let z = c.ends_along-z0 in
    inner_words (x.result.0 ∷ y.result.0 ∷ z.result.0 ∷ []) (x.result.1 ∷ y.result.1 ∷ z.result.1 ∷ [])
    c.args.region.now.low c.args.region.now.high p
    (x.ensures.low_small, y.ensures.low_small, z.ensures.low_small) (x.ensures.high_small, y.ensures.high_small, z.ensures.high_small)
    (x.ensures.low, y.ensures.low, z.ensures.low) (x.ensures.high, y.ensures.high, z.ensures.high) inside
