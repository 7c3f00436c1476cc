use Rattle.std.proofs.Common.{◌≡◌, true, [], ◌∷◌, ◌≤◌, ◌<◌, ◌≤ℤ◌, ℕ, ℤ, List, pos, to_z, of_z, unsigned_abs, FitsSigned, subst, sym}
use Rattle.std.proofs.lemmas.Int.{to_z-of_z}
use mir.Syntax.{w32}
use Rattle.space.specs.Ranges.{IsWithin}
use Rattle.space.specs.Vectors.{at}
use Rattle.space.specs.Reach.{is_near}
use Rattle.sweep_boxes.specs.Limits.{place_limit}
use Rattle.sweep_boxes.proofs.BoxEnds.{among_words, inner_words, words_within}
use Rattle.sweep_boxes.proofs.Boxed.{component_small, reach_parts}
use Rattle.space.proofs.Words.{at_x, at_y, at_z, small32_in}
use Rattle.sweep_boxes.proofs.clip.clip_to_reach.Goals as goal

-- what is known of a region and of two ends is known along each axis
axis_of : (start end lows highs : List ℤ) (r : ℤ) (k : ℕ) → k < 3 → FitsSigned w32 r
    → record {
      from : IsWithin 1000000 start;
      to : IsWithin 1000000 end;
      reach : unsigned_abs r ≤ 500000;
      some : pos 0 ≤ℤ r;
      low : IsWithin place_limit lows;
      high : IsWithin place_limit highs;
    }
    → record {
      i : k < 3;
      low : unsigned_abs (at lows k) ≤ place_limit;
      high : unsigned_abs (at highs k) ≤ place_limit;
      from : unsigned_abs (at start k) ≤ 1000000;
      to : unsigned_abs (at end k) ≤ 1000000;
      reach : unsigned_abs (to_z w32 (of_z w32 r)) ≤ 500000;
      some : pos 0 ≤ℤ to_z w32 (of_z w32 r);
    }
axis_of start end lows highs r k l fits known = record {
  i = l;
  low = component_small lows k _ l known.low;
  high = component_small highs k _ l known.high;
  from = component_small start k _ l known.from;
  to = component_small end k _ l known.to;
  reach = small32_in r _ fits known.reach;
  some = subst (λ (z : ℤ). pos 0 ≤ℤ z) (sym (to_z-of_z w32 r fits)) known.some;
}

pub clip_along-x0-requires : goal.clip_along-x0-requires
clip_along-x0-requires c =
    let region = c.args.region.now in
    axis_of c.args.from.now c.args.to.now region.low region.high c.args.reach 0 at_x c.ranges.reach c.requires

pub clip_along-y0-requires : goal.clip_along-y0-requires
clip_along-y0-requires c =
    let region = c.args.region.now in
    axis_of c.args.from.now c.args.to.now region.low region.high c.args.reach 1 at_y c.ranges.reach c.requires

pub clip_along-z0-requires : goal.clip_along-z0-requires
clip_along-z0-requires c =
    let region = c.args.region.now in
    axis_of c.args.from.now c.args.to.now region.low region.high c.args.reach 2 at_z c.ranges.reach c.requires

pub returns-clause-low : goal.returns-clause-low
returns-clause-low c =
    let x = c.clip_along-x0 in let y = c.clip_along-y0 in let z = c.clip_along-z0 in
    words_within (x.result.0 ∷ y.result.0 ∷ z.result.0 ∷ []) (x.ensures.low_small, y.ensures.low_small, z.ensures.low_small)

pub returns-clause-high : goal.returns-clause-high
returns-clause-high c =
    let x = c.clip_along-x0 in let y = c.clip_along-y0 in let z = c.clip_along-z0 in
    words_within (x.result.1 ∷ y.result.1 ∷ z.result.1 ∷ []) (x.ensures.high_small, y.ensures.high_small, z.ensures.high_small)

pub returns-clause-value : goal.returns-clause-value
returns-clause-value c p inside near =
    let x = c.clip_along-x0 in let y = c.clip_along-y0 in let z = c.clip_along-z0 in
    let reach = c.ranges.reach in
    let start = c.args.from.now in let end = c.args.to.now in let word = to_z w32 (of_z w32 c.args.reach) in
    let a = reach_parts c.args.reach start end p near in
    let near_x : is_near word (at start 0) (at end 0) (at p 0) ≡ true = simp to_z-of_z a.0 in
    let near_y : is_near word (at start 1) (at end 1) (at p 1) ≡ true = simp to_z-of_z a.1 in
    let near_z : is_near word (at start 2) (at end 2) (at p 2) ≡ true = simp to_z-of_z a.2 in
    among_words (x.result.0 ∷ y.result.0 ∷ z.result.0 ∷ []) (x.result.1 ∷ y.result.1 ∷ z.result.1 ∷ []) p
    (x.ensures.low_small, y.ensures.low_small, z.ensures.low_small) (x.ensures.high_small, y.ensures.high_small, z.ensures.high_small)
    (record {
      x = record {
        from_least = x.ensures.first (at p 0) inside.x.from_least near_x;
        to_most = x.ensures.last (at p 0) inside.x.to_most near_x;
      };
      y = record {
        from_least = y.ensures.first (at p 1) inside.y.from_least near_y;
        to_most = y.ensures.last (at p 1) inside.y.to_most near_y;
      };
      z = record {
        from_least = z.ensures.first (at p 2) inside.z.from_least near_z;
        to_most = z.ensures.last (at p 2) inside.z.to_most near_z;
      };
    })

pub returns-clause-within : goal.returns-clause-within
returns-clause-within c p inside =
    let x = c.clip_along-x0 in let y = c.clip_along-y0 in let z = c.clip_along-z0 in
    inner_words (x.result.0 ∷ y.result.0 ∷ z.result.0 ∷ []) (x.result.1 ∷ y.result.1 ∷ z.result.1 ∷ [])
    c.args.region.now.low c.args.region.now.high p
    (x.ensures.low_small, y.ensures.low_small, z.ensures.low_small) (x.ensures.high_small, y.ensures.high_small, z.ensures.high_small)
    (x.ensures.least, y.ensures.least, z.ensures.least) (x.ensures.most, y.ensures.most, z.ensures.most) inside
