use Rattle.std.proofs.Common.{◌≡◌, ◌<◌, ◌≤◌, ◌≤ℤ◌, ◌*◌, ℕ, ℤ, List, pos, to_z, of_z, unsigned_abs, FitsSigned, arith, refl}
use Rattle.std.proofs.lemmas.Int.{to_z-of_z}
use mir.Syntax.{w32, w128}
use Rattle.space.specs.Vectors.{at, dot}
use Rattle.space.proofs.Facts.{fits128}
use Rattle.sweep_boxes.specs.Limits.{place_limit}
use Rattle.space.specs.Ranges.{vector_limit}
use Rattle.sweep_boxes.specs.Intervals.{offset_from}
use Rattle.sweep_boxes.specs.Lines.{IsHeldPlace, IsOnLine}
use Rattle.sweep_boxes.specs.declared.cylinder_bounds.CylinderBounds.{CylinderBounds}
use Rattle.sweep_boxes.specs.declared.line.Line.{Line}
use Rattle.sweep_boxes.specs.declared.sweep_interval.SweepInterval.{SweepInterval}
use Rattle.sweep_boxes.proofs.Boxed.{component_small, near_of, part_of}
use Rattle.sweep_boxes.proofs.Words.{kept_axis, kept_place, kept_square, kept_tip, place_fits}
use Rattle.sweep_boxes.proofs.narrow.ends_along.Goals as goal

axis_fits : (z : ℤ) → unsigned_abs z ≤ vector_limit → FitsSigned w128 z
axis_fits z h = fits128 z vector_limit h (omega arith)

tip_fits : (z : ℤ) → unsigned_abs z ≤ 128 * place_limit → FitsSigned w128 z
tip_fits z h = fits128 z (128 * place_limit) h (omega arith)

pub returns-clause-low : goal.returns-clause-low
returns-clause-low c =
    let low = place_fits (at c.args.region.now.low c.args.i) c.requires.low in let r = place_fits c.ends.result.0 c.ends.ensures.low_small in
    let least : at c.args.region.now.low c.args.i ≤ℤ c.ends.result.0 = simp to_z-of_z at c.ends.ensures.low in
    least

pub returns-clause-high : goal.returns-clause-high
returns-clause-high c =
    let high = place_fits (at c.args.region.now.high c.args.i) c.requires.high in let r = place_fits c.ends.result.1 c.ends.ensures.high_small in
    let most : c.ends.result.1 ≤ℤ at c.args.region.now.high c.args.i = simp to_z-of_z at c.ends.ensures.high in
    most

pub returns-clause-low_small : goal.returns-clause-low_small
returns-clause-low_small c = c.ends.ensures.low_small

pub returns-clause-high_small : goal.returns-clause-high_small
returns-clause-high_small c = c.ends.ensures.high_small

pub invariant_of-line : goal.invariant_of-line
invariant_of-line c =
    let interval = c.args.interval.now in let region = c.args.region.now in let i = c.args.i in
    let axes = component_small interval.axis i vector_limit c.requires.i interval.axis_within in let axis = axis_fits (at interval.axis i) axes in
    let tips = component_small interval.tip i (128 * place_limit) c.requires.i interval.tip_within in
    let square = c.ranges.square in
    record {
      some = simp to_z-of_z c.requires.some;
      square_small = kept_square c.args.square c.requires.few;
      scaled = interval.scaled;
      axis_small = kept_axis (at interval.axis i) axes;
      part = simp to_z-of_z (part_of interval.axis i c.args.square c.requires.i c.requires.square);
      tip_small = kept_tip (at interval.tip i) tips;
      low_small = kept_place (at region.low i) c.requires.low;
      high_small = kept_place (at region.high i) c.requires.high;
    }

-- the numbers of the line read as those that it is made of
abbrev word : ℤ → ℤ
word z = to_z w128 (of_z w128 z)

line_read : (interval : SweepInterval) (square : ℤ) (lows highs : List ℤ) (i : ℕ) → i < 3 → FitsSigned w128 square
    → unsigned_abs (at lows i) ≤ place_limit → unsigned_abs (at highs i) ≤ place_limit
    → record {
      whole : word square ≡ square;
      axis : word (at interval.axis i) ≡ at interval.axis i;
      tip : word (at interval.tip i) ≡ at interval.tip i;
      low : to_z w32 (of_z w32 (at lows i)) ≡ at lows i;
      high : to_z w32 (of_z w32 (at highs i)) ≡ at highs i;
    }
line_read interval square lows highs i l fits low high = record {
  whole = to_z-of_z w128 square fits;
  axis = to_z-of_z w128 (at interval.axis i) (axis_fits (at interval.axis i) (component_small interval.axis i vector_limit l interval.axis_within));
  tip = to_z-of_z w128 (at interval.tip i) (tip_fits (at interval.tip i) (component_small interval.tip i (128 * place_limit) l interval.tip_within));
  low = to_z-of_z w32 (at lows i) (place_fits (at lows i) low);
  high = to_z-of_z w32 (at highs i) (place_fits (at highs i) high);
}

-- a place that is held on the interval is held on the line
on_line : (line : Line) (bounds : CylinderBounds) (interval : SweepInterval) (square : ℤ) (lows highs p : List ℤ) (i : ℕ) → i < 3
    → square ≡ dot interval.axis interval.axis → line.scale ≡ interval.scale
    → record {
      whole : line.square ≡ square;
      axis : line.axis ≡ at interval.axis i;
      tip : line.tip ≡ at interval.tip i;
      low : line.low ≡ at lows i;
      high : line.high ≡ at highs i;
    }
    → IsHeldPlace bounds interval p → at lows i ≤ℤ at p i → at p i ≤ℤ at highs i
    → IsOnLine line bounds (at p i) (dot (offset_from (pos interval.scale) interval.tip p) interval.axis)
on_line line bounds interval square lows highs p i l is scale read held after before =
    let whole = read.whole in let axis = read.axis in let tip = read.tip in let low = read.low in let high = read.high in
    record {
      after = simp low after;
      before = simp high before;
      above = held.above;
      below = held.below;
      near = λ k narrow. simp (whole, axis, tip, scale) (near_of (pos interval.scale) bounds.moment square interval.tip p interval.axis i k l is
          held.beside (simp (whole, axis) at narrow));
    }

pub returns-clause-first : goal.returns-clause-first
returns-clause-first c p held after before =
    let interval = c.args.interval.now in let region = c.args.region.now in let i = c.args.i in
    let read = line_read interval c.args.square region.low region.high i c.requires.i c.ranges.square c.requires.low c.requires.high in
    c.ends.ensures.first (at p i) _
    (on_line _ c.args.bounds.now interval c.args.square region.low region.high p i c.requires.i c.requires.square refl read held after before)

pub returns-clause-last : goal.returns-clause-last
returns-clause-last c p held after before =
    let interval = c.args.interval.now in let region = c.args.region.now in let i = c.args.i in
    let read = line_read interval c.args.square region.low region.high i c.requires.i c.ranges.square c.requires.low c.requires.high in
    c.ends.ensures.last (at p i) _
    (on_line _ c.args.bounds.now interval c.args.square region.low region.high p i c.requires.i c.requires.square refl read held after before)
