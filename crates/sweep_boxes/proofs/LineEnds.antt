-- What the two ends of a line are found from, as words.
use Rattle.std.proofs.Common.{◌≡◌, ◌*ℤ◌, ◌≤◌, ◌<◌, ◌*◌, ◌^◌, ◌≤ℤ◌, ◌+◌, ◌+ℤ◌, ◌-ℤ◌, ℤ, pos, to_z, of_z, unsigned_abs, FitsSigned, arith, subst}
use Rattle.std.proofs.lemmas.Int.{ints, to_z-of_z}
use lib.Signed.{mag}
use mir.Syntax.{w32, w128}
use borrow.Author.Differences.{abs_is}
use Rattle.space.proofs.Facts.{fits128}
use Rattle.space.proofs.Naturals.{natural}
use Rattle.sweep_boxes.specs.Limits.{place_limit}
use Rattle.space.specs.Ranges.{vector_limit}
use Rattle.sweep_boxes.specs.Lines.{IsOnLine}
use Rattle.sweep_boxes.specs.declared.cylinder_bounds.CylinderBounds.{CylinderBounds}
use Rattle.sweep_boxes.specs.declared.line.Line.{Line}
use Rattle.sweep_boxes.proofs.Lined.{within_margin}
use Rattle.space.proofs.Words.{fits_of, kept_in, small_in}
use Rattle.sweep_boxes.proofs.Words.{kept_axis, kept_height, kept_square, kept_tip, place_fits}

-- a bound of the heights times the axis with a margin before it, or after it
abbrev pub less : ℤ → ℤ → ℤ
less bound margin = to_z w128 (of_z w128 bound) -ℤ to_z w128 (of_z w128 margin)

abbrev pub more : ℤ → ℤ → ℤ
more bound margin = to_z w128 (of_z w128 bound) +ℤ to_z w128 (of_z w128 margin)

sum_small : (bound margin sum : ℤ) → unsigned_abs sum ≤ unsigned_abs bound + unsigned_abs margin
    → unsigned_abs bound ≤ 4 * 10 ^ 18 * vector_limit → unsigned_abs margin ≤ 3 * 10 ^ 36 → unsigned_abs sum ≤ 4 * 10 ^ 36
sum_small bound margin sum near h k = omega (arith, near, h, k)

pub margin_before : (bound margin : ℤ) → mag bound < 2 ^ 127 → FitsSigned w128 margin
    → unsigned_abs bound ≤ 4 * 10 ^ 18 * vector_limit → unsigned_abs margin ≤ 3 * 10 ^ 36
    → unsigned_abs (less bound margin) ≤ 4 * 10 ^ 36
margin_before bound margin fits f h k =
    let b = fits_of bound fits in
    let near : unsigned_abs (bound -ℤ margin) ≤ unsigned_abs bound + unsigned_abs margin =
    omega (arith, ints, abs_is bound, abs_is margin, abs_is (bound -ℤ margin)) in
    simp to_z-of_z (sum_small bound margin (bound -ℤ margin) near h k)

pub margin_after : (bound margin : ℤ) → mag bound < 2 ^ 127 → FitsSigned w128 margin
    → unsigned_abs bound ≤ 4 * 10 ^ 18 * vector_limit → unsigned_abs margin ≤ 3 * 10 ^ 36
    → unsigned_abs (more bound margin) ≤ 4 * 10 ^ 36
margin_after bound margin fits f h k =
    let b = fits_of bound fits in
    let near : unsigned_abs (bound +ℤ margin) ≤ unsigned_abs bound + unsigned_abs margin =
    omega (arith, ints, abs_is bound, abs_is margin, abs_is (bound +ℤ margin)) in
    simp to_z-of_z (sum_small bound margin (bound +ℤ margin) near h k)

pub bound_fits : (bound : ℤ) → unsigned_abs bound ≤ 4 * 10 ^ 36 → FitsSigned w128 bound
bound_fits bound small = fits128 bound (4 * 10 ^ 36) small (omega arith)

-- what a line and bounds give to a bound of the heights times the axis
pub heights_along : (line : Line) (bounds : CylinderBounds) → record {
  a : unsigned_abs (to_z w128 (of_z w128 line.axis)) ≤ vector_limit;
  least : unsigned_abs (to_z w128 (of_z w128 bounds.least)) ≤ 4 * 10 ^ 18;
  most : unsigned_abs (to_z w128 (of_z w128 bounds.most)) ≤ 4 * 10 ^ 18;
}
heights_along line bounds = record {
  a = kept_axis line.axis line.axis_small;
  least = kept_height bounds.least bounds.least_small;
  most = kept_height bounds.most bounds.most_small;
}

-- what a line gives to the sum of a bound and the tip, and to the divisor
pub bound_from_tip : (line : Line) (bound : ℤ) → unsigned_abs bound ≤ 4 * 10 ^ 36 → record {
  bound : unsigned_abs (to_z w128 (of_z w128 bound)) ≤ 4 * 10 ^ 36;
  square : unsigned_abs (to_z w128 (of_z w128 line.square)) ≤ 3 * (vector_limit * vector_limit);
  tip : unsigned_abs (to_z w128 (of_z w128 line.tip)) ≤ 128 * place_limit;
}
bound_from_tip line bound small = record {
  bound = small_in bound (4 * 10 ^ 36) (bound_fits bound small) small;
  square = kept_square line.square line.square_small;
  tip = kept_tip line.tip line.tip_small;
}

square_fits : (square : ℤ) → unsigned_abs square ≤ 3 * (vector_limit * vector_limit) → FitsSigned w128 square
square_fits square small = fits128 square (3 * (vector_limit * vector_limit)) small (omega arith)

pub square_scaled : (line : Line) → record {
  scale : 1 ≤ line.scale;
  few : line.scale ≤ 128;
  some : pos 1 ≤ℤ to_z w128 (of_z w128 line.square);
  square : unsigned_abs (to_z w128 (of_z w128 line.square)) ≤ 3 * (vector_limit * vector_limit);
}
square_scaled line = record {
  scale = line.scaled.0;
  few = line.scaled.1;
  some = kept_in (λ (z : ℤ). pos 1 ≤ℤ z) line.square (square_fits line.square line.square_small) line.some;
  square = kept_square line.square line.square_small;
}

-- the numbers of a line and of bounds are words
pub line_fits : (line : Line) → record {
  square : FitsSigned w128 line.square;
  axis : FitsSigned w128 line.axis;
  tip : FitsSigned w128 line.tip;
  low : FitsSigned w32 line.low;
  high : FitsSigned w32 line.high;
}
line_fits line = record {
  square = square_fits line.square line.square_small;
  axis = fits128 line.axis vector_limit line.axis_small (omega arith);
  tip = fits128 line.tip (128 * place_limit) line.tip_small (omega arith);
  low = place_fits line.low line.low_small;
  high = place_fits line.high line.high_small;
}

pub bounds_fit : (bounds : CylinderBounds) → record {
  least : FitsSigned w128 bounds.least;
  most : FitsSigned w128 bounds.most;
  moment : FitsSigned w128 bounds.moment;
}
bounds_fit bounds = record {
  least = fits128 bounds.least (4 * 10 ^ 18) bounds.least_small (omega arith);
  most = fits128 bounds.most (4 * 10 ^ 18) bounds.most_small (omega arith);
  moment = fits128 bounds.moment (3 * 10 ^ 18) bounds.moment_small (omega arith);
}

-- a place on a line is at most the margin off what its height gives
pub within_words : (line : Line) (bounds : CylinderBounds) (wide margin z u : ℤ) → mag wide < 2 ^ 127 → mag margin < 2 ^ 127 → pos 0 ≤ℤ wide
    → (to_z w128 (of_z w128 line.square) -ℤ to_z w128 (of_z w128 line.axis) *ℤ to_z w128 (of_z w128 line.axis)) ≤ℤ (wide *ℤ wide)
    → margin ≡ to_z w128 (of_z w128 wide) *ℤ to_z w128 (of_z w128 bounds.moment) → IsOnLine line bounds z u
    → ((u *ℤ line.axis -ℤ to_z w128 (of_z w128 margin)) ≤ℤ ((pos line.scale *ℤ z -ℤ line.tip) *ℤ line.square))
    × (((pos line.scale *ℤ z -ℤ line.tip) *ℤ line.square) ≤ℤ (u *ℤ line.axis +ℤ to_z w128 (of_z w128 margin)))
within_words line bounds wide margin z u f g some aside is held =
    let a = fits_of wide f in let m = fits_of margin g in
    let record { square = square; axis = axis; tip = tip; low = low; high = high } = line_fits line in
    let record { least = least; most = most; moment = moment } = bounds_fit bounds in
    let narrow : (line.square -ℤ line.axis *ℤ line.axis) ≤ℤ (wide *ℤ wide) = simp to_z-of_z at aside in
    let same : margin ≡ wide *ℤ bounds.moment = simp to_z-of_z at is in
    let k = natural wide some in
    let near = held.near k.0 (subst (λ (y : ℤ). (line.square -ℤ line.axis *ℤ line.axis) ≤ℤ (y *ℤ y)) k.1 narrow) in
    let both =
    within_margin ((pos line.scale *ℤ z -ℤ line.tip) *ℤ line.square) (u *ℤ line.axis) bounds.moment margin k.0 wide near k.1
    bounds.moment_some same in
    (simp to_z-of_z both.0, simp to_z-of_z both.1)
