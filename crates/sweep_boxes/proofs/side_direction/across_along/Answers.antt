use Rattle.std.proofs.Common.{◌≤◌, ◌-ℤ◌, ◌*◌, ◌^◌, ℤ, unsigned_abs, FitsSigned, arith}
use Rattle.std.proofs.lemmas.Int.{ints, to_z-of_z}
use mir.Syntax.{w128}
use borrow.Author.Differences.{abs_is}
use Rattle.space.specs.Vectors.{at}
use Rattle.space.proofs.Facts.{fits128}
use Rattle.space.specs.Ranges.{vector_limit}
use Rattle.sweep_boxes.proofs.Boxed.{component_small}
use Rattle.space.proofs.Words.{fits_of, small_in}
use Rattle.sweep_boxes.proofs.side_direction.across_along.Goals as goal

height_small : (z : ℤ) → unsigned_abs z ≤ 3 * (vector_limit * vector_limit) → unsigned_abs z ≤ 4 * 10 ^ 18
height_small z h = omega (arith, h)

component_in : (z : ℤ) → unsigned_abs z ≤ vector_limit → FitsSigned w128 z
component_in z h = fits128 z vector_limit h (omega arith)

fits_between : (x y : ℤ) → unsigned_abs x ≤ 4 * 10 ^ 18 * vector_limit → unsigned_abs y ≤ 4 * 10 ^ 18 * vector_limit → FitsSigned w128 (x -ℤ y)
fits_between x y h k = omega (arith, ints, h, k, abs_is x, abs_is y)

small_between : (x y : ℤ) → unsigned_abs x ≤ 4 * 10 ^ 18 * vector_limit → unsigned_abs y ≤ 4 * 10 ^ 18 * vector_limit
    → unsigned_abs (x -ℤ y) ≤ 8 * 10 ^ 18 * vector_limit
small_between x y h k = omega (arith, ints, h, k, abs_is x, abs_is y, abs_is (x -ℤ y))

pub height_along-requires : goal.height_along-requires
height_along-requires c =
    let small = component_small c.args.interval.now.offset_change c.args.i vector_limit c.requires.i c.args.interval.now.offset_change_within in
    record {
      a = small_in (at c.args.interval.now.offset_change c.args.i) vector_limit (component_in (at c.args.interval.now.offset_change c.args.i) small) small;
      height = small_in c.args.square (4 * 10 ^ 18) c.ranges.square (height_small c.args.square c.requires.square);
    }

pub height_along-requires-2 : goal.height_along-requires-2
height_along-requires-2 c =
    let small = component_small c.args.interval.now.axis c.args.i vector_limit c.requires.i c.args.interval.now.axis_within in
    record {
      a = small_in (at c.args.interval.now.axis c.args.i) vector_limit (component_in (at c.args.interval.now.axis c.args.i) small) small;
      height = small_in c.args.along (4 * 10 ^ 18) c.ranges.along (height_small c.args.along c.requires.along);
    }

pub overflow_sub-result : goal.overflow_sub-result
overflow_sub-result c =
    let x = c.height_along in let y = c.height_along-2 in let f = fits_of x.result x.type_inv in let g = fits_of y.result y.type_inv in
    simp to_z-of_z (fits_between x.result y.result x.ensures.small y.ensures.small)

pub returns : goal.returns
returns c =
    let x = c.height_along in let y = c.height_along-2 in let f = fits_of x.result x.type_inv in let g = fits_of y.result y.type_inv in
    let fits = fits_between x.result y.result x.ensures.small y.ensures.small in
    simp to_z-of_z (small_between x.result y.result x.ensures.small y.ensures.small)
