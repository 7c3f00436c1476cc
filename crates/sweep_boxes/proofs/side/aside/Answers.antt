use Rattle.std.proofs.Common.{◌≡◌, ◌≤◌, ◌≤ℤ◌, ◌-ℤ◌, ◌*ℤ◌, ◌*◌, ◌^◌, ℤ, pos, unsigned_abs, FitsSigned, arith, subst}
use Rattle.std.proofs.lemmas.Int.{ints, to_z-of_z}
use mir.Syntax.{w128}
use borrow.Author.Differences.{abs_is}
use Rattle.space.specs.Ranges.{vector_limit}
use Rattle.space.proofs.Words.{fits_of, kept_small, kept_some, small_in}
use Rattle.sweep_boxes.proofs.side.aside.Goals as goal

height_small : (a : ℤ) → unsigned_abs a ≤ vector_limit → unsigned_abs a ≤ 4 * 10 ^ 18
height_small a h = omega (arith, h)

-- what is left of the square
rest_of : (square along part : ℤ) → along ≡ part → part ≤ℤ square → unsigned_abs square ≤ 3 * (vector_limit * vector_limit)
    → unsigned_abs along ≤ 4 * 10 ^ 18 * vector_limit
    → FitsSigned w128 (square -ℤ along) × (pos 0 ≤ℤ (square -ℤ along)) × (unsigned_abs (square -ℤ along) ≤ 10 ^ 36)
rest_of square along part is most h k = (
  omega (arith, ints, h, k, abs_is square, abs_is along),
  omega (arith, ints, is, most),
  omega (arith, ints, h, k, abs_is square, abs_is along, abs_is (square -ℤ along)),
)

pub height_along-requires : goal.height_along-requires
height_along-requires c = record {
  a = small_in c.args.a vector_limit c.ranges.a c.requires.a;
  height = small_in c.args.a (4 * 10 ^ 18) c.ranges.a (height_small c.args.a c.requires.a);
}

pub overflow_sub-square : goal.overflow_sub-square
overflow_sub-square c =
    let square = c.ranges.square in let a = c.ranges.a in let h = fits_of c.height_along.result c.height_along.type_inv in
    let is : c.height_along.result ≡ c.args.a *ℤ c.args.a = simp to_z-of_z at c.height_along.ensures.value in
    let rest = rest_of c.args.square c.height_along.result (c.args.a *ℤ c.args.a) is c.requires.part c.requires.square c.height_along.ensures.small in
    simp to_z-of_z rest.0

pub root_up-requires : goal.root_up-requires
root_up-requires c =
    let square = c.ranges.square in let a = c.ranges.a in let h = fits_of c.height_along.result c.height_along.type_inv in
    let is : c.height_along.result ≡ c.args.a *ℤ c.args.a = simp to_z-of_z at c.height_along.ensures.value in
    let rest = rest_of c.args.square c.height_along.result (c.args.a *ℤ c.args.a) is c.requires.part c.requires.square c.height_along.ensures.small in
    let fits = rest.0 in
    record { some = simp to_z-of_z rest.1; small = simp to_z-of_z rest.2 }

pub returns : goal.returns
returns c =
    let square = c.ranges.square in let a = c.ranges.a in let h = fits_of c.height_along.result c.height_along.type_inv in
    let r = fits_of c.root_up.result c.root_up.type_inv in
    let is : c.height_along.result ≡ c.args.a *ℤ c.args.a = simp to_z-of_z at c.height_along.ensures.value in
    let rest = rest_of c.args.square c.height_along.result (c.args.a *ℤ c.args.a) is c.requires.part c.requires.square c.height_along.ensures.small in
    let fits = rest.0 in
    let value : (c.args.square -ℤ c.height_along.result) ≤ℤ (c.root_up.result *ℤ c.root_up.result) = simp to_z-of_z at c.root_up.ensures.value in
    record {
      value = simp to_z-of_z (subst (λ (z : ℤ). (c.args.square -ℤ z) ≤ℤ (c.root_up.result *ℤ c.root_up.result)) is value);
      some = kept_some c.root_up.result c.root_up.type_inv c.root_up.ensures.some;
      small = kept_small c.root_up.result _ c.root_up.type_inv c.root_up.ensures.small;
    }
