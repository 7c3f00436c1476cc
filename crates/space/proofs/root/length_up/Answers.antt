use Rattle.std.proofs.Common.{◌≡◌, ◌≤◌, ◌≤ℤ◌, ◌+ℤ◌, ◌*ℤ◌, ◌*◌, ◌^◌, ℤ, pos, unsigned_abs, FitsSigned, arith}
use Rattle.std.proofs.lemmas.Int.{ints, to_z-of_z}
use mir.Syntax.{w128}
use borrow.Author.Differences.{abs_is}
use Rattle.space.specs.Ranges.{vector_limit}
use Rattle.space.proofs.Words.{fits_of, kept_small, kept_some, small_in}
use Rattle.space.proofs.root.length_up.Goals as goal

-- the sums of the squares
sums_of : (x y z : ℤ) → pos 0 ≤ℤ x → pos 0 ≤ℤ y → pos 0 ≤ℤ z
    → unsigned_abs x ≤ 4 * (vector_limit * vector_limit) * (4 * (vector_limit * vector_limit))
    → unsigned_abs y ≤ 4 * (vector_limit * vector_limit) * (4 * (vector_limit * vector_limit)) → unsigned_abs z ≤ 4 * (vector_limit * vector_limit) * (4 * (vector_limit * vector_limit))
    → FitsSigned w128 (x +ℤ y) × FitsSigned w128 ((x +ℤ y) +ℤ z) × (pos 0 ≤ℤ ((x +ℤ y) +ℤ z)) × (unsigned_abs ((x +ℤ y) +ℤ z) ≤ 10 ^ 36)
sums_of x y z a b c h k l = (
  omega (arith, ints, h, k, abs_is x, abs_is y),
  omega (arith, ints, h, k, l, abs_is x, abs_is y, abs_is z),
  omega (arith, ints, a, b, c),
  omega (arith, ints, h, k, l, abs_is x, abs_is y, abs_is z, abs_is ((x +ℤ y) +ℤ z)),
)

fits_sum : (x y : ℤ) → unsigned_abs x ≤ 4 * (vector_limit * vector_limit) * (4 * (vector_limit * vector_limit))
    → unsigned_abs y ≤ 4 * (vector_limit * vector_limit) * (4 * (vector_limit * vector_limit))
    → FitsSigned w128 (x +ℤ y)
fits_sum x y h k = omega (arith, ints, h, k, abs_is x, abs_is y)

same_sum : (x y z a b c r : ℤ) → x ≡ a → y ≡ b → z ≡ c → ((x +ℤ y) +ℤ z) ≤ℤ r → ((a +ℤ b) +ℤ c) ≤ℤ r
same_sum x y z a b c r e f g h = omega (arith, ints, e, f, g, h)

pub square-requires : goal.square-requires
square-requires c = small_in c.args.a _ c.ranges.a c.requires.a

pub square-requires-2 : goal.square-requires-2
square-requires-2 c = small_in c.args.b _ c.ranges.b c.requires.b

pub square-requires-3 : goal.square-requires-3
square-requires-3 c = small_in c.args.c _ c.ranges.c c.requires.c

pub overflow_add-square : goal.overflow_add-square
overflow_add-square c =
    let x = fits_of c.square.result c.square.type_inv in let y = fits_of c.square-2.result c.square-2.type_inv in
    simp to_z-of_z (fits_sum c.square.result c.square-2.result c.square.ensures.small c.square-2.ensures.small)

pub root_up-requires : goal.root_up-requires
root_up-requires c =
    let x = fits_of c.square.result c.square.type_inv in let y = fits_of c.square-2.result c.square-2.type_inv in let z = fits_of c.square-3.result c.square-3.type_inv in
    let sums = sums_of c.square.result c.square-2.result c.square-3.result c.square.ensures.some c.square-2.ensures.some c.square-3.ensures.some c.square.ensures.small c.square-2.ensures.small c.square-3.ensures.small in
    let two = sums.0 in let all = sums.1 in
    record { some = simp to_z-of_z sums.2; small = simp to_z-of_z sums.3 }

pub overflow_add-square-2 : goal.overflow_add-square-2
overflow_add-square-2 c =
    let x = fits_of c.square.result c.square.type_inv in let y = fits_of c.square-2.result c.square-2.type_inv in let z = fits_of c.square-3.result c.square-3.type_inv in
    let sums = sums_of c.square.result c.square-2.result c.square-3.result c.square.ensures.some c.square-2.ensures.some c.square-3.ensures.some c.square.ensures.small c.square-2.ensures.small c.square-3.ensures.small in
    let two = sums.0 in
    simp to_z-of_z sums.1

pub returns : goal.returns
returns c =
    let a = c.ranges.a in let b = c.ranges.b in let d = c.ranges.c in
    let f = fits_of c.square.result c.square.type_inv in let g = fits_of c.square-2.result c.square-2.type_inv in let h = fits_of c.square-3.result c.square-3.type_inv in
    let r = fits_of c.root_up.result c.root_up.type_inv in
    let sums = sums_of c.square.result c.square-2.result c.square-3.result c.square.ensures.some c.square-2.ensures.some c.square-3.ensures.some c.square.ensures.small c.square-2.ensures.small c.square-3.ensures.small in
    let two = sums.0 in let all = sums.1 in
    let x : c.square.result ≡ c.args.a *ℤ c.args.a = simp to_z-of_z at c.square.ensures.value in
    let y : c.square-2.result ≡ c.args.b *ℤ c.args.b = simp to_z-of_z at c.square-2.ensures.value in
    let z : c.square-3.result ≡ c.args.c *ℤ c.args.c = simp to_z-of_z at c.square-3.ensures.value in
    let value : ((c.square.result +ℤ c.square-2.result) +ℤ c.square-3.result) ≤ℤ (c.root_up.result *ℤ c.root_up.result) = simp to_z-of_z at c.root_up.ensures.value in
    record {
      value = simp to_z-of_z (same_sum c.square.result c.square-2.result c.square-3.result _ _ _ (c.root_up.result *ℤ c.root_up.result) x y z value);
      some = kept_some c.root_up.result c.root_up.type_inv c.root_up.ensures.some;
      small = kept_small c.root_up.result _ c.root_up.type_inv c.root_up.ensures.small;
    }
