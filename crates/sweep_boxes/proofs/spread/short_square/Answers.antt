use Rattle.std.proofs.Common.{◌≡◌, ◌≤◌, ◌≤ℤ◌, ◌+ℤ◌, ◌<◌, ℤ, pos, unsigned_abs, FitsSigned, arith}
use Rattle.std.proofs.lemmas.Int.{ints, to_z-of_z}
use mir.Syntax.{w128}
use borrow.Author.Differences.{abs_is}
use Rattle.space.proofs.Words.{fits_of}
use Rattle.sweep_boxes.proofs.spread.short_square.Goals as goal

-- the sums of the squares
sums_of : (x y z : ℤ) → pos 0 ≤ℤ x → pos 0 ≤ℤ y → pos 0 ≤ℤ z → unsigned_abs x ≤ 64 → unsigned_abs y ≤ 64 → unsigned_abs z ≤ 64
    → FitsSigned w128 (x +ℤ y) × FitsSigned w128 ((x +ℤ y) +ℤ z) × (pos 0 ≤ℤ ((x +ℤ y) +ℤ z)) × (unsigned_abs ((x +ℤ y) +ℤ z) ≤ 192)
sums_of x y z a b c h k l = (
  omega (arith, ints, h, k, abs_is x, abs_is y),
  omega (arith, ints, h, k, l, abs_is x, abs_is y, abs_is z),
  omega (arith, ints, a, b, c),
  omega (arith, ints, a, b, c, h, k, l, abs_is x, abs_is y, abs_is z, abs_is ((x +ℤ y) +ℤ z)),
)

same_sum : (x y z a b c : ℤ) → x ≡ a → y ≡ b → z ≡ c → (x +ℤ y) +ℤ z ≡ (a +ℤ b) +ℤ c
same_sum x y z a b c e f g = omega (arith, ints, e, f, g)

sum_fits : (x y : ℤ) → unsigned_abs x ≤ 64 → unsigned_abs y ≤ 64 → FitsSigned w128 (x +ℤ y)
sum_fits x y h k = omega (arith, ints, h, k, abs_is x, abs_is y)

first : 0 < 3
first = omega arith

second : 1 < 3
second = omega arith

third : 2 < 3
third = omega arith

pub part_square-requires : goal.part_square-requires
part_square-requires c = record { i = first; side = c.requires.0 }

pub part_square-requires-2 : goal.part_square-requires-2
part_square-requires-2 c = record { i = second; side = c.requires.1 }

pub part_square-requires-3 : goal.part_square-requires-3
part_square-requires-3 c = record { i = third; side = c.requires.2 }

pub returns : goal.returns
returns c =
    let x = c.part_square in let y = c.part_square-2 in let z = c.part_square-3 in
    let f = fits_of x.result x.type_inv in let g = fits_of y.result y.type_inv in let h = fits_of z.result z.type_inv in
    let sums = sums_of x.result y.result z.result x.ensures.some y.ensures.some z.ensures.some x.ensures.small y.ensures.small z.ensures.small in
    let two = sums.0 in let all = sums.1 in
    record {
      value = simp to_z-of_z (same_sum x.result y.result z.result _ _ _ x.ensures.value y.ensures.value z.ensures.value);
      some = simp to_z-of_z sums.2;
      small = simp to_z-of_z sums.3;
    }

pub overflow_add-result : goal.overflow_add-result
overflow_add-result c =
    let x = c.part_square in let y = c.part_square-2 in
    let f = fits_of x.result x.type_inv in let g = fits_of y.result y.type_inv in
    simp to_z-of_z (sum_fits x.result y.result x.ensures.small y.ensures.small)

pub overflow_add-result-2 : goal.overflow_add-result-2
overflow_add-result-2 c =
    let x = c.part_square in let y = c.part_square-2 in let z = c.part_square-3 in
    let f = fits_of x.result x.type_inv in let g = fits_of y.result y.type_inv in let h = fits_of z.result z.type_inv in
    let sums = sums_of x.result y.result z.result x.ensures.some y.ensures.some z.ensures.some x.ensures.small y.ensures.small z.ensures.small in
    let two = sums.0 in
    simp to_z-of_z sums.1
