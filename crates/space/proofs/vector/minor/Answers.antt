use Rattle.std.proofs.Common.{◌≡◌, ◌≤◌, ◌*◌, ◌-ℤ◌, ℤ, unsigned_abs, FitsSigned, arith}
use Rattle.std.proofs.lemmas.Int.{ints, to_z-of_z}
use mir.Syntax.{w128}
use borrow.Author.Differences.{abs_is}
use Rattle.space.specs.Ranges.{vector_limit}
use Rattle.space.proofs.Words.{fits_of}
use Rattle.space.proofs.vector.minor.Goals as goal

fits_between : (x y : ℤ) → unsigned_abs x ≤ vector_limit * vector_limit → unsigned_abs y ≤ vector_limit * vector_limit → FitsSigned w128 (x -ℤ y)
fits_between x y h k = omega (arith, ints, h, k, abs_is x, abs_is y)

same_between : (x y a b : ℤ) → x ≡ a → y ≡ b → x -ℤ y ≡ a -ℤ b
same_between x y a b e f = cc (e, f)

small_between : (x y : ℤ) → unsigned_abs x ≤ vector_limit * vector_limit → unsigned_abs y ≤ vector_limit * vector_limit
    → unsigned_abs (x -ℤ y) ≤ 2 * (vector_limit * vector_limit)
small_between x y h k = omega (arith, ints, h, k, abs_is x, abs_is y, abs_is (x -ℤ y))

pub product-requires : goal.product-requires
product-requires c = record { i = c.requires.i; j = c.requires.j; p = c.requires.pi; a = c.requires.aj }

pub product-requires-2 : goal.product-requires-2
product-requires-2 c = record { i = c.requires.j; j = c.requires.i; p = c.requires.pj; a = c.requires.ai }

pub overflow_sub-result : goal.overflow_sub-result
overflow_sub-result c =
    let x = c.product in let y = c.product-2 in let f = fits_of x.result x.type_inv in let g = fits_of y.result y.type_inv in
    simp to_z-of_z (fits_between x.result y.result x.ensures.small y.ensures.small)

pub returns : goal.returns
returns c =
    let x = c.product in let y = c.product-2 in let f = fits_of x.result x.type_inv in let g = fits_of y.result y.type_inv in
    let fits = fits_between x.result y.result x.ensures.small y.ensures.small in
    record {
      value = simp to_z-of_z (same_between x.result y.result _ _ x.ensures.value y.ensures.value);
      small = simp to_z-of_z (small_between x.result y.result x.ensures.small y.ensures.small);
    }
