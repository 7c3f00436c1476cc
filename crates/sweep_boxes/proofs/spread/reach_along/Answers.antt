use Rattle.std.proofs.Common.{◌≡◌, ◌≤◌, ◌*◌, ◌*ℤ◌, ℕ, ℤ, pos, unsigned_abs, FitsSigned, arith, ap, ◌∙◌}
use Rattle.std.proofs.lemmas.Int.{ints, to_z-of_z}
use mir.Syntax.{w128}
use borrow.Author.Differences.{abs_is}
use Rattle.space.specs.Vectors.{at}
use Rattle.space.proofs.Naturals.{abs_mul}
use Rattle.space.specs.Ranges.{vector_limit}
use Rattle.space.proofs.Facts.{product_fits}
use Rattle.space.proofs.Words.{fits_of}
use Rattle.sweep_boxes.proofs.spread.reach_along.Goals as goal

far_small : (n : ℕ) → n ≤ vector_limit → n ≤ 2 * (vector_limit * vector_limit)
far_small n h = omega (arith, h)

length_small : (x : ℤ) (n m : ℕ) → x ≡ pos n → n ≤ m → unsigned_abs x ≤ m
length_small x n m e h = omega (arith, ints, e, h, abs_is x)

fits_product : (x y : ℤ) → unsigned_abs x ≤ vector_limit → unsigned_abs y ≤ 2 * (vector_limit * vector_limit) → FitsSigned w128 (x *ℤ y)
fits_product x y h k = product_fits x y vector_limit (2 * (vector_limit * vector_limit)) h k (omega arith)

product_is : (x y : ℤ) (a b : ℕ) → x ≡ pos a → y ≡ pos b → x *ℤ y ≡ pos (a * b)
product_is x y a b e f = ap (λ z. z *ℤ y) e ∙ ap (λ z. pos a *ℤ z) f

pub length_along-requires : goal.length_along-requires
length_along-requires c = record { i = c.requires.i; v = far_small (unsigned_abs (at c.args.far.now c.args.i)) c.requires.far }

pub length_along-requires-2 : goal.length_along-requires-2
length_along-requires-2 c = record { i = c.requires.i; v = c.requires.v }

pub overflow_mul-result : goal.overflow_mul-result
overflow_mul-result c =
    let x = c.length_along in let y = c.length_along-2 in let f = fits_of x.result x.type_inv in let g = fits_of y.result y.type_inv in
    simp to_z-of_z (fits_product x.result y.result (length_small x.result _ _ x.ensures c.requires.far) (length_small y.result _ _ y.ensures c.requires.v))

pub returns : goal.returns
returns c =
    let x = c.length_along in let y = c.length_along-2 in let f = fits_of x.result x.type_inv in let g = fits_of y.result y.type_inv in
    let far = length_small x.result _ _ x.ensures c.requires.far in let v = length_small y.result _ _ y.ensures c.requires.v in
    let fits = fits_product x.result y.result far v in
    record {
      value = simp to_z-of_z (product_is x.result y.result _ _ x.ensures y.ensures);
      small = simp to_z-of_z (abs_mul x.result y.result vector_limit (2 * (vector_limit * vector_limit)) far v);
    }
