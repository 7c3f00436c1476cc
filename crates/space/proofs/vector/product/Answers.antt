use Rattle.std.proofs.Common.{◌≤◌, ◌*ℤ◌, ℤ, unsigned_abs, FitsSigned, arith, refl}
use Rattle.std.proofs.lemmas.Int.{to_z-of_z}
use mir.Syntax.{w128}
use Rattle.space.specs.Vectors.{at}
use Rattle.space.proofs.Facts.{fits128, product_fits}
use Rattle.space.proofs.Naturals.{abs_mul}
use Rattle.space.specs.Ranges.{vector_limit}
use Rattle.space.proofs.vector.product.Goals as goal

side_fits : (x : ℤ) → unsigned_abs x ≤ vector_limit → FitsSigned w128 x
side_fits x h = fits128 x vector_limit h (omega arith)

fits_product : (x y : ℤ) → unsigned_abs x ≤ vector_limit → unsigned_abs y ≤ vector_limit → FitsSigned w128 (x *ℤ y)
fits_product x y h k = product_fits x y vector_limit vector_limit h k (omega arith)

pub overflow_mul-result : goal.overflow_mul-result
overflow_mul-result c =
    let x = at c.args.p.now c.args.i in let y = at c.args.a.now c.args.j in let f = side_fits x c.requires.p in let g = side_fits y c.requires.a in
    simp to_z-of_z (fits_product x y c.requires.p c.requires.a)

pub returns : goal.returns
returns c =
    let x = at c.args.p.now c.args.i in let y = at c.args.a.now c.args.j in let f = side_fits x c.requires.p in let g = side_fits y c.requires.a in
    let fits = fits_product x y c.requires.p c.requires.a in
    record { value = simp to_z-of_z refl; small = simp to_z-of_z (abs_mul x y vector_limit vector_limit c.requires.p c.requires.a) }
