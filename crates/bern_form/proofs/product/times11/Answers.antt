use Rattle.std.proofs.Common.{◌≡◌, ◌<◌, List, ℤ, pos, ◌*ℤ◌, FitsSigned, arith, rules, refl, subst, sym}
use Rattle.std.proofs.lemmas.Int.{to_z-of_z}
use mir.Syntax.{w128}
use Rattle.space.proofs.Facts.{back}
use Rattle.space.specs.Vectors.{at}
use Rattle.bern_form.specs.Forms.{value1, value2}
use Rattle.bern_form.proofs.Forms.{product11_is}
use Rattle.bern_form.proofs.product.times11.Goals as goal

inside0 : 0 < 3
inside0 = omega arith

inside1 : 1 < 3
inside1 = omega arith

inside2 : 2 < 3
inside2 = omega arith

pub product-requires : goal.product-requires
product-requires c =
    let a0 : FitsSigned w128 (at c.args.a.now.c 0) = search rules in
    let b0 : FitsSigned w128 (at c.args.b.now.c 0) = search rules in
    simp to_z-of_z (c.requires 0 (pos 0) inside0)

pub two_products-requires : goal.two_products-requires
two_products-requires c =
    let a0 : FitsSigned w128 (at c.args.a.now.c 0) = search rules in
    let b1 : FitsSigned w128 (at c.args.b.now.c 1) = search rules in
    let a1 : FitsSigned w128 (at c.args.a.now.c 1) = search rules in
    let b0 : FitsSigned w128 (at c.args.b.now.c 0) = search rules in
    simp to_z-of_z (c.requires 1 (pos 0) inside1)

pub product-requires-2 : goal.product-requires-2
product-requires-2 c =
    let a1 : FitsSigned w128 (at c.args.a.now.c 1) = search rules in
    let b1 : FitsSigned w128 (at c.args.b.now.c 1) = search rules in
    simp to_z-of_z (c.requires 2 (pos 0) inside2)

pub returns-clause-coefficients : goal.returns-clause-coefficients
returns-clause-coefficients c =
    let f0 : FitsSigned w128 c.product.result = search rules in
    let f1 : FitsSigned w128 c.two_products.result = search rules in
    let f2 : FitsSigned w128 c.product-2.result = search rules in
    simp to_z-of_z (simp (c.product.ensures, c.two_products.ensures, c.product-2.ensures, back w128 c.args.a.now.c (λ k inside. search rules), back w128 c.args.b.now.c (λ k inside. search rules)) refl)

pub returns-clause-value : goal.returns-clause-value
returns-clause-value c x y =
    subst (λ (l : List ℤ). value2 l x y ≡ value1 c.args.a.now.c x y *ℤ value1 c.args.b.now.c x y) (sym (returns-clause-coefficients c)) (product11_is c.args.a.now.c c.args.b.now.c x y)
