use Rattle.std.proofs.Common.{◌≡◌, ◌<◌, List, ℤ, pos, ◌*ℤ◌, FitsSigned, arith, rules, refl, subst, sym}
use Rattle.std.proofs.lemmas.Int.{to_z-of_z}
use mir.Syntax.{w128}
use Rattle.bern_form.proofs.Components.{back3}
use Rattle.space.specs.Vectors.{at}
use Rattle.bern_form.specs.Forms.{value2, value4}
use Rattle.bern_form.proofs.Forms.{product22_is}
use Rattle.bern_form.proofs.product.times22.Goals as goal

inside0 : 0 < 5
inside0 = omega arith

inside1 : 1 < 5
inside1 = omega arith

inside2 : 2 < 5
inside2 = omega arith

inside3 : 3 < 5
inside3 = omega arith

inside4 : 4 < 5
inside4 = omega arith

pub product-requires : goal.product-requires
product-requires c =
    let a0 : FitsSigned w128 (at c.args.a.now.c 0) = search rules in
    let b0 : FitsSigned w128 (at c.args.b.now.c 0) = search rules in
    simp to_z-of_z (c.requires 0 (pos 0) inside0)

pub two_products-requires : goal.two_products-requires
two_products-requires c =
    let a0 : FitsSigned w128 (at c.args.a.now.c 0) = search rules in
    let b1 : FitsSigned w128 (at c.args.b.now.c 1) = search rules in
    let a1 : FitsSigned w128 (at c.args.a.now.c 1) = search rules in
    let b0 : FitsSigned w128 (at c.args.b.now.c 0) = search rules in
    simp to_z-of_z (c.requires 1 (pos 0) inside1)

pub three_products-requires : goal.three_products-requires
three_products-requires c =
    let a0 : FitsSigned w128 (at c.args.a.now.c 0) = search rules in
    let b2 : FitsSigned w128 (at c.args.b.now.c 2) = search rules in
    let a1 : FitsSigned w128 (at c.args.a.now.c 1) = search rules in
    let b1 : FitsSigned w128 (at c.args.b.now.c 1) = search rules in
    let a2 : FitsSigned w128 (at c.args.a.now.c 2) = search rules in
    let b0 : FitsSigned w128 (at c.args.b.now.c 0) = search rules in
    simp to_z-of_z (c.requires 2 (pos 0) inside2)

pub two_products-requires-2 : goal.two_products-requires-2
two_products-requires-2 c =
    let a1 : FitsSigned w128 (at c.args.a.now.c 1) = search rules in
    let b2 : FitsSigned w128 (at c.args.b.now.c 2) = search rules in
    let a2 : FitsSigned w128 (at c.args.a.now.c 2) = search rules in
    let b1 : FitsSigned w128 (at c.args.b.now.c 1) = search rules in
    simp to_z-of_z (c.requires 3 (pos 0) inside3)

pub product-requires-2 : goal.product-requires-2
product-requires-2 c =
    let a2 : FitsSigned w128 (at c.args.a.now.c 2) = search rules in
    let b2 : FitsSigned w128 (at c.args.b.now.c 2) = search rules in
    simp to_z-of_z (c.requires 4 (pos 0) inside4)

pub returns-clause-coefficients : goal.returns-clause-coefficients
returns-clause-coefficients c =
    let f0 : FitsSigned w128 c.product.result = search rules in
    let f1 : FitsSigned w128 c.two_products.result = search rules in
    let f2 : FitsSigned w128 c.three_products.result = search rules in
    let f3 : FitsSigned w128 c.two_products-2.result = search rules in
    let f4 : FitsSigned w128 c.product-2.result = search rules in
    let a = back3 w128 c.args.a.now.c (omega arith) (search rules) (search rules) (search rules) in
    let b = back3 w128 c.args.b.now.c (omega arith) (search rules) (search rules) (search rules) in
    simp to_z-of_z (simp (c.product.ensures, c.two_products.ensures, c.three_products.ensures, c.two_products-2.ensures, c.product-2.ensures, a, b) refl)

pub returns-clause-value : goal.returns-clause-value
returns-clause-value c x y =
    subst (λ (l : List ℤ). value4 l x y ≡ value2 c.args.a.now.c x y *ℤ value2 c.args.b.now.c x y) (sym (returns-clause-coefficients c)) (product22_is c.args.a.now.c c.args.b.now.c x y)
