use Rattle.std.proofs.Common.{◌≡◌, ◌<◌, List, ℤ, pos, ◌*ℤ◌, FitsSigned, arith, rules, refl, subst, sym}
use Rattle.std.proofs.lemmas.Int.{to_z-of_z}
use mir.Syntax.{w128}
use Rattle.bern_form.proofs.Components.{back3}
use Rattle.space.specs.Vectors.{at}
use Rattle.bern_form.specs.Forms.{value2}
use Rattle.bern_form.proofs.Forms.{scaled2_is}
use Rattle.bern_form.proofs.product.scale2.Goals as goal

inside0 : 0 < 3
inside0 = omega arith

inside1 : 1 < 3
inside1 = omega arith

inside2 : 2 < 3
inside2 = omega arith

pub product-requires : goal.product-requires
product-requires c =
    let by = c.ranges.by in
    let a0 : FitsSigned w128 (at c.args.a.now.c 0) = search rules in
    simp to_z-of_z (c.requires 0 (pos 0) inside0)

pub product-requires-2 : goal.product-requires-2
product-requires-2 c =
    let by = c.ranges.by in
    let a1 : FitsSigned w128 (at c.args.a.now.c 1) = search rules in
    simp to_z-of_z (c.requires 1 (pos 0) inside1)

pub product-requires-3 : goal.product-requires-3
product-requires-3 c =
    let by = c.ranges.by in
    let a2 : FitsSigned w128 (at c.args.a.now.c 2) = search rules in
    simp to_z-of_z (c.requires 2 (pos 0) inside2)

pub returns-clause-coefficients : goal.returns-clause-coefficients
returns-clause-coefficients c =
    let by = c.ranges.by in
    let f0 : FitsSigned w128 c.product.result = search rules in
    let f1 : FitsSigned w128 c.product-2.result = search rules in
    let f2 : FitsSigned w128 c.product-3.result = search rules in
    let a = back3 w128 c.args.a.now.c (omega arith) (search rules) (search rules) (search rules) in
    simp to_z-of_z (simp (c.product.ensures, c.product-2.ensures, c.product-3.ensures, to_z-of_z, a) refl)

pub returns-clause-value : goal.returns-clause-value
returns-clause-value c x y =
    subst (λ (l : List ℤ). value2 l x y ≡ c.args.by *ℤ value2 c.args.a.now.c x y) (sym (returns-clause-coefficients c)) (scaled2_is c.args.by c.args.a.now.c x y)
