use Rattle.std.proofs.Common.{◌≡◌, ◌<◌, List, ℤ, pos, ◌+ℤ◌, FitsSigned, arith, rules, refl, subst, sym}
use Rattle.std.proofs.lemmas.Int.{to_z-of_z}
use mir.Syntax.{w128}
use Rattle.bern_form.proofs.Components.{back3}
use Rattle.space.specs.Vectors.{at}
use Rattle.bern_form.specs.Forms.{value2}
use Rattle.bern_form.proofs.Forms.{sum2_is}
use Rattle.bern_form.proofs.product.plus2.Goals as goal

inside0 : 0 < 3
inside0 = omega arith

inside1 : 1 < 3
inside1 = omega arith

inside2 : 2 < 3
inside2 = omega arith

pub sum-requires : goal.sum-requires
sum-requires c =
    let a0 : FitsSigned w128 (at c.args.a.now.c 0) = search rules in
    let b0 : FitsSigned w128 (at c.args.b.now.c 0) = search rules in
    simp to_z-of_z (c.requires 0 (pos 0) inside0)

pub sum-requires-2 : goal.sum-requires-2
sum-requires-2 c =
    let a1 : FitsSigned w128 (at c.args.a.now.c 1) = search rules in
    let b1 : FitsSigned w128 (at c.args.b.now.c 1) = search rules in
    simp to_z-of_z (c.requires 1 (pos 0) inside1)

pub sum-requires-3 : goal.sum-requires-3
sum-requires-3 c =
    let a2 : FitsSigned w128 (at c.args.a.now.c 2) = search rules in
    let b2 : FitsSigned w128 (at c.args.b.now.c 2) = search rules in
    simp to_z-of_z (c.requires 2 (pos 0) inside2)

pub returns-clause-coefficients : goal.returns-clause-coefficients
returns-clause-coefficients c =
    let f0 : FitsSigned w128 c.sum.result = search rules in
    let f1 : FitsSigned w128 c.sum-2.result = search rules in
    let f2 : FitsSigned w128 c.sum-3.result = search rules in
    let a = back3 w128 c.args.a.now.c (omega arith) (search rules) (search rules) (search rules) in
    let b = back3 w128 c.args.b.now.c (omega arith) (search rules) (search rules) (search rules) in
    simp to_z-of_z (simp (c.sum.ensures, c.sum-2.ensures, c.sum-3.ensures, a, b) refl)

pub returns-clause-value : goal.returns-clause-value
returns-clause-value c x y =
    subst (λ (l : List ℤ). value2 l x y ≡ value2 c.args.a.now.c x y +ℤ value2 c.args.b.now.c x y) (sym (returns-clause-coefficients c)) (sum2_is c.args.a.now.c c.args.b.now.c x y)
