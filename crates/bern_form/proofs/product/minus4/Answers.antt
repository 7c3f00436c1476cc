use Rattle.std.proofs.Common.{◌≡◌, ◌<◌, List, ℤ, pos, ◌-ℤ◌, FitsSigned, arith, rules, refl, subst, sym}
use Rattle.std.proofs.lemmas.Int.{to_z-of_z}
use mir.Syntax.{w128}
use Rattle.space.proofs.Facts.{back5}
use Rattle.space.specs.Vectors.{at}
use Rattle.bern_form.specs.Forms.{value4}
use Rattle.bern_form.proofs.Forms.{difference4_is}
use Rattle.bern_form.proofs.product.minus4.Goals as goal

inside0 : 0 < 5
inside0 = omega arith

inside1 : 1 < 5
inside1 = omega arith

inside2 : 2 < 5
inside2 = omega arith

inside3 : 3 < 5
inside3 = omega arith

inside4 : 4 < 5
inside4 = omega arith

pub difference-requires : goal.difference-requires
difference-requires c =
    let a0 : FitsSigned w128 (at c.args.a.now.c 0) = search rules in
    let b0 : FitsSigned w128 (at c.args.b.now.c 0) = search rules in
    simp to_z-of_z (c.requires 0 (pos 0) inside0)

pub difference-requires-2 : goal.difference-requires-2
difference-requires-2 c =
    let a1 : FitsSigned w128 (at c.args.a.now.c 1) = search rules in
    let b1 : FitsSigned w128 (at c.args.b.now.c 1) = search rules in
    simp to_z-of_z (c.requires 1 (pos 0) inside1)

pub difference-requires-3 : goal.difference-requires-3
difference-requires-3 c =
    let a2 : FitsSigned w128 (at c.args.a.now.c 2) = search rules in
    let b2 : FitsSigned w128 (at c.args.b.now.c 2) = search rules in
    simp to_z-of_z (c.requires 2 (pos 0) inside2)

pub difference-requires-4 : goal.difference-requires-4
difference-requires-4 c =
    let a3 : FitsSigned w128 (at c.args.a.now.c 3) = search rules in
    let b3 : FitsSigned w128 (at c.args.b.now.c 3) = search rules in
    simp to_z-of_z (c.requires 3 (pos 0) inside3)

pub difference-requires-5 : goal.difference-requires-5
difference-requires-5 c =
    let a4 : FitsSigned w128 (at c.args.a.now.c 4) = search rules in
    let b4 : FitsSigned w128 (at c.args.b.now.c 4) = search rules in
    simp to_z-of_z (c.requires 4 (pos 0) inside4)

pub returns-clause-coefficients : goal.returns-clause-coefficients
returns-clause-coefficients c =
    let f0 : FitsSigned w128 c.difference.result = search rules in
    let f1 : FitsSigned w128 c.difference-2.result = search rules in
    let f2 : FitsSigned w128 c.difference-3.result = search rules in
    let f3 : FitsSigned w128 c.difference-4.result = search rules in
    let f4 : FitsSigned w128 c.difference-5.result = search rules in
    let a = back5 w128 c.args.a.now.c (omega arith) (search rules) (search rules) (search rules) (search rules) (search rules) in
    let b = back5 w128 c.args.b.now.c (omega arith) (search rules) (search rules) (search rules) (search rules) (search rules) in
    simp to_z-of_z (simp (c.difference.ensures, c.difference-2.ensures, c.difference-3.ensures, c.difference-4.ensures, c.difference-5.ensures, a, b) refl)

pub returns-clause-value : goal.returns-clause-value
returns-clause-value c x y =
    subst (λ (l : List ℤ). value4 l x y ≡ value4 c.args.a.now.c x y -ℤ value4 c.args.b.now.c x y) (sym (returns-clause-coefficients c)) (difference4_is c.args.a.now.c c.args.b.now.c x y)
