use Rattle.std.proofs.Common.{◌≡◌, List, ℤ, pos, ◌*ℤ◌, FitsSigned, arith, rules, refl, subst, sym}
use Rattle.std.proofs.lemmas.Int.{to_z-of_z}
use mir.Syntax.{w128}
use Rattle.space.proofs.Facts.{back5}
use Rattle.bern_form.specs.Forms.{value4}
use Rattle.bern_form.proofs.Forms.{scaled4_is}
use Rattle.bern_form.proofs.product.scale4.Goals as goal

pub product-requires : goal.product-requires
product-requires c =
    let by = c.ranges.by in
    let a = back5 w128 c.args.a.now.c (omega arith) (search rules) (search rules) (search rules) (search rules) (search rules) in
    simp (to_z-of_z, a) (c.requires 0 (pos 0) (omega arith))

pub product-requires-2 : goal.product-requires-2
product-requires-2 c =
    let by = c.ranges.by in
    let a = back5 w128 c.args.a.now.c (omega arith) (search rules) (search rules) (search rules) (search rules) (search rules) in
    simp (to_z-of_z, a) (c.requires 1 (pos 0) (omega arith))

pub product-requires-3 : goal.product-requires-3
product-requires-3 c =
    let by = c.ranges.by in
    let a = back5 w128 c.args.a.now.c (omega arith) (search rules) (search rules) (search rules) (search rules) (search rules) in
    simp (to_z-of_z, a) (c.requires 2 (pos 0) (omega arith))

pub product-requires-4 : goal.product-requires-4
product-requires-4 c =
    let by = c.ranges.by in
    let a = back5 w128 c.args.a.now.c (omega arith) (search rules) (search rules) (search rules) (search rules) (search rules) in
    simp (to_z-of_z, a) (c.requires 3 (pos 0) (omega arith))

pub product-requires-5 : goal.product-requires-5
product-requires-5 c =
    let by = c.ranges.by in
    let a = back5 w128 c.args.a.now.c (omega arith) (search rules) (search rules) (search rules) (search rules) (search rules) in
    simp (to_z-of_z, a) (c.requires 4 (pos 0) (omega arith))

pub returns-clause-coefficients : goal.returns-clause-coefficients
returns-clause-coefficients c =
    let by = c.ranges.by in
    let f0 : FitsSigned w128 c.product.result = search rules in
    let f1 : FitsSigned w128 c.product-2.result = search rules in
    let f2 : FitsSigned w128 c.product-3.result = search rules in
    let f3 : FitsSigned w128 c.product-4.result = search rules in
    let f4 : FitsSigned w128 c.product-5.result = search rules in
    let a = back5 w128 c.args.a.now.c (omega arith) (search rules) (search rules) (search rules) (search rules) (search rules) in
    simp to_z-of_z (simp (c.product.ensures, c.product-2.ensures, c.product-3.ensures, c.product-4.ensures, c.product-5.ensures, to_z-of_z, a) refl)

pub returns-clause-value : goal.returns-clause-value
returns-clause-value c x y =
    subst (λ (l : List ℤ). value4 l x y ≡ c.args.by *ℤ value4 c.args.a.now.c x y) (sym (returns-clause-coefficients c)) (scaled4_is c.args.by c.args.a.now.c x y)
