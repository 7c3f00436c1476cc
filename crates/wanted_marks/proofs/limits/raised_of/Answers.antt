use Rattle.std.proofs.Common.{◌*◌, ◌≤◌, List, ℤ, unsigned_abs, FitsSigned, rules, arith, ap, subst, sym}
use Rattle.std.proofs.lemmas.Int.{to_z-of_z}
use mir.Syntax.{w64, w128}
use Rattle.space.specs.Vectors.{at}
use Rattle.space.proofs.Facts.{back5}
use Rattle.bern_form.specs.Forms.{lifted}
use Rattle.bern_form.specs.Sizes.{IsBounded2, IsBounded4, axis_limit}
use Rattle.bern_form.proofs.Sizes.{lifted_bounded}
use Rattle.axis_cells.proofs.Bounds.{list4}
use Rattle.wanted_marks.specs.Limits.{all_not_below_zero}
use Rattle.wanted_marks.proofs.limits.raised_of.Goals as goal

small : (n : List ℤ) → IsBounded2 (3 * (axis_limit * axis_limit)) n → IsBounded4 (18 * (axis_limit * axis_limit)) (lifted n)
small n h = lifted_bounded n (3 * (axis_limit * axis_limit)) h

pub lift24-requires : goal.lift24-requires
lift24-requires c = let n = c.args.n.now.c in list4 (lifted n) (18 * (axis_limit * axis_limit)) (omega arith) (small n c.requires)

pub narrow_not_below_zero-requires : goal.narrow_not_below_zero-requires
narrow_not_below_zero-requires c =
    let back = back5 w128 c.lift24.result.c (omega arith) (search rules) (search rules) (search rules) (search rules) (search rules) in
    simp back (subst (λ (l : List ℤ). unsigned_abs (at l 0) ≤ 18 * (axis_limit * axis_limit)) (sym c.lift24.ensures.coefficients) (small c.args.n.now.c c.requires).c0)

pub narrow_not_below_zero-requires-2 : goal.narrow_not_below_zero-requires-2
narrow_not_below_zero-requires-2 c =
    let back = back5 w128 c.lift24.result.c (omega arith) (search rules) (search rules) (search rules) (search rules) (search rules) in
    simp back (subst (λ (l : List ℤ). unsigned_abs (at l 1) ≤ 18 * (axis_limit * axis_limit)) (sym c.lift24.ensures.coefficients) (small c.args.n.now.c c.requires).c1)

pub narrow_not_below_zero-requires-3 : goal.narrow_not_below_zero-requires-3
narrow_not_below_zero-requires-3 c =
    let back = back5 w128 c.lift24.result.c (omega arith) (search rules) (search rules) (search rules) (search rules) (search rules) in
    simp back (subst (λ (l : List ℤ). unsigned_abs (at l 2) ≤ 18 * (axis_limit * axis_limit)) (sym c.lift24.ensures.coefficients) (small c.args.n.now.c c.requires).c2)

pub narrow_not_below_zero-requires-4 : goal.narrow_not_below_zero-requires-4
narrow_not_below_zero-requires-4 c =
    let back = back5 w128 c.lift24.result.c (omega arith) (search rules) (search rules) (search rules) (search rules) (search rules) in
    simp back (subst (λ (l : List ℤ). unsigned_abs (at l 3) ≤ 18 * (axis_limit * axis_limit)) (sym c.lift24.ensures.coefficients) (small c.args.n.now.c c.requires).c3)

pub narrow_not_below_zero-requires-5 : goal.narrow_not_below_zero-requires-5
narrow_not_below_zero-requires-5 c =
    let back = back5 w128 c.lift24.result.c (omega arith) (search rules) (search rules) (search rules) (search rules) (search rules) in
    simp back (subst (λ (l : List ℤ). unsigned_abs (at l 4) ≤ 18 * (axis_limit * axis_limit)) (sym c.lift24.ensures.coefficients) (small c.args.n.now.c c.requires).c4)

pub returns : goal.returns
returns c =
    let f0 : FitsSigned w64 c.narrow_not_below_zero.result = record { sfits = c.narrow_not_below_zero.type_inv } in
    let f1 : FitsSigned w64 c.narrow_not_below_zero-2.result = record { sfits = c.narrow_not_below_zero-2.type_inv } in
    let f2 : FitsSigned w64 c.narrow_not_below_zero-3.result = record { sfits = c.narrow_not_below_zero-3.type_inv } in
    let f3 : FitsSigned w64 c.narrow_not_below_zero-4.result = record { sfits = c.narrow_not_below_zero-4.type_inv } in
    let f4 : FitsSigned w64 c.narrow_not_below_zero-5.result = record { sfits = c.narrow_not_below_zero-5.type_inv } in
    let back = back5 w128 c.lift24.result.c (omega arith) (search rules) (search rules) (search rules) (search rules) (search rules) in
    simp to_z-of_z
    (simp (c.narrow_not_below_zero.ensures, c.narrow_not_below_zero-2.ensures, c.narrow_not_below_zero-3.ensures, c.narrow_not_below_zero-4.ensures, c.narrow_not_below_zero-5.ensures, back)
    (ap all_not_below_zero c.lift24.ensures.coefficients))
