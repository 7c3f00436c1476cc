use Rattle.std.proofs.Common.{◌≡◌, ℕ, ℤ, ◌+◌, ◌<◌, ◌*ℤ◌, true, FitsSigned, arith, rules, subst, sym, ◌∙◌, ◌*◌}
use Rattle.std.proofs.lemmas.Int.{to_z-of_z}
use mir.Syntax.{w128}
use borrow.Author.Count.{below_more}
use Rattle.space.specs.Vectors.{at}
use Rattle.bern_form.specs.Sizes.{axis_limit}
use Rattle.box_bisect.specs.Sides.{is_on}
use Rattle.box_bisect.proofs.Fitting.{coefficient_small}
use Rattle.box_bisect.proofs.Raised.{each_on, one_not_on}
use Rattle.box_bisect.proofs.compare.are_on.Goals as goal

pub is_on-requires-clause-r : goal.is_on-requires-clause-r
is_on-requires-clause-r c =
    let r : FitsSigned w128 (at c.args.raised.now.c c.loop-i.i) = search rules in
    simp to_z-of_z (coefficient_small (18 * (axis_limit * axis_limit)) c.args.raised.now.c c.loop-i.i c.loop-i-test.true c.requires.raised)

pub returns-then-not-is_on : goal.returns-then-not-is_on
returns-then-not-is_on c =
    let r : FitsSigned w128 (at c.args.raised.now.c c.loop-i.i) = search rules in
    let a : FitsSigned w128 (at c.args.form.now.c c.loop-i.i) = search rules in
    let limit = c.ranges.limit in
    sym (one_not_on c.args.side c.args.form.now.c c.args.raised.now.c c.args.limit c.loop-i.i c.loop-i-test.true (sym (simp to_z-of_z at c.is_on.ensures) ∙ c.if-not-is_on.true))

pub loop-i-preserved : goal.loop-i-preserved
loop-i-preserved c =
    let side = c.args.side in let form = c.args.form.now.c in let raised = c.args.raised.now.c in
    let r : FitsSigned w128 (at raised c.loop-i.i) = search rules in
    let a : FitsSigned w128 (at form c.loop-i.i) = search rules in
    let limit = c.ranges.limit in let same = to_z-of_z w128 c.args.limit c.ranges.limit in
    let before = subst (λ (z : ℤ). (k : ℕ) → k < c.loop-i.i → is_on side (at form k) (z *ℤ at raised k) ≡ true) same c.loop-i.invariant in
    subst (λ (z : ℤ). (k : ℕ) → k < c.loop-i.i + 1 → is_on side (at form k) (z *ℤ at raised k) ≡ true) (sym same)
    (below_more (λ k. is_on side (at form k) (c.args.limit *ℤ at raised k) ≡ true) c.loop-i.i before (sym (simp to_z-of_z at c.is_on.ensures) ∙ c.if-not-is_on.false))

pub returns : goal.returns
returns c =
    let side = c.args.side in let form = c.args.form.now.c in let raised = c.args.raised.now.c in
    let same = to_z-of_z w128 c.args.limit c.ranges.limit in
    let all = subst (λ (z : ℤ). (k : ℕ) → k < c.loop-i.i → is_on side (at form k) (z *ℤ at raised k) ≡ true) same c.loop-i.invariant in
    sym (each_on side form raised c.args.limit (λ k l. all k (omega (arith, l, c.loop-i-test.false))))
