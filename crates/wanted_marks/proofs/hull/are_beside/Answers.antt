use Rattle.std.proofs.Common.{◌≡◌, ◌≢◌, ◌-◌, pos, ◌*ℤ◌, int_lt, true, FitsSigned, arith, rules, ◌<◌, ap, subst, sym, ⊎_elim, ◌∙◌}
use Rattle.std.proofs.lemmas.Bool.{cases_eq}
use Rattle.std.proofs.lemmas.Int.{to_z-of_z}
use mir.Syntax.{w128}
use Rattle.space.specs.Vectors.{at}
use Rattle.bern_form.specs.Forms.{IsSmall}
use Rattle.wanted_marks.specs.Lines.{coefficient_at}
use Rattle.wanted_marks.specs.Widths.{quadratics}
use Rattle.wanted_marks.proofs.Exceeding.{all_more}
use Rattle.wanted_marks.proofs.Fitting.{at_quadratics, at_scaled4, small_at}
use Rattle.wanted_marks.proofs.hull.are_beside.Goals as goal

pub is_above_on-requires-clause-first : goal.is_above_on-requires-clause-first
is_above_on-requires-clause-first c = let s = c.args.line.now in small_at s.constant.c s.first.c s.second.c (pos c.args.l) (4 - c.loop-k.k) (omega arith) c.requires.first.width

pub is_above_on-requires-clause-last : goal.is_above_on-requires-clause-last
is_above_on-requires-clause-last c = let s = c.args.line.now in small_at s.constant.c s.first.c s.second.c (pos c.args.m) (4 - c.loop-k.k) (omega arith) c.requires.last.width

pub is_above_on-requires-clause-bend : goal.is_above_on-requires-clause-bend
is_above_on-requires-clause-bend c =
    let h = pos (c.args.m - c.args.l) in let k = 4 - c.loop-k.k in
    let below : k < 5 = omega arith in
    subst IsSmall (at_scaled4 (h *ℤ h) c.args.line.now.second.c k below) (c.requires.bend k (pos 0) below)

pub loop-k-preserved : goal.loop-k-preserved
loop-k-preserved c = λ i below done x from to.
    let limit : FitsSigned w128 (at c.args.limits.now (4 - c.loop-k.k)) = search rules in
    let here = (simp to_z-of_z at c.is_above_on.ensures) c.if-not-is_above_on.false x from to in
    ⊎_elim (λ (e : i ≡ 4 - c.loop-k.k). subst (λ j. int_lt (at c.args.limits.now j) (coefficient_at c.args.line.now j (pos x)) ≡ true) (sym e) here)
    (λ (e : i ≢ 4 - c.loop-k.k). c.loop-k.invariant i below (omega (arith, e, done, c.loop-k-test.true)) x from to) (cases_eq i (4 - c.loop-k.k))

pub returns : goal.returns
returns c = λ yes x from to.
    let s = c.args.line.now in
    all_more (quadratics s.constant.c s.first.c s.second.c (pos x)) c.args.limits.now
    (λ k below. ap (int_lt (at c.args.limits.now k)) (at_quadratics s.constant.c s.first.c s.second.c (pos x) k below) ∙ c.loop-k.invariant k below (omega (arith, below, c.loop-k-test.false)) x from to)
