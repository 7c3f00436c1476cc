use Rattle.std.proofs.Common.{◌≡◌, ◌≢◌, ◌<◌, ◌*ℤ◌, pos, int_le, int_lt, true, FitsSigned, arith, rules, subst, sym, ap, ⊎_elim, ◌∙◌}
use Rattle.std.proofs.lemmas.Bool.{cases_eq}
use Rattle.std.proofs.lemmas.Int.{to_z-of_z}
use mir.Syntax.{w64, w128}
use Rattle.space.specs.Vectors.{at}
use Rattle.bern_form.specs.Forms.{scaled4}
use Rattle.wanted_marks.specs.Lines.{coefficient_at}
use Rattle.wanted_marks.specs.Widths.{quadratics}
use Rattle.wanted_marks.proofs.Exceeding.{all_more, more, one_at_most, one_not_more}
use Rattle.wanted_marks.proofs.Fitting.{at_quadratics, at_scaled4, small_at}
use Rattle.wanted_marks.proofs.line.Line.exceed_times.Goals as goal

pub is_above-requires-clause-small : goal.is_above-requires-clause-small
is_above-requires-clause-small c = let s = c.args.self.now in small_at s.constant.c s.first.c s.second.c (pos c.args.l) c.loop-k.k (omega arith) c.requires.fits.width

pub returns-then-not-is_above : goal.returns-then-not-is_above
returns-then-not-is_above c =
    let s = c.args.self.now in let l = pos c.args.l in let k = c.loop-k.k in let f = c.args.factor in
    let below : k < 5 = omega arith in
    let factor = c.ranges.factor in
    let limit : FitsSigned w64 (at c.args.limits.now k) = search rules in
    let whole : FitsSigned w128 c.product-in-loop-k.result = record { sfits = c.product-in-loop-k.type_inv } in
    let is = simp to_z-of_z at c.product-in-loop-k.ensures in
    let here = ap (λ z. int_lt z (coefficient_at s k l)) (sym is) ∙ sym (simp to_z-of_z at c.is_above.ensures) ∙ c.if-not-is_above.true in
    sym (one_not_more (quadratics s.constant.c s.first.c s.second.c l) (scaled4 f c.args.limits.now) k below
    (ap (λ z. int_lt z (at (quadratics s.constant.c s.first.c s.second.c l) k)) (at_scaled4 f c.args.limits.now k below)
    ∙ ap (int_lt (f *ℤ at c.args.limits.now k)) (at_quadratics s.constant.c s.first.c s.second.c l k below) ∙ here))

pub returns-then-last-product : goal.returns-then-last-product
returns-then-last-product c =
    let s = c.args.self.now in let l = pos c.args.l in let f = c.args.factor in
    let factor = c.ranges.factor in let last = c.ranges.last in
    let limit : FitsSigned w64 (at c.args.limits.now 4) = search rules in
    let whole : FitsSigned w128 c.product.result = record { sfits = c.product.type_inv } in
    let is = simp to_z-of_z at c.product.ensures in
    sym (one_at_most (quadratics s.constant.c s.first.c s.second.c l) (scaled4 f c.args.limits.now) 4 (omega arith)
    (ap (λ z. int_le z (f *ℤ at c.args.limits.now 4)) (sym c.requires.last) ∙ ap (int_le c.args.last) (sym is) ∙ (simp to_z-of_z at c.if-last-product.true)))

pub loop-k-init : goal.loop-k-init
loop-k-init c = λ i below. absurd (omega (arith, below))

pub loop-k-preserved : goal.loop-k-preserved
loop-k-preserved c = λ i below.
    let s = c.args.self.now in let k = c.loop-k.k in let f = c.args.factor in
    let factor = c.ranges.factor in
    let limit : FitsSigned w64 (at c.args.limits.now k) = search rules in
    let whole : FitsSigned w128 c.product-in-loop-k.result = record { sfits = c.product-in-loop-k.type_inv } in
    let is = simp to_z-of_z at c.product-in-loop-k.ensures in
    let here = ap (λ z. int_lt z (coefficient_at s k (pos c.args.l))) (sym is) ∙ sym (simp to_z-of_z at c.is_above.ensures) ∙ c.if-not-is_above.false in
    let done : int_lt (f *ℤ at c.args.limits.now i) (coefficient_at s i (pos c.args.l)) ≡ true =
    ⊎_elim (λ (e : i ≡ k). subst (λ j. int_lt (f *ℤ at c.args.limits.now j) (coefficient_at s j (pos c.args.l)) ≡ true) (sym e) here)
    (λ (e : i ≢ k). simp to_z-of_z at (c.loop-k.invariant i (omega (arith, e, below)))) (cases_eq i k) in
    simp to_z-of_z done

pub returns : goal.returns
returns c =
    let s = c.args.self.now in let l = pos c.args.l in let f = c.args.factor in
    let factor = c.ranges.factor in let last = c.ranges.last in
    let limit : FitsSigned w64 (at c.args.limits.now 4) = search rules in
    let whole : FitsSigned w128 c.product.result = record { sfits = c.product.type_inv } in
    let is = simp to_z-of_z at c.product.ensures in
    let here = ap (λ z. int_le z (f *ℤ at c.args.limits.now 4)) (sym c.requires.last) ∙ ap (int_le c.args.last) (sym is) ∙ (simp to_z-of_z at c.if-last-product.false) in
    sym (all_more (quadratics s.constant.c s.first.c s.second.c l) (scaled4 f c.args.limits.now)
    (λ k below. ap (λ z. int_lt z (at (quadratics s.constant.c s.first.c s.second.c l) k)) (at_scaled4 f c.args.limits.now k below)
    ∙ ap (int_lt (f *ℤ at c.args.limits.now k)) (at_quadratics s.constant.c s.first.c s.second.c l k below)
    ∙ ⊎_elim (λ (e : k ≡ 4). subst (λ j. int_lt (f *ℤ at c.args.limits.now j) (coefficient_at s j l) ≡ true) (sym e) (more (coefficient_at s 4 l) (f *ℤ at c.args.limits.now 4) here))
    (λ (e : k ≢ 4). simp to_z-of_z at (c.loop-k.invariant k (omega (arith, below, e, c.loop-k-test.false)))) (cases_eq k 4)))
