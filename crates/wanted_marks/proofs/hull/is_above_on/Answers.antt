use Rattle.std.proofs.Common.{◌≡◌, pos, ◌-◌, ◌+ℤ◌, ◌*ℤ◌, ◌-ℤ◌, FitsSigned, arith, rules, subst, sym, ap}
use Rattle.std.proofs.lemmas.Int.{fits_signed_from_abs, to_z-of_z}
use mir.Syntax.{w128}
use Rattle.space.specs.Vectors.{at}
use Rattle.space.proofs.Naturals.{abs_add, abs_sub}
use Rattle.space.proofs.Tests.{decides_lt}
use Rattle.bern_form.specs.Forms.{IsSmall}
use Rattle.wanted_marks.specs.Lines.{coefficient_at}
use Rattle.wanted_marks.proofs.Exceeding.{not_at_most}
use Rattle.wanted_marks.proofs.Hulls.{over_by}
use Rattle.wanted_marks.proofs.Small.{less_fits, product_fits, square_fits, sum_fits}
use Rattle.wanted_marks.proofs.hull.is_above_on.Goals as goal

pub width-last-requires : goal.width-last-requires
width-last-requires c = record { place = c.requires.place; small = c.requires.last }

pub overflow_mul-steps : goal.overflow_mul-steps
overflow_mul-steps c = square_fits (c.args.m - c.args.l) c.requires.few

pub overflow_mul-result : goal.overflow_mul-result
overflow_mul-result c =
    let square = c.from.result in let d = at c.args.line.now.second.c c.args.k in
    let f : FitsSigned w128 d = search rules in
    product_fits square d record { sfits = c.from.type_inv } f (subst IsSmall (ap (λ z. z *ℤ d) (sym c.from.ensures)) c.requires.bend)

pub overflow_sub-result : goal.overflow_sub-result
overflow_sub-result c = less_fits c.width-first.result c.args.limit (subst IsSmall (sym c.width-first.ensures) c.requires.first) c.requires.limit

pub overflow_sub-result-2 : goal.overflow_sub-result-2
overflow_sub-result-2 c = less_fits c.width-last.result c.args.limit (subst IsSmall (sym c.width-last.ensures) c.requires.last) c.requires.limit

pub overflow_add-result : goal.overflow_add-result
overflow_add-result c =
    sum_fits c.width-first.result c.width-last.result c.args.limit (subst IsSmall (sym c.width-first.ensures) c.requires.first)
    (subst IsSmall (sym c.width-last.ensures) c.requires.last) c.requires.limit

pub returns : goal.returns
returns c = λ yes x from to.
    let s = c.args.line.now in let k = c.args.k in let e = c.args.limit in let l = c.args.l in let m = c.args.m in
    let first = c.width-first.result in let last = c.width-last.result in let square = c.from.result in let d = at s.second.c k in
    let limit = c.ranges.limit in
    let f0 : FitsSigned w128 first = search rules in
    let f1 : FitsSigned w128 last = search rules in
    let f2 : FitsSigned w128 square = search rules in
    let f3 : FitsSigned w128 d = search rules in
    let small_first = subst IsSmall (sym c.width-first.ensures) c.requires.first in
    let small_last = subst IsSmall (sym c.width-last.ensures) c.requires.last in
    let bend : square *ℤ d ≡ (pos (m - l) *ℤ pos (m - l)) *ℤ d = ap (λ z. z *ℤ d) c.from.ensures in
    let small_bend = subst IsSmall (sym bend) c.requires.bend in
    let g0 = fits_signed_from_abs w128 (square *ℤ d) (omega (arith, small_bend)) in
    let a0 = abs_sub first e in let a1 = abs_sub last e in let a2 = abs_add (first -ℤ e) (last -ℤ e) in
    let g1 = fits_signed_from_abs w128 (first -ℤ e) (omega (arith, small_first, c.requires.limit, a0)) in
    let g2 = fits_signed_from_abs w128 (last -ℤ e) (omega (arith, small_last, c.requires.limit, a1)) in
    let g3 = fits_signed_from_abs w128 ((first -ℤ e) +ℤ (last -ℤ e)) (omega (arith, small_first, small_last, c.requires.limit, a0, a1, a2)) in
    let less = (decides_lt (square *ℤ d) ((first -ℤ e) +ℤ (last -ℤ e))).0 (simp to_z-of_z at yes) in
    (decides_lt e (coefficient_at s k (pos x))).1
    (over_by (at s.constant.c k) (at s.first.c k) d e l x m first last (square *ℤ d) c.width-first.ensures c.width-last.ensures bend from to
    (not_at_most first e (simp to_z-of_z at c.if-first-limit.false)) (not_at_most last e (simp to_z-of_z at c.if-last-limit.false)) less)
