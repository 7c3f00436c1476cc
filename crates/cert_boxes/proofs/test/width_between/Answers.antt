use Rattle.std.proofs.Common.{ℤ, ap, ap₂, sym, subst, ◌∙◌}
use Rattle.std.specs.List.{All}
use Rattle.std.proofs.lemmas.Int.{to_z-of_z}
use mir.Syntax.{w128}
use Rattle.bern_form.specs.Forms.{IsSmall, difference4, scaled4}
use Rattle.bern_form.specs.Sizes.{IsBounded4}
use Rattle.bern_form.proofs.Sizes.{small_as}
use Rattle.cert_boxes.specs.Forms.{column_bound}
use Rattle.cert_boxes.proofs.BoxFitting.{width_fits}
use Rattle.cert_boxes.proofs.test.width_between.Goals as goal

pub times22-requires : goal.times22-requires
times22-requires c =
    let a = c.args in let r = c.requires in (width_fits a.times a.d.now.c a.n.now.c a.u.now.c a.v.now.c r.times r.d r.n r.u r.v).both

pub times22-requires-2 : goal.times22-requires-2
times22-requires-2 c =
    let a = c.args in let r = c.requires in (width_fits a.times a.d.now.c a.n.now.c a.u.now.c a.v.now.c r.times r.d r.n r.u r.v).squares

pub minus4-requires : goal.minus4-requires
minus4-requires c =
    let a = c.args in let r = c.requires in
    small_as (ap₂ difference4 c.times22.ensures.coefficients c.times22-2.ensures.coefficients) (width_fits a.times a.d.now.c a.n.now.c a.u.now.c a.v.now.c r.times r.d r.n r.u r.v).spread

pub scale4-requires : goal.scale4-requires
scale4-requires c =
    let a = c.args in let r = c.requires in
    subst (λ (z : ℤ). All IsSmall (scaled4 z c.minus4.result.c)) (sym (to_z-of_z w128 a.times c.ranges.times))
    (small_as (ap (scaled4 a.times) (c.minus4.ensures.coefficients ∙ ap₂ difference4 c.times22.ensures.coefficients c.times22-2.ensures.coefficients))
    (width_fits a.times a.d.now.c a.n.now.c a.u.now.c a.v.now.c r.times r.d r.n r.u r.v).width)

pub returns-clause-column : goal.returns-clause-column
returns-clause-column c =
    let times = c.ranges.times in
    (simp to_z-of_z at c.scale4.ensures.coefficients)
    ∙ ap (scaled4 c.args.times) (c.minus4.ensures.coefficients ∙ ap₂ difference4 c.times22.ensures.coefficients c.times22-2.ensures.coefficients)

pub returns-clause-small : goal.returns-clause-small
returns-clause-small c =
    let a = c.args in let r = c.requires in
    subst (IsBounded4 column_bound) (sym (returns-clause-column c)) (width_fits a.times a.d.now.c a.n.now.c a.u.now.c a.v.now.c r.times r.d r.n r.u r.v).width_small
