use Rattle.std.proofs.Common.{FitsSigned, rules, sym, subst, ap, ◌*◌, ◌∙◌}
use Rattle.std.proofs.lemmas.Int.{to_z-of_z}
use mir.Syntax.{w128}
use Rattle.bern_form.specs.Forms.{lifted, scaled2}
use Rattle.bern_form.specs.Sizes.{IsBounded4, axis_limit, length_limit}
use Rattle.bern_form.proofs.Sizes.{small_as}
use Rattle.axis_cells.proofs.Bounds.{squared_fits}
use Rattle.axis_cells.proofs.cell.Cell.squared.Goals as goal

pub scale2-requires : goal.scale2-requires
scale2-requires c =
    let square : FitsSigned w128 c.scaled_square.result = search rules in
    small_as (ap (λ z. scaled2 z c.args.self.now.n.c) (to_z-of_z w128 c.scaled_square.result square)) (squared_fits c.scaled_square.result c.args.self.now.n.c c.scaled_square.ensures.small c.args.self.now.n_small).scaled

pub lift24-requires : goal.lift24-requires
lift24-requires c =
    let square : FitsSigned w128 c.scaled_square.result = search rules in
    small_as (ap lifted (simp to_z-of_z at c.scale2.ensures.coefficients)) (squared_fits c.scaled_square.result c.args.self.now.n.c c.scaled_square.ensures.small c.args.self.now.n_small).whole

pub returns-clause-list : goal.returns-clause-list
returns-clause-list c =
    let length = c.ranges.length in
    let square : FitsSigned w128 c.scaled_square.result = search rules in
    let is = simp to_z-of_z at c.scaled_square.ensures.square in
    c.lift24.ensures.coefficients ∙ ap lifted (simp to_z-of_z at c.scale2.ensures.coefficients ∙ ap (λ z. scaled2 z c.args.self.now.n.c) is)

pub returns-clause-small : goal.returns-clause-small
returns-clause-small c =
    let square : FitsSigned w128 c.scaled_square.result = search rules in
    let whole = c.lift24.ensures.coefficients ∙ ap lifted (simp to_z-of_z at c.scale2.ensures.coefficients) in
    subst (IsBounded4 (18 * (length_limit * axis_limit) * (length_limit * axis_limit))) (sym whole) (squared_fits c.scaled_square.result c.args.self.now.n.c c.scaled_square.ensures.small c.args.self.now.n_small).small
