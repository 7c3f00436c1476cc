use Rattle.std.proofs.Common.{pos, FitsSigned, rules, arith, ap, sym, ◌∙◌}
use Rattle.std.proofs.lemmas.Int.{to_z-of_z}
use mir.Syntax.{w32, w128}
use Rattle.space.proofs.Facts.{back5}
use Rattle.bern_form.specs.Forms.{lifted, scaled2}
use Rattle.bern_form.proofs.Sizes.{small_as}
use Rattle.axis_cells.specs.Exclusion.{squared}
use Rattle.axis_cells.proofs.Bounds.{squared_fits}
use Rattle.wanted_marks.specs.Limits.{all_not_below_zero}
use Rattle.wanted_marks.proofs.Widest.{clamped_small}
use Rattle.wanted_marks.proofs.limits.limits_of.Goals as goal

pub scale2-requires : goal.scale2-requires
scale2-requires c =
    let square : FitsSigned w128 c.scaled_square.result = record { sfits = c.scaled_square.type_inv } in
    small_as (ap (λ z. scaled2 z c.args.n.now.c) (to_z-of_z w128 c.scaled_square.result square)) (squared_fits c.scaled_square.result c.args.n.now.c c.scaled_square.ensures.small c.requires.n).scaled

pub lift24-requires : goal.lift24-requires
lift24-requires c =
    let square : FitsSigned w128 c.scaled_square.result = record { sfits = c.scaled_square.type_inv } in
    small_as (ap lifted (simp to_z-of_z at c.scale2.ensures.coefficients)) (squared_fits c.scaled_square.result c.args.n.now.c c.scaled_square.ensures.small c.requires.n).whole

pub returns-clause-value : goal.returns-clause-value
returns-clause-value c =
    let square : FitsSigned w128 c.scaled_square.result = record { sfits = c.scaled_square.type_inv } in
    let diameter : FitsSigned w32 c.args.diameter = c.ranges.diameter in
    let f0 : FitsSigned w128 c.not_below_zero.result = record { sfits = c.not_below_zero.type_inv } in
    let f1 : FitsSigned w128 c.not_below_zero-2.result = record { sfits = c.not_below_zero-2.type_inv } in
    let f2 : FitsSigned w128 c.not_below_zero-3.result = record { sfits = c.not_below_zero-3.type_inv } in
    let f3 : FitsSigned w128 c.not_below_zero-4.result = record { sfits = c.not_below_zero-4.type_inv } in
    let f4 : FitsSigned w128 c.not_below_zero-5.result = record { sfits = c.not_below_zero-5.type_inv } in
    let back = back5 w128 c.lift24.result.c (omega arith) (search rules) (search rules) (search rules) (search rules) (search rules) in
    let list = c.lift24.ensures.coefficients ∙ ap lifted (simp to_z-of_z at c.scale2.ensures.coefficients ∙ ap (λ z. scaled2 z c.args.n.now.c) (simp to_z-of_z at c.scaled_square.ensures.square)) in
    simp to_z-of_z (simp (c.not_below_zero.ensures, c.not_below_zero-2.ensures, c.not_below_zero-3.ensures, c.not_below_zero-4.ensures, c.not_below_zero-5.ensures, back) (ap all_not_below_zero list))

pub returns-clause-small : goal.returns-clause-small
returns-clause-small c =
    let n = c.args.n.now.c in let square = c.scaled_square.result in
    let diameter : FitsSigned w32 c.args.diameter = c.ranges.diameter in
    let whole = (squared_fits square n c.scaled_square.ensures.small c.requires.n).whole in
    small_as (returns-clause-value c)
    (clamped_small (squared (pos c.args.scale) c.args.diameter n) (small_as (ap (λ z. lifted (scaled2 z n)) (sym (simp to_z-of_z at c.scaled_square.ensures.square))) whole))
