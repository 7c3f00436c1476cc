-- What is known of the square of a length as a word is true of it.
use Rattle.std.proofs.Common.{FitsSigned, rules, ap, ◌∙◌}
use Rattle.std.proofs.lemmas.Int.{to_z-of_z}
use mir.Syntax.{w32, w128}
use Rattle.bern_form.specs.Grids.{rows_negative}
use Rattle.ray_boxes.specs.Boxes.{grid_less}
use Rattle.cert_boxes.specs.SlabOrder.{is_below_by_grid}
use Rattle.cert_boxes.proofs.test.BoxTest.is_below.Goals as goal

pub returns : goal.returns
returns c =
    let k = c.args.self.now in let q = k.height in let s = c.slab.inside in
    let lo : FitsSigned w32 s.lo = search rules in
    let square : FitsSigned w128 c.scaled_square-square.result = record { sfits = c.scaled_square-square.type_inv } in
    (simp to_z-of_z at c.are_on.ensures)
    ∙ ap (λ z. rows_negative (grid_less k.raised.c z q.first.c q.middle.c q.last.c)) (simp to_z-of_z at c.scaled_square-square.ensures.square)
    ∙ ap (λ t. is_below_by_grid k.scale k.raised.c q.first.c q.middle.c q.last.c t) c.slab.view_is
