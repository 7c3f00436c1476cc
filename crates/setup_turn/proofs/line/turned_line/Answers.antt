use Rattle.std.proofs.Common.{ap, subst, sym, ◌∙◌}
use Rattle.ray_grid.specs.Turns.{forth}
use Rattle.setup_turn.specs.Places.{IsNewLineOf}
use Rattle.setup_turn.proofs.OneRay.{line_found, no_place_found}
use Rattle.setup_turn.proofs.line.turned_line.Goals as goal

pub returns-in_err-found : goal.returns-in_err-found
returns-in_err-found c =
    let turn = c.args.turn.now in let old = c.args.old.now in let ray = c.args.ray.now in
    subst (λ r. IsNewLineOf turn old c.args.new.now ray c.args.first r) (sym c.from_residual.ensures)
    (no_place_found turn old c.args.new.now ray c.args.first c.new_family-family.result c.forth-place.result c.requires.turn.quarter c.new_family-family.ensures
    (c.forth-place.ensures.there ∙ ap (forth turn) c.point.ensures.position) c.in_err-found.ensures)

pub returns : goal.returns
returns c =
    let turn = c.args.turn.now in let old = c.args.old.now in let ray = c.args.ray.now in
    line_found turn old c.args.new.now ray c.in_ok-found.found.ray c.args.first c.in_ok-found.found.l c.ray_axis.result c.new_family-family.result c.forth-place.result
    c.new_family-family.ensures (c.forth-place.ensures.there ∙ ap (forth turn) c.point.ensures.position) c.in_ok-found.ensures c.ray_axis.ensures.axis
