use Rattle.std.proofs.Common.{◌++◌, [], ◌∷◌, cond, eqb, get_or, ◌∙◌}
use Rattle.ray_grid.specs.declared.ray.Family.TheVariants.{X}
use Rattle.cert_lines.specs.Certificates.{is_cell_on}
use Rattle.cert_boxes.proofs.Listed.{all_at_place}
use Rattle.cert_boxes.proofs.RowLemmas.{line_in_range, rows_more}
use Rattle.cert_boxes.proofs.row.rows_of.Goals as goal

pub span_of-span-requires : goal.span_of-span-requires
span_of-span-requires c = line_in_range c.args.grid.now (get_or c.args.cells.now c.loop-cell.cell-index record { line = 0; ray = record { family = X; i = 0; j = 0 }; q = 0; k = 0; a = 0; b = 0 }) (all_at_place (is_cell_on c.args.grid.now) c.args.cells.now c.requires c.loop-cell.cell-index _ c.loop-cell-test.true)

pub ray_number-requires : goal.ray_number-requires
ray_number-requires c = (line_in_range c.args.grid.now (get_or c.args.cells.now c.loop-cell.cell-index record { line = 0; ray = record { family = X; i = 0; j = 0 }; q = 0; k = 0; a = 0; b = 0 }) (all_at_place (is_cell_on c.args.grid.now) c.args.cells.now c.requires c.loop-cell.cell-index _ c.loop-cell-test.true)).ray

pub loop-cell-preserved : goal.loop-cell-preserved
loop-cell-preserved c =
    let number = c.ray_number.ensures.number in let span = c.span_of-span.ensures in let old = c.loop-cell.rows.items in
    rows_more c.args.grid.now c.args.cells.now c.loop-cell.cell-index _ old c.add_span.new.rows.items c.loop-cell-test.true c.loop-cell.invariant
    (λ n. c.in_ok-add_span.ensures n ∙ (λ t. cond (eqb (number t) n) (get_or old n [] ++ span t ∷ []) (get_or old n [])))
