use Rattle.std.proofs.Common.{get_or}
use Rattle.ray_grid.specs.declared.ray.Family.TheVariants.{X}
use Rattle.cert_lines.specs.Certificates.{is_cell_on}
use Rattle.cert_boxes.proofs.Listed.{all_at_place}
use Rattle.cert_boxes.proofs.RowLemmas.{line_in_range}
use Rattle.cert_boxes.proofs.boxes.first_standing.Goals as goal

pub excludes_all-requires : goal.excludes_all-requires
excludes_all-requires c = record { rising = c.requires.rising; cell = line_in_range c.args.grid.now (get_or c.args.cells.now c.loop-cell.cell-index record { line = 0; ray = record { family = X; i = 0; j = 0 }; q = 0; k = 0; a = 0; b = 0 }) (all_at_place (is_cell_on c.args.grid.now) c.args.cells.now c.requires.cells c.loop-cell.cell-index _ c.loop-cell-test.true) }
