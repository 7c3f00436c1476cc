use Rattle.std.proofs.Common.{ap, pos}
use Rattle.axis_cells.proofs.Comparisons.{cell_of_poses}
use Rattle.axis_cells.proofs.cell.Cell.of_point.Goals as goal

pub returns : goal.returns
returns c =
    let first = c.at_sample-first.ensures in let last = c.at_sample-last.ensures in let cell = c.between.ensures in
    cell_of_poses (pos c.between.result.scale) c.between.result.is_behind c.between.result.n.c c.between.result.height.c c.between.result.width.c c.args.sweep.now c.args.point.now c.args.k c.args.scale
    _ _ _ _ first.offset last.offset first.axis last.axis (ap pos cell.scale) cell.behind cell.n cell.height cell.width
