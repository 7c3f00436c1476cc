use Rattle.std.proofs.Common.{sym, ap, ◌∙◌, length}
use Rattle.ray_grid.specs.Lattice.{nodes_of}
use Rattle.ray_grid.proofs.Rows.{length-strip}
use Rattle.ray_grid.proofs.grid.Grid.strip_len.Goals as goal

pub returns : goal.returns
returns c =
    c.nodes.ensures.nodes
    ∙ ap (nodes_of c.args.self.now) c.second_axis.ensures.axis
    ∙ sym (length-strip c.args.self.now c.row-family.result.0 c.row-family.result.1)
    ∙ ap length (sym c.row-family.ensures.rays)
