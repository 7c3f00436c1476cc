use Rattle.std.proofs.Common.{arith}
use Rattle.ray_grid.proofs.Rows.{length-strips}
use Rattle.ray_grid.proofs.grid.Grid.strips.Goals as goal

pub returns : goal.returns
returns c =
    let all = length-strips c.args.self.now in
    let first = c.nodes.ensures.nodes in let second = c.nodes-2.ensures.nodes in let third = c.nodes-3.ensures.nodes in
    omega arith
