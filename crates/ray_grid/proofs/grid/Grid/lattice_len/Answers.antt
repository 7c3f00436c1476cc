use Rattle.std.proofs.Common.{arith}
use Rattle.ray_grid.proofs.Counted.{length-lattice, only_points}
use Rattle.ray_grid.proofs.grid.Grid.lattice_len.Goals as goal

pub returns-clause-len : goal.returns-clause-len
returns-clause-len c =
    let all = length-lattice c.args.self.now in
    let z = c.family_len.ensures.len in let x = c.family_len-2.ensures.len in let y = c.family_len-3.ensures.len in
    omega arith

pub returns-clause-only : goal.returns-clause-only
returns-clause-only c = only_points c.args.self.now
