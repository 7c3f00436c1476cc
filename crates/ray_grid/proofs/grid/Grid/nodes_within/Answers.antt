use Rattle.std.proofs.Common.{rules, w32, FitsSigned}
use Rattle.std.proofs.lemmas.Int.{to_z-of_z}
use Rattle.space.specs.Vectors.{at}
use Rattle.ray_grid.proofs.Windows.{nodes_are}
use Rattle.ray_grid.proofs.grid.Grid.nodes_within.Goals as goal

pub returns-clause-exact : goal.returns-clause-exact
returns-clause-exact c =
    let fits_pitch : FitsSigned w32 c.self.inside.pitch = search rules in
    let fits_origin : FitsSigned w32 (at c.self.inside.origin c.args.axis) = search rules in
    λ n.
    nodes_are _ c.args.self.now c.args.near.now.from c.args.near.now.to c.args.near.now.reach c.args.axis c.indices.result.0 c.indices.result.1 c.nodes.result n
    c.self.view_is c.nodes.ensures.nodes (simp to_z-of_z at (c.indices.ensures.exact n))
