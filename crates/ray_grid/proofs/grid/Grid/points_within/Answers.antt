use Rattle.std.proofs.Common.{rules, w32, FitsSigned}
use Rattle.std.proofs.lemmas.Int.{to_z-of_z}
use Rattle.space.specs.Vectors.{at}
use Rattle.ray_grid.proofs.Windows.{points_are}
use Rattle.ray_grid.proofs.grid.Grid.points_within.Goals as goal

pub returns-clause-exact : goal.returns-clause-exact
returns-clause-exact c =
    let fits_step : FitsSigned w32 c.self.inside.step = search rules in
    let fits_origin : FitsSigned w32 (at c.self.inside.origin c.axis-axis.result) = search rules in
    λ l.
    points_are _ c.args.self.now c.args.family c.args.near.now.from c.args.near.now.to c.args.near.now.reach c.axis-axis.result c.indices.result.0 c.indices.result.1 c.points.result l
    c.self.view_is c.axis-axis.ensures.axis c.points.ensures (simp to_z-of_z at (c.indices.ensures.exact l))
