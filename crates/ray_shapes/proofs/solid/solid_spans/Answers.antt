use Rattle.std.proofs.Common.{ap, sym, ◌∙◌, List}
use Rattle.ray_shapes.specs.declared.solid.Solid.{Solid}
use Rattle.ray_shapes.specs.declared.plane.Plane.{Plane}
use Rattle.ray_shapes.specs.Planes.{in_bodies}
use Rattle.ray_shapes.specs.Sets.{in_solid}
use Rattle.ray_shapes.proofs.TurnedPlanes.{turned_in}
use Rattle.ray_shapes.proofs.Filled.{filled_as}
use Rattle.ray_shapes.proofs.solid.solid_spans.Goals as goal

pub returns-in-Turned : goal.returns-in-Turned
returns-in-Turned c =
    let grid = c.args.grid.now in let part = c.in-Turned.part in
    filled_as c.body_spans-in-Turned.result grid c.args.ray.now
    (λ point. in_bodies c.turned.result.now point.position) (in_solid c.args.solid.now grid)
    (λ point. ap (λ (bodies : List (List Plane)). in_bodies bodies point.position) c.turned.ensures.turned
    ∙ turned_in part.turn part.bodies point.position c.turned.ensures.valid.quarter
    ∙ ap (λ (solid : Solid). in_solid solid grid point) (sym c.in-Turned.is))
    c.body_spans-in-Turned.ensures
