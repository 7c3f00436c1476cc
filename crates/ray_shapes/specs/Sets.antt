-- A solid's points, and a closure that gives them on each ray. They are points of a lattice and not places: the same place may be
-- in a solid as a point of one family of rays, and not as a point of another.
use Rattle.std.specs.Prelude.{◌≡◌, ℕ, ◌<◌, Bool, List, [], length, slice_index_or, Result, IfOk}
use Rattle.std.specs.Borrow.{Bor}
use Rattle.std.specs.Fn.{FnReturnsAt, Shared}
use Rattle.vf_io.specs.declared.answers.NoMemory.{NoMemory}
use Rattle.vf_spans.specs.Members.{has}
use Rattle.ray_grid.specs.Grids.{GridSize}
use Rattle.ray_grid.specs.declared.ray.Ray.{Ray}
use Rattle.ray_grid.specs.Lattice.{IsRay, points_of}
use Rattle.ray_grid.specs.Points.{LatticePoint, point_in, rays_of}
use Rattle.ray_grid.specs.Strips.{ray_number}
use Rattle.ray_grid.specs.Turns.{back}
use Rattle.ray_shapes.specs.declared.shape.RayShape.{RayShape}
use Rattle.ray_shapes.specs.declared.solid.Solid.{Solid}
use Rattle.ray_shapes.specs.declared.solid.Solid.TheVariants.{Bodies, Listed, Turned}
use Rattle.ray_shapes.specs.Planes.{in_bodies}

-- the set has a bound of as many indices as the ray has points, and exactly those whose point is inside
pub record HoldsPointsOf (grid : GridSize) (ray : Ray) (inside : LatticePoint → Bool) (set : List Bool) : Type 0 where
  pub bound : length set ≡ points_of grid ray.family
  pub points : (l : ℕ) → l < points_of grid ray.family → has set l ≡ inside (point_in grid ray l)

-- a solid's points on the lattice of a grid: by its bodies; by the set of the point's own ray; or by where the point lay before the turn
abbrev pub in_solid : Solid → GridSize → LatticePoint → Bool
in_solid (Bodies bodies) grid point = in_bodies bodies point.position
in_solid (Listed sets) grid point = has (slice_index_or sets (ray_number grid point.ray) []) point.l
in_solid (Turned part) grid point = in_bodies part.bodies (back part.turn point.position)

-- one set for each ray of the grid in their order, of as many indices as the ray has points
pub record AreSetsOver (grid : GridSize) (sets : List (List Bool)) : Type 0 where
  pub many : length sets ≡ length (rays_of grid)
  pub bounds : (ray : Ray) → IsRay grid ray → length (slice_index_or sets (ray_number grid ray) []) ≡ points_of grid ray.family

-- a solid fits a grid: bodies fit any, sets must be those of its rays
abbrev pub IsSolidOver : GridSize → Solid → Type 0
IsSolidOver grid (Bodies bodies) = Unit {0}
IsSolidOver grid (Listed sets) = AreSetsOver grid sets
IsSolidOver grid (Turned part) = Unit {0}

-- whatever the closure answers on a ray of the grid with Ok is exactly the solid's points there
abbrev pub Gives : (Ray → Result (List Bool) NoMemory → Type 0) → GridSize → Solid → Type 0
Gives answers grid solid =
    (ray : Ray) (answer : Result (List Bool) NoMemory) → IsRay grid ray → answers ray answer
    → IfOk answer (HoldsPointsOf grid ray (in_solid solid grid))

-- a kept closure gives its solid on the grid: it is kept for that grid, may be called on each ray, and answers the solid's points
pub record GivesSolid {F : Type 0} (calls : Shared F (Bor Ray × Unit {0}) (Result (List Bool) NoMemory)) (grid : GridSize)
    (shape : RayShape F) : Type 0 where
  pub kept_for : shape.grid ≡ grid
  pub callable : (ray : Bor Ray) → IsRay grid ray.now → calls.pre shape.source (ray, tt)
  pub gives : Gives (FnReturnsAt calls shape.source) grid shape.solid.value
