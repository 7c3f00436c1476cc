-- What a query may ask.
use Rattle.std.specs.Prelude.{ℕ, ◌<◌, ◌≤◌}
use Rattle.ray_grid.specs.Lattice.{IsRay, points_of}
use Rattle.ray_grid.specs.Grids.{GridSize}
use Rattle.edit_plan.specs.declared.query.Ask.{Ask}
use Rattle.edit_plan.specs.declared.query.Ask.TheVariants.{Probe, Count}
use Rattle.edit_plan.specs.declared.query.Query.{Query}

-- a probe asks for a point of the grid
abbrev pub AsksOn : GridSize → Ask → Type 0
AsksOn grid (Probe ray l) = IsRay grid ray × (l < points_of grid ray.family)
AsksOn grid Count = Unit {0}

-- a query at a version that these edits have, for what the grid has
pub record IsQuery (grid : GridSize) (edits : ℕ) (query : Query) : Type 0 where
  pub version : query.version ≤ edits
  pub point : AsksOn grid query.ask
