-- The stock while the rays of the saved one are turned, in their order.
use Rattle.std.specs.Prelude.{◌≡◌, ℕ, ◌<◌, ◌↔◌, true, take, None}
use Rattle.std.specs.List.{find, flat_map, sum_by}
use Rattle.vf_spans.specs.Members.{count_of, has}
use Rattle.ray_grid.specs.Grids.{GridSize}
use Rattle.ray_grid.specs.Lattice.{IsRay, points_of}
use Rattle.ray_grid.specs.Points.{points_on, rays_of}
use Rattle.ray_grid.specs.Strips.{ray_number}
use Rattle.ray_grid.specs.declared.ray.Ray.{Ray}
use Rattle.ray_grid.specs.declared.turn.Turn.{Turn}
use Rattle.ray_shapes.specs.Sets.{AreSetsOver}
use Rattle.stock_file.specs.Saved.{Saved, set_of}
use Rattle.setup_turn.specs.Places.{IsTurnedTo}
use Rattle.setup_turn.specs.Turned.{lies_outside}

-- point m of the new ray is a saved point, turned, on one of the first n rays
pub record IsSavedPoint (turn : Turn) (saved : Saved) (grid : GridSize) (n : ℕ) (new : Ray) (m : ℕ) : Type 0 where
  pub ray : Ray
  pub l : ℕ
  pub on : IsRay saved.grid ray
  pub before : ray_number saved.grid ray < n
  pub is_saved : has (set_of saved ray) l ≡ true
  pub turned : IsTurnedTo turn saved.grid grid ray l new m

-- of the saved points of the first n rays each has a place, the stock has just these, turned, and as many
pub record IsTurnedUpTo (turn : Turn) (saved : Saved) (grid : GridSize) (n : ℕ) (stock : Saved) : Type 0 where
  pub same_grid : stock.grid ≡ grid
  pub over : AreSetsOver grid stock.sets
  pub inside : find (lies_outside turn saved grid) (flat_map (points_on saved.grid) (take n (rays_of saved.grid))) ≡ None
  pub points : (new : Ray) (m : ℕ) → IsRay grid new → m < points_of grid new.family
      → (has (set_of stock new) m ≡ true) ↔ IsSavedPoint turn saved grid n new m
  pub many : sum_by count_of stock.sets ≡ sum_by count_of (take n saved.sets)
