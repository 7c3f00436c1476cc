-- The first point that is not covered, by the rows of a certificate's lines.
use Rattle.std.specs.Prelude.{◌≡◌, ℕ, ◌<◌, Bool, true, false, ◌&&◌, not, IsTrue, List, [], Option, Some, None, ℤ, slice_index_or}
use Rattle.std.specs.List.{find}
use Rattle.std.specs.Option.{option_map}
use Rattle.space.specs.Reach.{is_in_reach}
use Rattle.space.specs.Sweeps.{SweepOf}
use Rattle.vf_spans.specs.Members.{has}
use Rattle.ray_grid.specs.Grids.{GridSize}
use Rattle.ray_grid.specs.declared.ray.Ray.{Ray}
use Rattle.ray_grid.specs.Lattice.{point_of, points_of}
use Rattle.ray_grid.specs.Selects.{Selects}
use Rattle.ray_grid.specs.Points.{LatticePoint, point_in, points_on}
use Rattle.ray_grid.specs.Strips.{ray_number}
use Rattle.cert_boxes.specs.declared.span.CellSpan.{CellSpan}
use Rattle.cert_boxes.specs.Covering.{wants_cover}
use Rattle.cert_boxes.specs.Rows.{covers_throughout}
use Rattle.cert_boxes.specs.Tasks.{CertTask}

-- the point has to be covered, and the row of its ray does not cover it
abbrev pub is_missed_by : CertTask → List CellSpan → LatticePoint → Bool
is_missed_by task row point = wants_cover task point && not (covers_throughout row point.l)

abbrev pub is_missed : CertTask → List (List CellSpan) → LatticePoint → Bool
is_missed task rows point = is_missed_by task (slice_index_or rows (ray_number task.grid point.ray) []) point

-- the index is the first of the set, or there is none
abbrev pub IsFirstIndex : List Bool → Option ℕ → Type 0
IsFirstIndex set None = (l : ℕ) → has set l ≡ false
IsFirstIndex set (Some first) = record { there : has set first ≡ true; before : (l : ℕ) → l < first → has set l ≡ false }

-- the first point of a ray that its row does not cover
abbrev pub IsFirstOn : CertTask → List CellSpan → Ray → Option ℕ → Type 0
IsFirstOn task row ray found = find (is_missed_by task row) (points_on task.grid ray) ≡ option_map (point_in task.grid ray) found

-- the first of a list of points
abbrev pub IsFirstPlace : CertTask → List (List CellSpan) → List LatticePoint → Option (Ray × ℕ) → Type 0
IsFirstPlace task rows points found = find (is_missed task rows) points ≡ option_map (λ place. point_in task.grid place.0 place.1) found

-- the indices from lo on and below hi are those of a ray's points within reach of a move
abbrev pub AreReached : ℤ → SweepOf → GridSize → Ray → ℕ → ℕ → Type 0
AreReached reach sweep grid ray lo hi =
    Selects lo hi (λ l. (l < points_of grid ray.family) × IsTrue (is_in_reach reach sweep.from sweep.to (point_of grid ray l)))
