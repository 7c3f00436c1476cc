-- The rays of a strip that no move has changed.
use Rattle.std.specs.Prelude.{◌≡◌, ℕ, ◌<◌, ◌≤◌, false, List, length}
use Rattle.std.specs.List.{sum_by}
use Rattle.vf_spans.specs.Members.{count_of, has}
use Rattle.ray_grid.specs.Grids.{GridSize}
use Rattle.ray_grid.specs.declared.ray.Ray.{Ray}
use Rattle.ray_grid.specs.Lattice.{points_of}
use Rattle.ray_grid.specs.Points.{point_in}
use Rattle.ray_shapes.specs.declared.solid.Solid.{Solid}
use Rattle.ray_shapes.specs.Sets.{in_solid}
use Rattle.dexel_rays.specs.Sets.{HaveBound}
use Rattle.ray_words.specs.Rays.{IsCleared, KeptSets}
use Rattle.ray_words.specs.Rows.{kept_at}
use Rattle.strip_marks.specs.Marks.{ray_of, sets_of}

-- a ray with the points of three solids, none of which is sure or possible
pub record IsFreshRay (grid : GridSize) (ray : Ray) (stock part fixture : Solid) (r : KeptSets) : Type 0 where
  pub bound : HaveBound (points_of grid ray.family) r.sets
  pub stock_is : (l : ℕ) → l < points_of grid ray.family → has r.sets.stock l ≡ in_solid stock grid (point_in grid ray l)
  pub part_is : (l : ℕ) → l < points_of grid ray.family → has r.sets.part l ≡ in_solid part grid (point_in grid ray l)
  pub fixture_is : (l : ℕ) → l < points_of grid ray.family → has r.sets.fixture l ≡ in_solid fixture grid (point_in grid ray l)
  pub sure : (l : ℕ) → has r.sets.sure l ≡ false
  pub possible : (l : ℕ) → has r.sets.possible l ≡ false

-- the first `count` rays of a strip
pub record AreFreshRays (grid : GridSize) (strip count : ℕ) (stock part fixture : Solid) (rays : List KeptSets) : Type 0 where
  pub many : length rays ≡ count
  pub each : (n : ℕ) → n < count → IsFreshRay grid (ray_of grid strip n) stock part fixture (kept_at rays n)

-- how many stock points the rays have together
abbrev pub stock_points : List KeptSets → ℕ
stock_points rays = sum_by (λ r. count_of r.sets.stock) rays

-- on the first `count` rays what moves marked is forgotten, and the others are as they were
pub record AreCleared (count : ℕ) (before after : List KeptSets) : Type 0 where
  pub many : length after ≡ length before
  pub cleared : (n : ℕ) → n < count → IsCleared (sets_of before n) (sets_of after n)
  pub others : (n : ℕ) → count ≤ n → kept_at after n ≡ kept_at before n
