-- Counts over a grid are the sums over its windows: the parts into which it is cut at nodes of one axis.
use Rattle.std.specs.Prelude.{◌≡◌, ℕ, ◌+◌, ◌%◌, ◌<◌, ◌==◌, ◌↔◌, ℤ, pos, ◌<ℤ◌, unsigned_abs, Bool, true, false, if◌then◌else◌, IsTrue, List, [], ◌∷◌, map, sum, sum_by, count_by}
use Rattle.std.specs.List.{All, range_with_len}
use Rattle.space.specs.Vectors.{at}
use Rattle.ray_grid.specs.Grids.{GridSize}
use Rattle.ray_grid.specs.Lattice.{node_at, nodes_of}
use Rattle.ray_grid.specs.Points.{lattice_of}
use Rattle.ray_shapes.specs.declared.solid.Solid.{Solid}
use Rattle.ray_shapes.specs.declared.solid.Solid.TheVariants.{Bodies, Listed, Turned}
use Rattle.job_counts.specs.Counts.{is_safe}
use Rattle.job_counts.specs.declared.counts.Counts.{Counts}
use Rattle.job_model.specs.Findings.{found_over}
use Rattle.job_model.specs.Points.{totals_after}
use Rattle.job_model.specs.Sums.{sum_counts, sum_totals}
use Rattle.job_model.specs.Tasks.{Job, JobMove}

-- the part of the grid that has `nodes` of its nodes along the axis, from its node `first` on, and all of its nodes along the others
abbrev pub window_at : GridSize → ℕ → ℕ → ℕ → GridSize
window_at grid axis first nodes = record grid {
  origin = map (λ k. if k == axis then node_at grid k first else at grid.origin k) (range_with_len 0 3);
  counts = map (λ k. if k == axis then nodes else nodes_of grid k) (range_with_len 0 3);
}

-- the windows that have these numbers of nodes, one after another along the axis, from the node `first` on
abbrev pub windows_from : GridSize → ℕ → ℕ → List ℕ → List GridSize
windows_from grid axis first [] = []
windows_from grid axis first (nodes ∷ counts) = window_at grid axis first nodes ∷ windows_from grid axis (first + nodes) counts

-- the windows of the grid
abbrev pub windows_of : GridSize → ℕ → List ℕ → List GridSize
windows_of grid axis counts = windows_from grid axis 0 counts

-- The grid is cut along the axis into windows of these numbers of nodes: together they have its nodes, and its pitch is a whole number of
-- steps. It may have any number of nodes, more than a grid that is read; a window may have none, and then it has no points.
pub record IsCut (grid : GridSize) (axis : ℕ) (counts : List ℕ) : Type 0 where
  pub axis_in : axis < 3
  pub pitch_in : pos 0 <ℤ grid.pitch
  pub step_in : pos 0 <ℤ grid.step
  pub divides : unsigned_abs grid.pitch % unsigned_abs grid.step ≡ 0
  pub whole : sum counts ≡ nodes_of grid axis

-- how many points of a grid's lattice are at places of which the test says yes
abbrev pub points_where : (List ℤ → Bool) → GridSize → ℕ
points_where test grid = count_by (λ point. test point.position) (lattice_of grid)

-- points that are counted only by their position can be counted window by window
abbrev pub CountsAreSums : Type 0
CountsAreSums =
    (grid : GridSize) (axis : ℕ) (counts : List ℕ) (test : List ℤ → Bool) → IsCut grid axis counts
    → points_where test grid ≡ sum_by (points_where test) (windows_of grid axis counts)

-- a solid that is given by places: by its bodies, as they lie or turned. Sets for the rays of one grid say nothing of another's.
abbrev pub is_of_places : Solid → Bool
is_of_places (Bodies bodies) = true
is_of_places (Listed sets) = false
is_of_places (Turned part) = true

-- the three solids of a job are
pub record AreOfPlaces (job : Job) : Type 0 where
  pub stock : is_of_places job.stock ≡ true
  pub part : is_of_places job.part ≡ true
  pub fixture : is_of_places job.fixture ≡ true

-- the same job over a window in place of the whole grid
abbrev pub in_window : Job → GridSize → Job
in_window job window = record job { plan = record job.plan { grid = window } }

-- the job over each of the windows
abbrev pub window_jobs : Job → ℕ → List ℕ → List Job
window_jobs job axis counts = map (in_window job) (windows_of job.plan.grid axis counts)

-- what a move finds over the whole lattice of a job, after those that came earlier
abbrev pub found_in : List JobMove → JobMove → Job → Counts
found_in earlier move job = found_over job (lattice_of job.plan.grid) earlier move

-- the totals of a job after these moves are those of its windows together
abbrev pub TotalsAreSums : Type 0
TotalsAreSums =
    (job : Job) (axis : ℕ) (counts : List ℕ) (moves : List JobMove) → AreOfPlaces job → IsCut job.plan.grid axis counts
    → totals_after job moves ≡ sum_totals (map (λ part. totals_after part moves) (window_jobs job axis counts))

-- what a move finds is what it finds in the windows together
abbrev pub FindingsAreSums : Type 0
FindingsAreSums =
    (job : Job) (axis : ℕ) (counts : List ℕ) (earlier : List JobMove) (move : JobMove) → AreOfPlaces job → IsCut job.plan.grid axis counts
    → found_in earlier move job ≡ sum_counts (map (found_in earlier move) (window_jobs job axis counts))

-- a move is safe exactly where it is in each of the windows
abbrev pub SafeInEach : Type 0
SafeInEach =
    (job : Job) (axis : ℕ) (counts : List ℕ) (earlier : List JobMove) (move : JobMove) → AreOfPlaces job → IsCut job.plan.grid axis counts
    → IsTrue (is_safe (found_in earlier move job))
    ↔ All (λ part. IsTrue (is_safe (found_in earlier move part))) (window_jobs job axis counts)
