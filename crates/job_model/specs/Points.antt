-- What is true of a point of the lattice, by a list of moves.
use Rattle.std.specs.Prelude.{ℕ, ◌^◌, Bool, ◌&&◌, not, if◌then◌else◌, List, take, drop, count_by}
use Rattle.std.specs.List.{flat_map, list_any}
use Rattle.cutter_marks.specs.MarkBy.{is_possible_by, is_sure_by}
use Rattle.ray_grid.specs.Grids.{GridSize}
use Rattle.ray_grid.specs.Points.{LatticePoint, lattice_of, points_on}
use Rattle.ray_grid.specs.Strips.{strip_at}
use Rattle.ray_shapes.specs.Sets.{in_solid}
use Rattle.edit_plan.specs.Edits.{left_at}
use Rattle.job_counts.specs.declared.totals.PointState.{PointState}
use Rattle.job_counts.specs.declared.totals.PointState.TheVariants.{Absent, Kept, Possible, Removed}
use Rattle.job_counts.specs.declared.totals.Totals.{Totals}
use Rattle.job_model.specs.Tasks.{Job, JobMove, PlanOf}

-- the moves with these numbers, from 0
abbrev pub moves_of : PlanOf → List ℕ → List JobMove
moves_of plan numbers = flat_map (λ number. take 1 (drop number plan.moves)) numbers

-- the moves that are left at a version
abbrev pub left_moves : PlanOf → ℕ → List JobMove
left_moves plan version = moves_of plan (left_at plan.edits version)

-- the move is sure of the point, or possible at it
abbrev pub is_sure : PlanOf → JobMove → LatticePoint → Bool
is_sure plan move point = is_sure_by move.cutter plan.slabs move.sweep point.position (2 ^ plan.depth)

abbrev pub is_possible : PlanOf → JobMove → LatticePoint → Bool
is_possible plan move point = is_possible_by move.cutter plan.slabs move.sweep point.position (2 ^ plan.depth)

-- some of the moves is
abbrev pub some_sure : PlanOf → List JobMove → LatticePoint → Bool
some_sure plan moves point = list_any (λ move. is_sure plan move point) moves

abbrev pub some_possible : PlanOf → List JobMove → LatticePoint → Bool
some_possible plan moves point = list_any (λ move. is_possible plan move point) moves

-- the point is stock, part or fixture
abbrev pub is_stock : Job → LatticePoint → Bool
is_stock job point = in_solid job.stock job.plan.grid point

abbrev pub is_part : Job → LatticePoint → Bool
is_part job point = in_solid job.part job.plan.grid point

abbrev pub is_fixture : Job → LatticePoint → Bool
is_fixture job point = in_solid job.fixture job.plan.grid point

-- the state of the point after these moves
abbrev pub state_after : Job → List JobMove → LatticePoint → PointState
state_after job moves point =
    if not (is_stock job point) then Absent
    else (if some_sure job.plan moves point then Removed else (if some_possible job.plan moves point then Possible else Kept))

-- of these points, how many are stock that the moves remove, how many stock that they may meet, and how many stock
abbrev pub totals_over : Job → List LatticePoint → List JobMove → Totals
totals_over job points moves = record {
  removed = count_by (λ point. is_stock job point && some_sure job.plan moves point) points;
  possible = count_by (λ point. is_stock job point && some_possible job.plan moves point) points;
  of = count_by (is_stock job) points;
}

-- the same over the whole lattice
abbrev pub totals_after : Job → List JobMove → Totals
totals_after job moves = totals_over job (lattice_of job.plan.grid) moves

-- the points of a strip, ray by ray
abbrev pub strip_points : GridSize → ℕ → List LatticePoint
strip_points grid strip = flat_map (points_on grid) (strip_at grid strip)
