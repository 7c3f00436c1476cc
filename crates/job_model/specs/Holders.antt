-- What the holder above a move's cutter meets: six counts over points, by the moves before it. And the same holder as a tool of its own in
-- rapid motion, by which it is counted; and when it keeps off.
use Rattle.std.specs.Prelude.{◌≡◌, ◌^◌, ◌||◌, ◌++◌, Bool, false, true, List, [], ◌∷◌}
use Rattle.ray_grid.specs.Points.{IsPointOf, LatticePoint, lattice_of}
use Rattle.job_counts.specs.declared.counts.Counts.{Counts}
use Rattle.job_counts.specs.declared.holder.HolderCounts.{HolderCounts}
use Rattle.holder_check.specs.Above.{HolderSize, holder_cutter, slab_above}
use Rattle.holder_check.specs.Contacts.{HolderSeen, holder_findings}
use Rattle.holder_check.specs.Holder.{HolderMeets, is_holder_possible, is_holder_sure}
use Rattle.job_model.specs.Findings.{found_over}
use Rattle.job_model.specs.Meets.{SomeMeets}
use Rattle.job_model.specs.Points.{is_fixture, is_part, is_possible, is_stock, some_possible, some_sure}
use Rattle.job_model.specs.Tasks.{Job, JobMove, PlanOf}

-- the holder of a move is sure to meet the point, or may meet it
abbrev pub is_struck : PlanOf → HolderSize → JobMove → LatticePoint → Bool
is_struck plan holder move point = is_holder_sure (slab_above holder move.cutter) move.sweep point.position (2 ^ plan.depth)

abbrev pub may_be_struck : PlanOf → HolderSize → JobMove → LatticePoint → Bool
may_be_struck plan holder move point = is_holder_possible (slab_above holder move.cutter) move.sweep point.position (2 ^ plan.depth)

-- what is known of a point under the holder of a move: by the moves before it what was sure, and by these and the move itself what is
-- possible
abbrev pub holder_seen : Job → HolderSize → List JobMove → JobMove → LatticePoint → HolderSeen
holder_seen job holder before move point = record {
  stock = is_stock job point;
  part = is_part job point;
  fixture = is_fixture job point;
  sure_before = some_sure job.plan before point;
  possible_after = some_possible job.plan before point || is_possible job.plan move point;
  sure = is_struck job.plan holder move point;
  possible = may_be_struck job.plan holder move point;
}

-- what the holder of a move meets over these points
abbrev pub holder_found_over : Job → HolderSize → List LatticePoint → List JobMove → JobMove → HolderCounts
holder_found_over job holder points before move = holder_findings (holder_seen job holder before move) points

-- and over the whole lattice
abbrev pub holder_found : Job → HolderSize → List JobMove → JobMove → HolderCounts
holder_found job holder before move = holder_found_over job holder (lattice_of job.plan.grid) before move

-- the holder of a move as a tool of its own: it moves as the cutter does, in rapid motion
abbrev pub holder_move : HolderSize → JobMove → JobMove
holder_move holder move = record { sweep = move.sweep; cutter = holder_cutter holder move.cutter; rapid = true; line = move.line }

-- the six counts of a holder, by what that tool finds before its move and what it finds after it
abbrev pub holder_counts_by : Counts → Counts → HolderCounts
holder_counts_by before after = record {
  part_sure = before.part_sure;
  part_possible = before.part_possible;
  fix_sure = before.fix_sure;
  fix_possible = before.fix_possible;
  stock_sure = after.rapid_sure;
  stock_possible = before.rapid_possible;
}

-- the same over points
abbrev pub holder_found_by : Job → HolderSize → List LatticePoint → List JobMove → JobMove → HolderCounts
holder_found_by job holder points before move =
    holder_counts_by (found_over job points before (holder_move holder move)) (found_over job points (before ++ move ∷ []) (holder_move holder move))

-- of what the holder may not meet it is sure to meet none either
pub record SureArePossible (counts : HolderCounts) : Type 0 where
  pub part : counts.part_possible ≡ 0 → counts.part_sure ≡ 0
  pub fixture : counts.fix_possible ≡ 0 → counts.fix_sure ≡ 0
  pub stock : counts.stock_possible ≡ 0 → counts.stock_sure ≡ 0

-- the holder of a move strikes the point: its slab above the move's cutter holds it at some rational time
abbrev pub HolderStrikes : HolderSize → JobMove → LatticePoint → Type 0
HolderStrikes holder move point = HolderMeets (slab_above holder move.cutter) move.sweep point.position

-- The holder of a move keeps off: it strikes no lattice point of the part or of a fixture, and of the stock only what some move before it
-- was sure of, which that move met with its lower cutter.
pub record HolderKeepsOff (job : Job) (holder : HolderSize) (before : List JobMove) (move : JobMove) : Type 0 where
  pub solids : (point : LatticePoint) → IsPointOf job.plan.grid point → (is_part job point || is_fixture job point) ≡ true
      → ¬ HolderStrikes holder move point
  pub uncut : (point : LatticePoint) → IsPointOf job.plan.grid point → is_stock job point ≡ true
      → some_sure job.plan before point ≡ false → ¬ HolderStrikes holder move point
  pub stock : (point : LatticePoint) → IsPointOf job.plan.grid point → is_stock job point ≡ true → HolderStrikes holder move point
      → SomeMeets before point
