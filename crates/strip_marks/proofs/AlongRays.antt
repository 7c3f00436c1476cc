-- The window along the rays of a strip, on each of them.
use Rattle.std.proofs.Common.{◌≡◌, ℕ, ◌<◌, ◌≤◌, length, sym, subst}
use Rattle.ray_grid.specs.Grids.{GridSize}
use Rattle.ray_grid.specs.declared.ray.Ray.{Ray}
use Rattle.ray_grid.specs.Lattice.{points_of}
use Rattle.ray_grid.specs.Strips.{strip_at}
use Rattle.near_points.specs.Rays.{CylinderStripOf}
use Rattle.job_model.specs.Tasks.{JobMove, PlanOf}
use Rattle.strip_plan.specs.Plans.{HasNumber}
use Rattle.strip_plan.specs.Windows.{HoldsPossible, IsAlongStrip}
use Rattle.strip_marks.specs.Marks.{points_at, ray_of}
use Rattle.strip_marks.specs.RowMarks.{IsCylinderStripOf}
use Rattle.strip_marks.proofs.OnStrips.{ray_is}

-- a window of the plan's move with a number on ray n of a strip: it holds each point at which the move is possible
pub record IsRayWindow (plan : PlanOf) (number strip n : ℕ) (window : ℕ × ℕ) : Type 0 where
  pub order : window.0 ≤ window.1
  pub within : window.1 ≤ points_at plan.grid strip n
  pub holds : (move : JobMove) → HasNumber plan number move → HoldsPossible plan move (ray_of plan.grid strip n) window.0 window.1

-- the move's window along the strip that a cylinder is ready for
abbrev pub IsAlong : PlanOf → ℕ → CylinderStripOf → ℕ × ℕ → Type 0
IsAlong plan number s window = IsAlongStrip plan number s.family s.i window

-- it is that of a strip's family and node
pub along_of : (plan : PlanOf) (number : ℕ) (s t : CylinderStripOf) (window : ℕ × ℕ) → s ≡ t → IsAlong plan number t window → IsAlong plan number s window
along_of plan number s t window e h = subst (λ (x : CylinderStripOf). IsAlong plan number x window) (sym e) h

pub along_on : (plan : PlanOf) (number strip n : ℕ) (s : CylinderStripOf) (window : ℕ × ℕ) → IsCylinderStripOf plan number strip s
    → n < length (strip_at plan.grid strip) → IsAlong plan number s window → IsRayWindow plan number strip n window
along_on plan number strip n s window near lt w =
    let ray : ray_of plan.grid strip n ≡ record { family = s.family; i = s.i; j = n } = ray_is plan.grid strip n s.family s.i near.rays lt in
    record {
      order = w.order;
      within = subst (λ (r : Ray). window.1 ≤ points_of plan.grid r.family) (sym ray) w.within;
      holds = λ move has. subst (λ (r : Ray). HoldsPossible plan move r window.0 window.1) (sym ray) (w.holds move n has);
    }

-- it ends on the rays that the cylinder is ready for
pub along_points : (plan : PlanOf) (number strip : ℕ) (s : CylinderStripOf) (window : ℕ × ℕ) → IsCylinderStripOf plan number strip s → IsAlong plan number s window
    → window.1 ≤ points_of s.grid s.family
along_points plan number strip s window near w = subst (λ (g : GridSize). window.1 ≤ points_of g s.family) (sym near.grid) w.within
