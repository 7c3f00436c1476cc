-- The candidates of a move on the rays of a strip, by its cylinder.
use Rattle.std.proofs.Common.{◌≡◌, ℕ, ◌<◌, ◌≤◌, Some, length, arith, refl, sym, ap, ◌∙◌, subst}
use Rattle.std.specs.List.{slice_get}
use Rattle.sweep_boxes.specs.declared.cylinder.BoundingCylinder.{BoundingCylinder}
use Rattle.sweep_boxes.specs.Cylinders.{IsInCylinder}
use Rattle.ray_grid.specs.Grids.{GridSize}
use Rattle.ray_grid.specs.declared.ray.Ray.{Ray}
use Rattle.ray_grid.specs.Families.{second_axis}
use Rattle.ray_grid.specs.Lattice.{IsRay, nodes_of, point_of, points_of}
use Rattle.ray_grid.specs.Strips.{strip_at, strips_of}
use Rattle.ray_grid.proofs.Rows.{length-strip}
use Rattle.vf_spans.specs.Words.{words_below}
use Rattle.near_points.specs.Rays.{CylinderRayOf, CylinderStripOf, cylinder_ray_at}
use Rattle.ray_words.specs.Rays.{KeptSets}
use Rattle.wanted_marks.specs.Rays.{RayOf}
use Rattle.dexel_rays.specs.Sets.{Sets}
use Rattle.job_model.specs.Tasks.{JobMove, PlanOf}
use Rattle.strip_plan.specs.Plans.{HasNumber}
use Rattle.strip_plan.specs.Windows.{HoldsMet}
use Rattle.strip_marks.specs.Marks.{points_at, possible_there, ray_of, sure_there}
use Rattle.strip_marks.specs.RayMarks.{HasNoneAsked, IsIdle, IsNearOf, IsUnasked, IsWindow}
use Rattle.strip_marks.specs.RowMarks.{AreSetsAt, IsCylinderStripOf}
use Rattle.strip_marks.proofs.AtWords.{idle_unasked, in_range_below}
use Rattle.strip_marks.proofs.OneRay.{sets_for}
use Rattle.strip_marks.proofs.OnStrips.{move_on, on_grid, ray_is, row_of_ray}

-- the cylinder on ray n of the strip is one of the move there
pub near_on : (plan : PlanOf) (number strip n : ℕ) (move : JobMove) (s : CylinderStripOf) → IsCylinderStripOf plan number strip s → HasNumber plan number move
    → strip < length (strips_of plan.grid) → n < length (strip_at plan.grid strip) → IsNearOf (cylinder_ray_at s n) (move_on plan move strip n)
near_on plan number strip n move s h has within lt =
    let ray = ray_is plan.grid strip n s.family s.i h.rays lt in record {
      grid = h.grid;
      ray = sym ray;
      holds = λ l less t.
          let met =
          h.holds move has (ray_of plan.grid strip n) l (record { on_grid = on_grid plan.grid strip n within lt; index = less; possible = t }) in
          subst (λ (x : Ray). IsInCylinder s.cylinder (point_of s.grid x l)) ray
          (subst (λ (g : GridSize). IsInCylinder s.cylinder (point_of g (ray_of plan.grid strip n) l)) (sym h.grid) met);
    }

-- the rays of both have the same number of points
pub near_points_on : (near : CylinderRayOf) (r : RayOf) (hi : ℕ) → IsNearOf near r → hi ≤ points_of r.grid r.ray.family → hi ≤ points_of near.grid near.ray.family
near_points_on near r hi h le =
    subst (λ (g : GridSize). hi ≤ points_of g near.ray.family) (sym h.grid) (subst (λ (x : Ray). hi ≤ points_of r.grid x.family) (sym h.ray) le)

-- the strip has a ray at each of its nodes
pub near_nodes : (plan : PlanOf) (number strip : ℕ) (s : CylinderStripOf) → IsCylinderStripOf plan number strip s
    → length (strip_at plan.grid strip) ≡ nodes_of s.grid (second_axis s.family)
near_nodes plan number strip s h =
    ap length h.rays ∙ length-strip plan.grid s.family s.i ∙ ap (λ (g : GridSize). nodes_of g (second_axis s.family)) (sym h.grid)

pub near_node : (plan : PlanOf) (number strip n : ℕ) (s : CylinderStripOf) → IsCylinderStripOf plan number strip s → n < length (strip_at plan.grid strip)
    → n < nodes_of s.grid (second_axis s.family)
near_node plan number strip n s h lt = omega (arith, lt, near_nodes plan number strip s h)

-- the ray has the same number of points
pub near_points_of : (plan : PlanOf) (number strip n : ℕ) (s : CylinderStripOf) → IsCylinderStripOf plan number strip s → n < length (strip_at plan.grid strip)
    → points_of s.grid s.family ≡ points_at plan.grid strip n
near_points_of plan number strip n s h lt =
    ap (λ (g : GridSize). points_of g s.family) h.grid
    ∙ ap (λ (x : Ray). points_of plan.grid x.family) (sym (ray_is plan.grid strip n s.family s.i h.rays lt))

-- a cylinder that is made ready for the rays of the strip's first one is that on the strip
pub near_of : (plan : PlanOf) (number strip : ℕ) (s : CylinderStripOf) (cylinder : BoundingCylinder) (grid : GridSize) (first : Ray)
    → s ≡ record { cylinder = cylinder; grid = grid; family = first.family; i = first.i } → grid ≡ plan.grid
    → slice_get (strip_at grid strip) 0 ≡ Some first → IsRay grid first
    → ((move : JobMove) → HasNumber plan number move → HoldsMet plan move cylinder) → IsCylinderStripOf plan number strip s
near_of plan number strip s cylinder grid first e g there on holds =
    let rays = row_of_ray plan.grid strip 0 first (subst (λ (x : GridSize). IsRay x first) g on)
    (subst (λ (x : GridSize). slice_get (strip_at x strip) 0 ≡ Some first) g there) in
    subst (λ (x : CylinderStripOf). IsCylinderStripOf plan number strip x) (sym e) (record { grid = g; rays = rays; holds = holds })

-- where before the last word of the window there is no candidate, there is none at all
pub unasked_all : (near : CylinderRayOf) (d : Sets) (window : ℕ × ℕ) (word : ℕ) → HasNoneAsked near d window word → words_below window.1 ≤ word → IsUnasked near d window
unasked_all near d window word ahead le l at = let below = in_range_below window.0 window.1 l at.in_window in ahead.none l (omega (arith, below, le)) at

-- a ray without a candidate is idle
pub idle_on : (plan : PlanOf) (number strip n lo hi : ℕ) (move : JobMove) (s : CylinderStripOf) (ray : KeptSets) → IsCylinderStripOf plan number strip s
    → HasNumber plan number move → strip < length (strips_of plan.grid) → n < length (strip_at plan.grid strip) → AreSetsAt plan.grid strip n ray.sets
    → IsWindow (move_on plan move strip n) lo hi → IsUnasked (cylinder_ray_at s n) ray.sets (lo, hi) → (l : ℕ) → l < length ray.sets.stock
    → IsIdle ray.sets (sure_there plan move strip n) (possible_there plan move strip n) l
idle_on plan number strip n lo hi move s ray h has within lt sets w none l less =
    idle_unasked (cylinder_ray_at s n) (move_on plan move strip n) ray.sets lo hi l (sets_for plan move strip n (move_on plan move strip n) ray refl sets) w
    (near_on plan number strip n move s h has within lt) less (none l)
