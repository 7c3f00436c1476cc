-- What is ready for the rays of a strip is ready for each of them.
use Rattle.std.proofs.Common.{ℕ, ◌<◌, length, refl, sym, subst}
use Rattle.ray_grid.specs.Strips.{strip_at, strips_of}
use Rattle.near_points.specs.Rays.{CylinderRayOf, CylinderStripOf, cylinder_ray_at}
use Rattle.ray_words.specs.Rays.{KeptSets}
use Rattle.wanted_marks.specs.Rays.{RayOf}
use Rattle.wanted_marks.specs.Strips.{StripOf, ray_at}
use Rattle.job_model.specs.Tasks.{IsPlan, PlanOf}
use Rattle.strip_marks.specs.RayMarks.{IsNearOf, IsWindow}
use Rattle.strip_marks.specs.RowMarks.{AreSetsAt, IsCylinderStripOf, IsMarkerOf}
use Rattle.strip_marks.proofs.AlongRays.{IsRayWindow}
use Rattle.strip_marks.specs.Words.{AreSetsOf}
use Rattle.strip_marks.proofs.NearRays.{near_on}
use Rattle.strip_marks.proofs.OneRay.{sets_for}
use Rattle.strip_marks.proofs.OnStrips.{marker_is, some_move, window_on}

-- the sets, the window and the cylinder are those of the ray that is marked
pub record IsReady (r : RayOf) (cylinder : CylinderRayOf) (ray : KeptSets) (range : ℕ × ℕ) : Type 0 where
  pub sets : AreSetsOf r ray.sets
  pub window : IsWindow r range.0 range.1
  pub near : IsNearOf cylinder r

pub ready_at : (plan : PlanOf) (number strip n : ℕ) (s : StripOf) (near : CylinderStripOf) (ray : KeptSets) (window : ℕ × ℕ) → IsPlan plan
    → number < length plan.moves → strip < length (strips_of plan.grid) → n < length (strip_at plan.grid strip)
    → IsMarkerOf plan number strip s → IsCylinderStripOf plan number strip near → AreSetsAt plan.grid strip n ray.sets
    → IsRayWindow plan number strip n window → IsReady (ray_at s n) (cylinder_ray_at near n) ray window
ready_at plan number strip n s near ray window valid has there lt marker on sets w =
    let some = some_move plan number has in
    let move = some.0 in
    subst (λ (r : RayOf). IsReady r (cylinder_ray_at near n) ray window) (sym (marker_is plan number strip n move s marker some.1 lt))
    (record {
      sets = sets_for plan move strip n _ ray refl sets;
      window = window_on plan number move strip n window.0 window.1 valid some.1 there lt w.order w.within (w.holds move some.1);
      near = near_on plan number strip n move near on some.1 there lt;
    })
