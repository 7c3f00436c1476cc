-- Rays on which a move changes nothing and finds nothing, one after the other.
use Rattle.std.proofs.Common.{◌≡◌, ℕ, ◌-◌, ◌<◌, ◌≤◌, true, List, [], length, Option, None, Some, IfNone, IfSome, arith, sym}
use Rattle.std.proofs.lemmas.List.Elements.{All-nil}
use Rattle.vf_spans.specs.Members.{has}
use Rattle.job_counts.specs.Counts.{no_counts}
use Rattle.ray_grid.specs.Strips.{strip_at, strips_of}
use Rattle.near_points.specs.Rays.{CylinderStripOf, cylinder_ray_at}
use Rattle.ray_words.specs.Rays.{KeptSets}
use Rattle.ray_words.specs.Rows.{kept_at}
use Rattle.dexel_rays.specs.Sets.{Sets}
use Rattle.job_model.specs.Tasks.{IsPlan, JobMove, PlanOf}
use Rattle.strip_plan.specs.Plans.{HasNumber}
use Rattle.strip_marks.specs.declared.candidate_word.CandidateWord.{CandidateWord}
use Rattle.strip_marks.specs.Marks.{AreRays, points_at, possible_there, ray_found, seen_on, sets_of, sure_there}
use Rattle.strip_marks.specs.RayMarks.{IsFirstAsked, IsIdle, IsUnasked}
use Rattle.strip_marks.specs.RowMarks.{AreRaysMarked, AreUnasked, IsChangeFrom, IsCylinderStripOf, IsFirstIn}
use Rattle.strip_marks.proofs.AlongRays.{IsAlong, IsRayWindow, along_on}
use Rattle.strip_marks.proofs.Counting.{found_none, sum_none}
use Rattle.strip_marks.proofs.Idle.{idle_met, idle_possible, idle_sure}
use Rattle.strip_marks.proofs.Lists.{order_few}
use Rattle.strip_marks.proofs.MoreRays.{same_self, sets_at}
use Rattle.strip_marks.proofs.NearRays.{idle_on}
use Rattle.strip_marks.proofs.OnStrips.{window_on}

-- the move changes and finds nothing on ray n of a strip, by the ray's sets
abbrev pub IsIdleRay : PlanOf → ℕ → ℕ → ℕ → Sets → Type 0
IsIdleRay plan number strip n d = (move : JobMove) → HasNumber plan number move → (l : ℕ) → l < length d.stock
    → IsIdle d (sure_there plan move strip n) (possible_there plan move strip n) l

-- and on each ray from the one number on and below the other
abbrev pub AreIdleRays : PlanOf → ℕ → ℕ → List KeptSets → ℕ → ℕ → Type 0
AreIdleRays plan number strip rays lo hi = (n : ℕ) → lo ≤ n → n < hi → IsIdleRay plan number strip n (sets_of rays n)

-- so nothing is marked on them
pub none_marked : (plan : PlanOf) (number : ℕ) (move : JobMove) (strip lo hi : ℕ) (rays : List KeptSets) → AreRays plan.grid strip rays
    → HasNumber plan number move → hi ≤ length rays → AreIdleRays plan number strip rays lo hi
    → AreRaysMarked plan move strip rays rays lo hi [] no_counts
none_marked plan number move strip lo hi rays are number_of within idle =
    let sure = sure_there plan move strip in
    let possible = possible_there plan move strip in
    let at : (n l : ℕ) → lo ≤ n → n < hi → l < points_at plan.grid strip n → IsIdle (sets_of rays n) (sure n) (possible n) l =
    λ n l ge lt below. idle n ge lt move number_of l (omega (arith, below, (are.bounds n (omega (arith, lt, within))).stock)) in
    let ordered : (n l : ℕ) → n < hi → has (sets_of rays n).sure l ≡ true → has (sets_of rays n).possible l ≡ true =
    λ n l lt. are.possible n l (omega (arith, lt, within)) in
    record {
      new_sure = λ n l ge lt below.
          sym (idle_sure (sets_of rays n) (sure n) (possible n) move.rapid (λ k. ordered n k lt) l (at n l ge lt below));
      new_possible = λ n l ge lt below.
          sym (idle_possible (sets_of rays n) (sure n) (possible n) move.rapid (λ k. ordered n k lt) l (at n l ge lt below));
      each = All-nil (IsChangeFrom rays lo hi);
      order = order_few [] (omega arith);
      found = sym (sum_none (ray_found plan move strip rays) lo (hi - lo)
          (λ n ge lt. let below : n < hi = omega (arith, ge, lt) in
          found_none (seen_on (sets_of rays n) (sure n) (possible n) move.rapid) 0 (points_at plan.grid strip n)
          (λ l from less. idle_met (sets_of rays n) (sure n) (possible n) move.rapid (λ k. ordered n k below) l
          (at n l ge below (omega (arith, less))))));
    }

-- a ray with no candidate in a window is one
pub idle_unasked_ray : (plan : PlanOf) (number strip n : ℕ) (s : CylinderStripOf) (rays : List KeptSets) (window : ℕ × ℕ) → IsPlan plan
    → strip < length (strips_of plan.grid) → AreRays plan.grid strip rays → IsCylinderStripOf plan number strip s → n < length rays
    → IsRayWindow plan number strip n window → IsUnasked (cylinder_ray_at s n) (sets_of rays n) window
    → IsIdleRay plan number strip n (sets_of rays n)
idle_unasked_ray plan number strip n s rays window valid there are near lt w none = λ move has.
    let on_strip : n < length (strip_at plan.grid strip) = omega (arith, lt, are.many) in
    idle_on plan number strip n window.0 window.1 move s (kept_at rays n) near has there on_strip
    (sets_at plan.grid strip rays rays n are (same_self rays) lt)
    (window_on plan number move strip n window.0 window.1 valid has there on_strip w.order w.within (w.holds move has)) none

-- so rays with no candidate in it are idle
pub idle_along : (plan : PlanOf) (number strip lo hi : ℕ) (s : CylinderStripOf) (rays : List KeptSets) (window : ℕ × ℕ) → IsPlan plan
    → strip < length (strips_of plan.grid) → AreRays plan.grid strip rays → IsCylinderStripOf plan number strip s → hi ≤ length rays
    → IsAlong plan number s window → AreUnasked s rays window lo hi → AreIdleRays plan number strip rays lo hi
idle_along plan number strip lo hi s rays window valid there are near within w none n ge lt =
    let less : n < length rays = omega (arith, lt, within) in
    idle_unasked_ray plan number strip n s rays window valid there are near less
    (along_on plan number strip n s window near (omega (arith, less, are.many)) w) (none n ge lt)

-- the first of the rays from the one number on and below the other with a candidate: before it nothing is marked
pub record IsFirstRay (plan : PlanOf) (number strip : ℕ) (s : CylinderStripOf) (rays : List KeptSets) (window : ℕ × ℕ) (lo hi : ℕ)
    (found : ℕ × CandidateWord) : Type 0 where
  pub from : lo ≤ found.0
  pub below : found.0 < hi
  pub nothing : (move : JobMove) → HasNumber plan number move → AreRaysMarked plan move strip rays rays lo found.0 [] no_counts
  pub asked : IsFirstAsked (cylinder_ray_at s found.0) (sets_of rays found.0) window found.1

-- so is one that is found by only the cylinder and the sets
pub first_found : (plan : PlanOf) (number strip lo hi : ℕ) (s : CylinderStripOf) (rays : List KeptSets) (window : ℕ × ℕ)
    (next : Option (ℕ × CandidateWord)) → IsPlan plan → strip < length (strips_of plan.grid) → AreRays plan.grid strip rays
    → IsCylinderStripOf plan number strip s → hi ≤ length rays → IsAlong plan number s window → IfSome next (IsFirstIn s rays window lo hi)
    → IfSome next (IsFirstRay plan number strip s rays window lo hi)
first_found plan number strip lo hi s rays window None valid there are near within w found = tt
first_found plan number strip lo hi s rays window (Some next) valid there are near within w found =
    let within_ahead : next.0 ≤ length rays = omega (arith, found.below, within) in
    record {
      from = found.from;
      below = found.below;
      nothing = λ move has. none_marked plan number move strip lo next.0 rays are has within_ahead
          (idle_along plan number strip lo next.0 s rays window valid there are near within_ahead w found.ahead);
      asked = found.asked;
    }

-- and where none is found, nothing is marked on any of them
pub none_found : (plan : PlanOf) (number strip lo hi : ℕ) (s : CylinderStripOf) (rays : List KeptSets) (window : ℕ × ℕ)
    (next : Option (ℕ × CandidateWord)) → IsPlan plan → strip < length (strips_of plan.grid) → AreRays plan.grid strip rays
    → IsCylinderStripOf plan number strip s → hi ≤ length rays → IsAlong plan number s window → IfNone next (AreUnasked s rays window lo hi)
    → IfNone next ((move : JobMove) → HasNumber plan number move → AreRaysMarked plan move strip rays rays lo hi [] no_counts)
none_found plan number strip lo hi s rays window None valid there are near within w none = λ move has.
    none_marked plan number move strip lo hi rays are has within
    (idle_along plan number strip lo hi s rays window valid there are near within w none)
none_found plan number strip lo hi s rays window (Some next) valid there are near within w none = tt
