-- What a move changes on neighbouring rays of a strip, and what it finds there.
use Rattle.std.specs.Prelude.{◌≡◌, ℕ, ◌-◌, ◌<◌, ◌≤◌, true, not, ◌&&◌, List, map, All}
use Rattle.std.specs.List.{range_with_len}
use Rattle.vf_spans.specs.Members.{has}
use Rattle.ray_grid.specs.Grids.{GridSize}
use Rattle.ray_grid.specs.Strips.{strip_at, strip_of}
use Rattle.job_counts.specs.declared.counts.Counts.{Counts}
use Rattle.dexel_rays.specs.Sets.{HaveBound, Sets}
use Rattle.ray_words.specs.Rays.{HasAllWanted, KeptSets}
use Rattle.near_points.specs.Rays.{CylinderStripOf, cylinder_ray_at}
use Rattle.wanted_marks.specs.Strips.{StripOf}
use Rattle.job_model.specs.Sums.{sum_counts}
use Rattle.job_model.specs.Tasks.{JobMove, PlanOf}
use Rattle.strip_plan.specs.Plans.{HasNumber, move_in}
use Rattle.strip_plan.specs.Windows.{HoldsMet}
use Rattle.strip_marks.specs.declared.candidate_word.CandidateWord.{CandidateWord}
use Rattle.strip_marks.specs.declared.change.WordChange.{WordChange}
use Rattle.strip_marks.specs.RayMarks.{IsFirstAsked, IsUnasked}
use Rattle.strip_marks.specs.Marks.{AreInOrder, IsChangeOn, among, points_at, possible_of, possible_there, ray_found, sets_of, sure_of, sure_there}

-- the sets are those of ray n of the strip, and no point is sure that isn't possible
pub record AreSetsAt (grid : GridSize) (strip n : ℕ) (d : Sets) : Type 0 where
  pub bound : HaveBound (points_at grid strip n) d
  pub ordered : (l : ℕ) → has d.sure l ≡ true → has d.possible l ≡ true

-- it marks by the move of the plan with a number, on the rays of a strip
pub record IsMarkerOf (plan : PlanOf) (number strip : ℕ) (s : StripOf) : Type 0 where
  pub grid : s.grid ≡ plan.grid
  pub rays : strip_at plan.grid strip ≡ strip_of plan.grid s.family s.i
  pub sweep : (move : JobMove) → HasNumber plan number move → s.sweep ≡ move_in plan move

-- the cylinder is that of the plan's move with a number, on the rays of a strip
pub record IsCylinderStripOf (plan : PlanOf) (number strip : ℕ) (s : CylinderStripOf) : Type 0 where
  pub grid : s.grid ≡ plan.grid
  pub rays : strip_at plan.grid strip ≡ strip_of plan.grid s.family s.i
  pub holds : (move : JobMove) → HasNumber plan number move → HoldsMet plan move s.cylinder

-- on none of the rays from the one number on and below the other has the window a candidate
abbrev pub AreUnasked : CylinderStripOf → List KeptSets → ℕ × ℕ → ℕ → ℕ → Type 0
AreUnasked near rays window lo hi = (n : ℕ) → lo ≤ n → n < hi → IsUnasked (cylinder_ray_at near n) (sets_of rays n) window

-- one of those rays, with no candidate on the rays before it; what is left of the window there has each index that is wanted
pub record IsOpenRay (near : CylinderStripOf) (rays : List KeptSets) (window : ℕ × ℕ) (lo hi : ℕ) (found : ℕ × (ℕ × ℕ)) : Type 0 where
  pub from : lo ≤ found.0
  pub below : found.0 < hi
  pub ahead : AreUnasked near rays window lo found.0
  pub left : HasAllWanted (sets_of rays found.0) window found.1

-- the first of those rays with a candidate, and its first word with one
pub record IsFirstIn (near : CylinderStripOf) (rays : List KeptSets) (window : ℕ × ℕ) (lo hi : ℕ) (found : ℕ × CandidateWord) : Type 0 where
  pub from : lo ≤ found.0
  pub below : found.0 < hi
  pub ahead : AreUnasked near rays window lo found.0
  pub asked : IsFirstAsked (cylinder_ray_at near found.0) (sets_of rays found.0) window found.1

-- a change on one of the rays from the one number on and below the other
pub record IsChangeFrom (rays : List KeptSets) (lo hi : ℕ) (change : WordChange) : Type 0 where
  pub on : IsChangeOn rays change
  pub from : lo ≤ change.ray
  pub below : change.ray < hi

-- what a move changes on the rays of a strip from the one number on and below the other, by their sets, and what it finds there
pub record AreRaysMarked (plan : PlanOf) (move : JobMove) (strip : ℕ) (before after : List KeptSets) (lo hi : ℕ)
    (changes : List WordChange) (counts : Counts) : Type 0 where
  pub new_sure : (n l : ℕ) → lo ≤ n → n < hi → l < points_at plan.grid strip n
      → among sure_of changes n l ≡ (has (sets_of before n).stock l && (sure_there plan move strip n l && not (has (sets_of before n).sure l)))
  pub new_possible : (n l : ℕ) → lo ≤ n → n < hi → l < points_at plan.grid strip n
      → among possible_of changes n l ≡ (has (sets_of before n).stock l && (possible_there plan move strip n l && not (has (sets_of before n).possible l)))
  pub each : All (IsChangeFrom after lo hi) changes
  pub order : AreInOrder changes
  pub found : counts ≡ sum_counts (map (ray_found plan move strip before) (range_with_len lo (hi - lo)))
