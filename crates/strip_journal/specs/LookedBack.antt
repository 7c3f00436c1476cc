-- Looking back over the moves that are left after a strip's last edit: what some of the first of them were sure of, and possible at.
use Rattle.std.specs.Prelude.{◌≡◌, ℕ, ◌<◌, ◌≤◌, true, nat_lt, if◌then◌else◌, List, All, length, slice_index, take}
use Rattle.vf_spans.specs.Members.{has}
use Rattle.edit_plan.specs.Edits.{left_at}
use Rattle.job_counts.specs.declared.counts.Counts.{Counts}
use Rattle.dexel_rays.specs.Sets.{HaveBound, Sets}
use Rattle.job_model.specs.Findings.{found_over}
use Rattle.job_model.specs.Points.{moves_of, some_possible, some_sure, strip_points}
use Rattle.job_model.specs.Tasks.{Job, JobMove, PlanOf}
use Rattle.ray_words.specs.Rays.{KeptSets}
use Rattle.strip_plan.specs.Plans.{HasNumber}
use Rattle.strip_marks.specs.Marks.{IsChangeOn, point_at, points_at}
use Rattle.strip_journal.specs.declared.journal.Journal.{Journal}
use Rattle.strip_journal.specs.Entries.{edit_at}
use Rattle.strip_journal.specs.Journals.{AreRaysAt, HasBodies, IsJournal, job_of}

-- A strip of a job's lattice after some of the edits, and a place among the moves that are left then: after the first `left` of them.
pub record LookedBackOf : Type 0 where
  pub job : Job
  pub number : ℕ
  pub done : ℕ
  pub left : ℕ

-- the moves up to the place, in order; a move that was undone is not among them
abbrev pub moves_so_far : LookedBackOf → List JobMove
moves_so_far s = moves_of s.job.plan (take s.left (left_at s.job.plan.edits s.done))

-- The sets of ray n at the place: the points of the bodies; and of the stock those points of which some move up to the place is sure,
-- and those at which some is possible.
pub record IsRaySoFar (s : LookedBackOf) (n : ℕ) (d : Sets) : Type 0 where
  pub bound : HaveBound (points_at s.job.plan.grid s.number n) d
  pub bodies : HasBodies s.job s.number n d
  pub sure : (l : ℕ) → l < points_at s.job.plan.grid s.number n → has d.stock l ≡ true
      → has d.sure l ≡ some_sure s.job.plan (moves_so_far s) (point_at s.job.plan.grid s.number n l)
  pub possible : (l : ℕ) → l < points_at s.job.plan.grid s.number n → has d.stock l ≡ true
      → has d.possible l ≡ some_possible s.job.plan (moves_so_far s) (point_at s.job.plan.grid s.number n l)

-- a plan over the same lattice, with the same number of slabs and the same depth; its moves may be others
pub record IsCutAlike (plan other : PlanOf) : Type 0 where
  pub grid : other.grid ≡ plan.grid
  pub slabs : other.slabs ≡ plan.slabs
  pub depth : other.depth ≡ plan.depth

-- the counts are what the move of a plan with this number finds on the strip, after the moves up to the place
pub record IsFoundSoFar (s : LookedBackOf) (plan : PlanOf) (number : ℕ) (counts : Counts) : Type 0 where
  pub is : (move : JobMove) → HasNumber plan number move
      → counts ≡ found_over s.job (strip_points s.job.plan.grid s.number) (moves_so_far s) move

-- the version before the edit of the first move after a place of the line; past the last move that is left it is the newest
abbrev pub version_before : Journal → ℕ → ℕ
version_before j left = if nat_lt left j.at then slice_index j.line left else j.done

-- A journal whose rays went back to the place after the first `left` of the moves that are left. With its newest rays it is one of the
-- strip; and the edits of those moves have their entries before `place`.
pub record IsBackAt (j : Journal) (place left : ℕ) : Type 0 where
  pub newest : List KeptSets
  pub journal : IsJournal (job_of j) (record j { rays = newest })
  pub on : All (IsChangeOn j.rays) j.changes.items
  pub within : left ≤ j.at
  pub few : place ≤ length j.entries.items
  pub rays : AreRaysAt (job_of j) j.number (version_before j left) j
  pub before : (i m : ℕ) → place ≤ i → i < length j.entries.items → m < left → edit_at j.entries.items i ≡ slice_index j.line m → ⊥
