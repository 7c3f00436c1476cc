-- What a move of a plan changes on one ray of a strip.
use Rattle.std.proofs.Common.{◌≡◌, ℕ, ◌+◌, ◌<◌, ◌≤◌, Bool, List, length, set, sym, subst}
use Rattle.job_counts.specs.declared.counts.Counts.{Counts}
use Rattle.job_counts.specs.Counts.{AreWithin}
use Rattle.ray_words.specs.Rays.{KeptSets}
use Rattle.ray_words.specs.Rows.{kept_at}
use Rattle.wanted_marks.specs.Rays.{RayOf, is_possible_at, is_sure_at}
use Rattle.job_model.specs.Tasks.{JobMove, PlanOf}
use Rattle.strip_marks.specs.declared.move_changes.MoveChanges.{MoveChanges}
use Rattle.strip_marks.specs.Marks.{AreRays, HaveSameSets, possible_there, sure_there}
use Rattle.strip_marks.specs.RayMarks.{Adds, HasSameSets, IsRayMarked}
use Rattle.strip_marks.specs.RowMarks.{AreRaysMarked, AreSetsAt}
use Rattle.strip_marks.specs.Words.{AreSetsOf}
use Rattle.strip_marks.proofs.Counting.{within_both}
use Rattle.strip_marks.proofs.MoreRays.{ray_within, rays_more}
use Rattle.strip_marks.proofs.OnStrips.{move_on}

-- the sets are those of the ray that is marked
pub sets_for : (plan : PlanOf) (move : JobMove) (strip n : ℕ) (r : RayOf) (ray : KeptSets) → r ≡ move_on plan move strip n
    → AreSetsAt plan.grid strip n ray.sets → AreSetsOf r ray.sets
sets_for plan move strip n r ray e h = subst (λ (x : RayOf). AreSetsOf x ray.sets) (sym e) (record { bound = h.bound; ordered = h.ordered })

-- what is marked by the move ready for the ray is what the move marks there
pub marked_by : (plan : PlanOf) (move : JobMove) (strip n : ℕ) (r : RayOf) (rapid : Bool) (ray : KeptSets) (before after : MoveChanges)
    → r ≡ move_on plan move strip n → rapid ≡ move.rapid
    → Adds before after (λ added found. IsRayMarked ray (is_sure_at r) (is_possible_at r) rapid n added found)
    → Adds before after (λ added found. IsRayMarked ray (sure_there plan move strip n)
    (possible_there plan move strip n) move.rapid n added found)
marked_by plan move strip n r rapid ray before after e f h = record {
  added = h.added;
  found = h.found;
  joined = h.joined;
  summed = h.summed;
  holds =
      subst (λ (b : Bool). IsRayMarked ray (sure_there plan move strip n) (possible_there plan move strip n) b n h.added h.found) f
      (subst (λ (x : RayOf). IsRayMarked ray (is_sure_at x) (is_possible_at x) rapid n h.added h.found) e h.holds);
}

-- with the next ray marked, one ray more is
pub rays_step : (plan : PlanOf) (move : JobMove) (strip lo n : ℕ) (before mid mid' : List KeptSets) (ray : KeptSets) (between after : MoveChanges)
    → AreRays plan.grid strip before → HaveSameSets before mid → HasSameSets (kept_at mid n) ray → mid' ≡ set mid n ray → lo ≤ n
    → n < length before
    → AreRaysMarked plan move strip before mid lo n between.changes.items between.counts
    → Adds between after (λ added found. IsRayMarked ray (sure_there plan move strip n)
    (possible_there plan move strip n) move.rapid n added found)
    → AreRaysMarked plan move strip before mid' lo (n + 1) after.changes.items after.counts
rays_step plan move strip lo n before mid mid' ray between after rays same own e from within h next =
    subst (λ (l : List KeptSets). AreRaysMarked plan move strip before l lo (n + 1) after.changes.items after.counts) (sym e)
    (rays_more plan move strip lo n before mid ray between.changes.items next.added between.counts next.found rays same own from within h
    next.holds after.counts after.changes.items next.summed next.joined)

-- and the counts are within what one ray more can have
pub within_next : (plan : PlanOf) (move : JobMove) (strip n span : ℕ) (ray : KeptSets) (between after : MoveChanges)
    → AreWithin span between.counts
    → Adds between after (λ added found. IsRayMarked ray (sure_there plan move strip n)
    (possible_there plan move strip n) move.rapid n added found)
    → AreWithin (span + 4294967295) after.counts
within_next plan move strip n span ray between after within next =
    subst (λ (c : Counts). AreWithin (span + 4294967295) c) (sym next.summed)
    (within_both span 4294967295 between.counts next.found within
    (ray_within ray (sure_there plan move strip n) (possible_there plan move strip n) move.rapid n next.added next.found next.holds))
