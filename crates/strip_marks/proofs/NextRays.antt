-- What a move changes on the rays of a strip up to the next one with a candidate.
use Rattle.std.proofs.Common.{◌≡◌, ℕ, ◌+◌, ◌-◌, ◌*◌, ◌<◌, ◌≤◌, true, false, not, ◌&&◌, List, [], length, get_or, Option, Some, None, IfNone, IfSome, arith, sym, ap, ap₂, ◌∙◌, subst, ⊎_elim}
use Rattle.std.proofs.lemmas.Bool.{cases_lt}
use Rattle.vf_spans.specs.Members.{has}
use Rattle.job_counts.specs.declared.counts.Counts.{Counts}
use Rattle.job_counts.specs.Counts.{AreWithin, no_counts, plus}
use Rattle.dexel_rays.specs.Findings.{findings}
use Rattle.dexel_rays.specs.Sets.{HaveBound, Sets}
use Rattle.ray_grid.specs.Grids.{GridSize}
use Rattle.near_points.specs.Rays.{CylinderStripOf, cylinder_ray_at}
use Rattle.ray_words.specs.Rays.{KeptSets}
use Rattle.job_model.specs.Tasks.{JobMove, PlanOf}
use Rattle.strip_plan.specs.Plans.{HasNumber}
use Rattle.strip_marks.specs.declared.candidate_word.CandidateWord.{CandidateWord}
use Rattle.strip_marks.specs.declared.change.WordChange.{WordChange}
use Rattle.strip_marks.specs.declared.move_changes.MoveChanges.{MoveChanges}
use Rattle.strip_marks.specs.Marks.{AreRays, HaveSameSets, among, points_at, possible_of, possible_there, ray_found, seen_on, sets_of, sure_of, sure_there}
use Rattle.strip_marks.specs.RayMarks.{IsFirstAsked}
use Rattle.strip_marks.specs.RowMarks.{AreRaysMarked}
use Rattle.strip_marks.proofs.IdleRays.{IsFirstRay}
use Rattle.strip_marks.proofs.Counting.{plus_none, sum_as, sum_over, sum_split, within_more}
use Rattle.strip_marks.proofs.Lists.{among_none, other_ray}
use Rattle.std.specs.List.{range_with_len}

-- rays with the same sets are those of the strip too
pub are_rays_still : (grid : GridSize) (strip : ℕ) (before mid : List KeptSets) → AreRays grid strip before → HaveSameSets before mid
    → AreRays grid strip mid
are_rays_still grid strip before mid h same =
    let lt : (n : ℕ) → n < length mid → n < length before = λ n less. omega (arith, less, same.many) in
    record {
      many = same.many ∙ h.many;
      bounds = λ n less. subst (λ (d : Sets). HaveBound (points_at grid strip n) d) (sym (same.sets n (lt n less))) (h.bounds n (lt n less));
      possible = λ n l less.
          subst (λ (d : Sets). has d.sure l ≡ true → has d.possible l ≡ true) (sym (same.sets n (lt n less))) (h.possible n l (lt n less));
    }

module _ (plan : PlanOf) (move : JobMove) (strip lo n m : ℕ) (before mid : List KeptSets) (changes : List WordChange) (counts : Counts)
    (same : HaveSameSets before mid) (from : lo ≤ n) (to : n ≤ m) (within : m ≤ length before)
    (h : AreRaysMarked plan move strip before mid lo n changes counts)
    (idle : AreRaysMarked plan move strip mid mid n m [] no_counts) where
  -- no change is on one of the rays where nothing is marked
  none_behind : (pick : WordChange → ℕ) (k l : ℕ) → n ≤ k → among pick changes k l ≡ false
  none_behind pick k l ge =
      among_none pick changes k l
      (λ i d lt. other_ray pick (get_or changes i d) k l (λ e. omega (arith, e, ge, (h.each i d lt).below)))

  -- and nothing is found there
  same_found : (k : ℕ) → k < length before → ray_found plan move strip mid k ≡ ray_found plan move strip before k
  same_found k lt =
      ap (λ (d : Sets). findings (seen_on d (sure_there plan move strip k) (possible_there plan move strip k) move.rapid)
      (range_with_len 0 (points_at plan.grid strip k))) (same.sets k lt)

  none_found : sum_over (ray_found plan move strip before) n (m - n) ≡ no_counts
  none_found =
      sum_as (ray_found plan move strip before) (ray_found plan move strip mid) n (m - n)
      (λ k ge lt. sym (same_found k (omega (arith, lt, within))))
      ∙ sym idle.found

  -- what is marked before rays where nothing is marked is what is marked with them
  pub marked_beyond : AreRaysMarked plan move strip before mid lo m changes counts
  marked_beyond = record {
    new_sure = λ k l ge lt below.
        ⊎_elim
        (λ (less : k < n). h.new_sure k l ge less below)
        (λ (more : n ≤ k). none_behind sure_of k l more ∙ idle.new_sure k l more lt below
        ∙ ap (λ (d : Sets). has d.stock l && (sure_there plan move strip k l && not (has d.sure l))) (same.sets k (omega (arith, lt, within))))
        (cases_lt k n);
    new_possible = λ k l ge lt below.
        ⊎_elim
        (λ (less : k < n). h.new_possible k l ge less below)
        (λ (more : n ≤ k). none_behind possible_of k l more ∙ idle.new_possible k l more lt below
        ∙ ap (λ (d : Sets). has d.stock l && (possible_there plan move strip k l && not (has d.possible l))) (same.sets k (omega (arith, lt, within))))
        (cases_lt k n);
    each = λ i d lt. let here = h.each i d lt in record { on = here.on; from = here.from; below = omega (arith, here.below) };
    order = h.order;
    found =
        sym (plus_none counts) ∙ ap₂ plus h.found (sym none_found)
        ∙ sym (sum_split (ray_found plan move strip before) lo (n - lo) (m - n) n (omega arith))
        ∙ ap (sum_over (ray_found plan move strip before) lo) (let q : n - lo + (m - n) ≡ m - lo = omega arith in q);
  }

-- how many rays are left from the next one on
pub rays_left : Option (ℕ × CandidateWord) → ℕ → ℕ
rays_left None hi = 0
rays_left (Some next) hi = hi - next.0

-- up to the next ray with a candidate the rays are marked
pub record IsNextRay (plan : PlanOf) (number strip : ℕ) (near : CylinderStripOf) (window : ℕ × ℕ) (before rays : List KeptSets) (marked : MoveChanges)
    (lo hi : ℕ) (next : ℕ × CandidateWord) : Type 0 where
  pub from : lo ≤ next.0
  pub below : next.0 < hi
  pub within : AreWithin ((next.0 - lo) * 4294967295) marked.counts
  pub ahead : (move : JobMove) → HasNumber plan number move
      → AreRaysMarked plan move strip before rays lo next.0 marked.changes.items marked.counts
  pub asked : IsFirstAsked (cylinder_ray_at near next.0) (sets_of rays next.0) window next.1

-- the first such ray after those that are marked is the next one
pub next_behind : (plan : PlanOf) (number strip : ℕ) (near : CylinderStripOf) (window : ℕ × ℕ) (before rays : List KeptSets) (marked : MoveChanges) (lo n hi : ℕ)
    (next : ℕ × CandidateWord) → HaveSameSets before rays → lo ≤ n → hi ≤ length before → AreWithin ((n - lo) * 4294967295) marked.counts
    → ((move : JobMove) → HasNumber plan number move
    → AreRaysMarked plan move strip before rays lo n marked.changes.items marked.counts)
    → IsFirstRay plan number strip near rays window n hi next → IsNextRay plan number strip near window before rays marked lo hi next
next_behind plan number strip near window before rays marked lo n hi next same from to within h first = record {
  from = omega (arith, from, first.from);
  below = first.below;
  within = within_more ((n - lo) * 4294967295) ((next.0 - lo) * 4294967295) marked.counts (omega (arith, from, first.from)) within;
  ahead = λ move has.
      marked_beyond plan move strip lo n next.0 before rays marked.changes.items marked.counts same from first.from
      (omega (arith, first.below, to)) (h move has) (first.nothing move has);
  asked = first.asked;
}

-- the same of what is known of a first one, if there is one; where there is none, all rays are marked
pub next_more : (plan : PlanOf) (number strip : ℕ) (near : CylinderStripOf) (window : ℕ × ℕ) (before rays : List KeptSets) (marked : MoveChanges) (lo n hi : ℕ)
    (next : Option (ℕ × CandidateWord)) → HaveSameSets before rays → lo ≤ n → hi ≤ length before → AreWithin ((n - lo) * 4294967295) marked.counts
    → ((move : JobMove) → HasNumber plan number move
    → AreRaysMarked plan move strip before rays lo n marked.changes.items marked.counts)
    → IfSome next (IsFirstRay plan number strip near rays window n hi) → IfSome next (IsNextRay plan number strip near window before rays marked lo hi)
next_more plan number strip near window before rays marked lo n hi None same from to within h first = tt
next_more plan number strip near window before rays marked lo n hi (Some next) same from to within h first =
    next_behind plan number strip near window before rays marked lo n hi next same from to within h first

pub nothing_more : (plan : PlanOf) (number strip : ℕ) (before rays : List KeptSets) (marked : MoveChanges) (lo n hi : ℕ) (next : Option (ℕ × CandidateWord))
    → HaveSameSets before rays → lo ≤ n → n ≤ hi → hi ≤ length before
    → ((move : JobMove) → HasNumber plan number move
    → AreRaysMarked plan move strip before rays lo n marked.changes.items marked.counts)
    → IfNone next ((move : JobMove) → HasNumber plan number move → AreRaysMarked plan move strip rays rays n hi [] no_counts)
    → IfNone next ((move : JobMove) → HasNumber plan number move
    → AreRaysMarked plan move strip before rays lo hi marked.changes.items marked.counts)
nothing_more plan number strip before rays marked lo n hi None same from to within h idle = λ move has.
    marked_beyond plan move strip lo n hi before rays marked.changes.items marked.counts same from to within (h move has) (idle move has)
nothing_more plan number strip before rays marked lo n hi (Some next) same from to within h idle = tt

-- with each one fewer rays are left
pub fewer_left : (plan : PlanOf) (number strip : ℕ) (near : CylinderStripOf) (window : ℕ × ℕ) (rays : List KeptSets) (n hi : ℕ) (asked : CandidateWord)
    (last next : Option (ℕ × CandidateWord)) → last ≡ Some (n, asked) → n < hi → IfSome next (IsFirstRay plan number strip near rays window (n + 1) hi)
    → rays_left next hi < rays_left last hi
unfolding rays_left
fewer_left plan number strip near window rays n hi asked last None e lt first =
    let left : rays_left last hi ≡ hi - n = ap (λ (o : Option (ℕ × CandidateWord)). rays_left o hi) e in omega (arith, left)
fewer_left plan number strip near window rays n hi asked last (Some next) e lt first =
    let left : rays_left last hi ≡ hi - n = ap (λ (o : Option (ℕ × CandidateWord)). rays_left o hi) e in
    omega (arith, left, first.from, first.below)
