-- What a move changes on a strip: its rays in the window are enough.
use Rattle.std.proofs.Common.{◌≡◌, ℕ, ◌-◌, ◌<◌, ◌≤◌, false, not, ◌&&◌, List, [], length, get_or, arith, sym, ap, ◌∙◌, ◌⊎◌, inl, inr, ⊎_elim}
use Rattle.vf_spans.specs.Members.{has}
use Rattle.dexel_rays.proofs.Laws.{and_false}
use Rattle.job_counts.specs.declared.counts.Counts.{Counts}
use Rattle.job_counts.specs.Counts.{no_counts}
use Rattle.ray_grid.specs.Strips.{strips_of}
use Rattle.ray_words.specs.Rays.{KeptSets}
use Rattle.job_model.specs.Tasks.{IsPlan, JobMove, PlanOf}
use Rattle.strip_plan.specs.Plans.{HasNumber}
use Rattle.strip_plan.specs.Windows.{HoldsEntered}
use Rattle.strip_marks.specs.declared.change.WordChange.{WordChange}
use Rattle.strip_marks.specs.Marks.{AreRays, IsMarkedStrip, among, points_at, possible_of, possible_there, ray_found, seen_on, sets_of, sure_of, sure_there}
use Rattle.strip_marks.specs.RowMarks.{AreRaysMarked}
use Rattle.strip_marks.proofs.Counting.{found_none, inside_or, sum_window}
use Rattle.strip_marks.proofs.Lists.{among_none, other_ray}
use Rattle.strip_marks.proofs.MoreRays.{no_rays_to}
use Rattle.strip_marks.proofs.OnStrips.{not_sure_there, nowhere_beyond}
use Rattle.strip_marks.proofs.Idle.{unmarked_meets_none}

module _ (plan : PlanOf) (number : ℕ) (move : JobMove) (strip lo hi : ℕ) (before after : List KeptSets) (changes : List WordChange)
    (counts : Counts)
    (valid : IsPlan plan) (has_number : HasNumber plan number move) (there : strip < length (strips_of plan.grid))
    (rays : AreRays plan.grid strip before)
    (order : lo ≤ hi) (within : hi ≤ length before) (window : HoldsEntered plan move strip lo hi)
    (h : AreRaysMarked plan move strip before after lo hi changes counts) where
  -- beyond the rays of the window the move is possible at no point, and so sure of none
  not_possible : (n l : ℕ) → (n < lo) ⊎ (hi ≤ n) → n < length before → l < points_at plan.grid strip n
      → possible_there plan move strip n l ≡ false
  not_possible n l out lt below =
      nowhere_beyond plan move strip lo hi n l there window (omega (arith, rays.many))
      (λ inside. ⊎_elim (λ (low : n < lo). omega (arith, inside.0)) (λ (high : hi ≤ n). omega (arith, inside.1)) out) below

  not_sure : (n l : ℕ) → (n < lo) ⊎ (hi ≤ n) → n < length before → l < points_at plan.grid strip n → sure_there plan move strip n l ≡ false
  not_sure n l out lt below = not_sure_there plan number move strip n l valid has_number (not_possible n l out lt below)

  -- so it changes nothing there, and finds nothing
  none_beside : (pick : WordChange → ℕ) (n l : ℕ) → (n < lo) ⊎ (hi ≤ n) → among pick changes n l ≡ false
  none_beside pick n l out =
      among_none pick changes n l
      (λ i d lt. let here = h.each i d lt in
      other_ray pick (get_or changes i d) n l
      (λ e. ⊎_elim (λ (low : n < lo). omega (arith, e, here.from)) (λ (high : hi ≤ n). omega (arith, e, here.below)) out))

  none_found : (n : ℕ) → (n < lo) ⊎ (hi ≤ n) → n < length before → ray_found plan move strip before n ≡ no_counts
  none_found n out lt =
      let d = sets_of before n in
      found_none (seen_on d (sure_there plan move strip n) (possible_there plan move strip n) move.rapid) 0 (points_at plan.grid strip n)
      (λ l ge less. unmarked_meets_none (has d.stock l) (has d.part l) (has d.fixture l) (has d.sure l) (has d.possible l)
      (sure_there plan move strip n l) (possible_there plan move strip n l) move.rapid
      (not_sure n l out lt (omega arith)) (not_possible n l out lt (omega arith)))

  -- what is marked on the rays of the window is what the move marks on the strip
  pub strip_marked : IsMarkedStrip plan move strip before after changes counts
  strip_marked = record {
    sure = λ n l lt below.
        inside_or lo hi n (among sure_of changes n l ≡ (has (sets_of before n).stock l && (sure_there plan move strip n l && not (has (sets_of before n).sure l))))
        (λ ge less. h.new_sure n l ge less below)
        (λ out. none_beside sure_of n l out ∙ sym (ap (λ t. has (sets_of before n).stock l && (t && not (has (sets_of before n).sure l))) (not_sure n l out lt below)
        ∙ and_false (has (sets_of before n).stock l)));
    possible = λ n l lt below.
        inside_or lo hi n (among possible_of changes n l ≡ (has (sets_of before n).stock l && (possible_there plan move strip n l && not (has (sets_of before n).possible l))))
        (λ ge less. h.new_possible n l ge less below)
        (λ out. none_beside possible_of n l out ∙ sym
        (ap (λ t. has (sets_of before n).stock l && (t && not (has (sets_of before n).possible l))) (not_possible n l out lt below)
        ∙ and_false (has (sets_of before n).stock l)));
    on = λ i d lt. (h.each i d lt).on;
    order = h.order;
    found =
        h.found
        ∙ sym (sum_window (ray_found plan move strip before) lo (hi - lo) (length before) (omega arith)
        (λ n lt. none_found n (inl lt) (omega arith)) (λ n ge lt. none_found n (inr (omega arith)) lt));
  }

-- a move whose window on a strip is empty changes nothing there, and finds nothing
pub unentered_strip : (plan : PlanOf) (number : ℕ) (move : JobMove) (strip lo hi : ℕ) (rays : List KeptSets) (changes : List WordChange)
    (counts : Counts) → IsPlan plan → HasNumber plan number move → strip < length (strips_of plan.grid) → AreRays plan.grid strip rays
    → lo ≡ hi → hi ≤ length rays → HoldsEntered plan move strip lo hi → changes ≡ [] → counts ≡ no_counts
    → IsMarkedStrip plan move strip rays rays changes counts
unentered_strip plan number move strip lo hi rays changes counts valid named there own empty within window none nothing =
    strip_marked plan number move strip lo hi rays rays changes counts valid named there own (omega arith) within window
    (no_rays_to plan move strip lo hi rays rays changes counts empty none nothing)
