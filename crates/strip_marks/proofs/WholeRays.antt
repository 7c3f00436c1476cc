-- What a move changes on a ray: its words in the window are enough.
use Rattle.std.proofs.Common.{◌≡◌, ℕ, ◌+◌, ◌-◌, ◌*◌, ◌^◌, ◌<◌, ◌≤◌, Bool, false, not, ◌&&◌, List, length, arith, sym, ap, ◌∙◌, subst, ◌⊎◌, inl, inr, ⊎_elim}
use Rattle.std.specs.List.{All, range_with_len}
use Rattle.std.proofs.lemmas.Bool.{cases_lt}
use Rattle.vf_spans.specs.Members.{has}
use Rattle.job_counts.specs.declared.counts.Counts.{Counts}
use Rattle.dexel_rays.proofs.Laws.{and_false}
use Rattle.dexel_rays.specs.Findings.{findings, met, none_met}
use Rattle.dexel_rays.specs.Sets.{HaveBound}
use Rattle.ray_words.specs.Rays.{KeptSets}
use Rattle.wanted_marks.specs.Rays.{RayOf, is_possible_at, is_sure_at}
use Rattle.strip_marks.specs.declared.change.WordChange.{WordChange}
use Rattle.strip_marks.specs.Marks.{among, possible_of, seen_on, sure_of}
use Rattle.strip_marks.specs.RayMarks.{AreWordsMarked, IsAtKept, IsRayMarked, IsWindow}
use Rattle.strip_marks.specs.Words.{AreSetsOf}
use Rattle.strip_marks.proofs.AtWords.{not_possible_beside, not_sure_beside}
use Rattle.strip_marks.proofs.Counting.{found_window, inside_or}
use Rattle.strip_marks.proofs.Growing.{beside}
use Rattle.strip_marks.proofs.Idle.{past_meets_none, unmarked_meets_none}

module _ (r : RayOf) (after : KeptSets) (rapid : Bool) (n first end lo hi : ℕ) (changes : List WordChange) (counts : Counts)
    (h : AreSetsOf r after.sets) (w : IsWindow r first end) (from : 64 * lo ≤ first) (to : end ≤ 64 * hi) (order : lo ≤ hi)
    (m : AreWordsMarked after.sets (is_sure_at r) (is_possible_at r) rapid n lo hi changes counts) where
  beside_window : (l : ℕ) → (l < 64 * lo) ⊎ (64 * hi ≤ l) → (l < first) ⊎ (end ≤ l)
  beside_window l out = ⊎_elim (λ (low : l < 64 * lo). inl (omega arith)) (λ (high : 64 * hi ≤ l). inr (omega arith)) out

  -- beyond the words of the window the move is possible at no point of the ray, and so sure of none
  not_possible : (l : ℕ) → l < length after.sets.stock → (l < 64 * lo) ⊎ (64 * hi ≤ l) → is_possible_at r l ≡ false
  not_possible l lt out = not_possible_beside r first end l w (omega (arith, h.bound.stock)) (beside_window l out)

  not_sure : (l : ℕ) → l < length after.sets.stock → (l < 64 * lo) ⊎ (64 * hi ≤ l) → is_sure_at r l ≡ false
  not_sure l lt out = not_sure_beside r first end l w (omega (arith, h.bound.stock)) (beside_window l out)

  -- so it changes nothing there
  none_beside : (pick : WordChange → ℕ) (l : ℕ) → (l < 64 * lo) ⊎ (64 * hi ≤ l) → among pick changes n l ≡ false
  none_beside pick l out =
      beside pick (length after.sets.stock) n lo hi l changes m.each
      (λ k ge lt e. ⊎_elim (λ (low : l < 64 * lo). omega (arith, e)) (λ (high : 64 * hi ≤ l). omega (arith, e)) out)

  meets_none : (l : ℕ) → (l < 64 * lo) ⊎ (64 * hi ≤ l) → met (seen_on after.sets (is_sure_at r) (is_possible_at r) rapid l) ≡ none_met
  meets_none l out =
      let d = after.sets in
      ⊎_elim
      (λ (lt : l < length d.stock). unmarked_meets_none (has d.stock l) (has d.part l) (has d.fixture l) (has d.sure l) (has d.possible l)
      (is_sure_at r l) (is_possible_at r l) rapid
      (not_sure l lt out) (not_possible l lt out))
      (λ (le : length d.stock ≤ l). past_meets_none d (is_sure_at r) (is_possible_at r) rapid l same_bound le)
      (cases_lt l (length d.stock)) where
        same_bound : HaveBound (length after.sets.stock) after.sets
        same_bound = let e = sym h.bound.stock in subst (λ (b : ℕ). HaveBound b after.sets) e h.bound

  same_found : findings (seen_on after.sets (is_sure_at r) (is_possible_at r) rapid) (range_with_len (64 * lo) (64 * (hi - lo)))
      ≡ findings (seen_on after.sets (is_sure_at r) (is_possible_at r) rapid) (range_with_len 0 (length after.sets.stock))
  same_found =
      let see = seen_on after.sets (is_sure_at r) (is_possible_at r) rapid in
      let points = length after.sets.stock in
      let all = points + 64 * hi in
      sym (found_window see (64 * lo) (64 * (hi - lo)) all (omega arith) (λ k lt. meets_none k (inl lt))
      (λ k ge lt. meets_none k (inr (omega arith))))
      ∙ found_window see 0 points all (omega arith) (λ k lt. absurd (omega arith))
      (λ k ge lt. past_meets_none after.sets (is_sure_at r) (is_possible_at r) rapid k
      (subst (λ (b : ℕ). HaveBound b after.sets) (sym h.bound.stock) h.bound) (omega arith))

  -- what is marked in the words of the window is what the move marks on the ray
  pub ray_marked : All (IsAtKept after) changes → length after.sets.stock < 2 ^ 32
      → IsRayMarked after (is_sure_at r) (is_possible_at r) rapid n changes counts
  ray_marked kept few = record {
    new_sure = λ l lt.
        inside_or (64 * lo) (64 * hi) l
        (among sure_of changes n l ≡ (has after.sets.stock l && (is_sure_at r l && not (has after.sets.sure l))))
        (λ ge less. m.new_sure l ge less lt)
        (λ out. none_beside sure_of l out ∙ sym (ap (λ t. has after.sets.stock l && (t && not (has after.sets.sure l))) (not_sure l lt out) ∙ and_false (has after.sets.stock l)));
    new_possible = λ l lt.
        inside_or (64 * lo) (64 * hi) l
        (among possible_of changes n l ≡ (has after.sets.stock l && (is_possible_at r l && not (has after.sets.possible l))))
        (λ ge less. m.new_possible l ge less lt)
        (λ out. none_beside possible_of l out ∙ sym (ap (λ t. has after.sets.stock l && (t && not (has after.sets.possible l))) (not_possible l lt out) ∙ and_false (has after.sets.stock l)));
    each = λ i d lt. let here = m.each i d lt in
        record { number = here.ray; kept = kept i d lt; sure = here.sure; possible = here.possible };
    order = m.order;
    found = m.found ∙ same_found;
    few = few;
  }
