-- What a move changes on neighbouring words of a ray, taken together.
use Rattle.std.proofs.Common.{◌≡◌, ◌≢◌, ℕ, ◌+◌, ◌-◌, ◌*◌, ◌/◌, ◌%◌, ◌^◌, ◌<◌, ◌≤◌, Bool, true, false, not, ◌&&◌, ◌||◌, if◌then◌else◌, eqb, List, [], ◌∷◌, ◌++◌, length, get_or, arith, refl, sym, ap, ap₂, ◌∙◌, subst, ⊎_elim}
use Rattle.std.specs.List.{All, range_with_len}
use Rattle.std.proofs.lemmas.Bool.{and_parts, cases_lt, eqb-true}
use Rattle.std.proofs.lemmas.List.{append-nil, append_assoc}
use Rattle.std.proofs.lemmas.List.Elements.{All-append}
use Rattle.vf_spans.specs.Members.{has}
use Rattle.job_counts.specs.declared.counts.Counts.{Counts}
use Rattle.job_counts.specs.Counts.{AreWithin, most_count, no_counts, plus}
use Rattle.dexel_rays.specs.declared.word_sets.WordDelta.{WordDelta}
use Rattle.dexel_rays.specs.Findings.{findings}
use Rattle.dexel_rays.specs.Sets.{Sets}
use Rattle.strip_marks.specs.declared.change.WordChange.{WordChange}
use Rattle.strip_marks.specs.Marks.{among, possible_of, seen_on, sure_of}
use Rattle.strip_marks.specs.declared.move_changes.MoveChanges.{MoveChanges}
use Rattle.strip_marks.specs.RayMarks.{Adds, AreWordsMarked, CanCount, IsChangeIn}
use Rattle.strip_marks.specs.Words.{noted}
use Rattle.strip_marks.proofs.AtWords.{IsWordMarked}
use Rattle.strip_marks.proofs.Counting.{found_split, found_within, plus_apart, plus_none, within_both, within_more}
use Rattle.strip_marks.proofs.Lists.{ahead_by_word, all_noted, among_append, among_none, change_at, is_same, noted_here, or_false, order_append, order_few, other_word}

-- the change is at another word than the index, where the index lies outside its words
pub beside : (pick : WordChange → ℕ) (bound n lo hi l : ℕ) (changes : List WordChange) → All (IsChangeIn bound n lo hi) changes
    → ((k : ℕ) → lo ≤ k → k < hi → l / 64 ≢ k) → among pick changes n l ≡ false
beside pick bound n lo hi l changes each apart =
    among_none pick changes n l
    (λ i d lt. other_word pick (get_or changes i d) n l (apart (get_or changes i d).word (each i d lt).from (each i d lt).below))

-- the changes of neighbouring words are changes in a wider range
wider : (bound n lo hi lo' hi' : ℕ) (changes : List WordChange) → lo' ≤ lo → hi ≤ hi' → All (IsChangeIn bound n lo hi) changes
    → All (IsChangeIn bound n lo' hi') changes
wider bound n lo hi lo' hi' changes le le' each i d lt =
    let here = each i d lt in
    record {
      ray = here.ray;
      from = omega (arith, here.from);
      below = omega (arith, here.below);
      sure = here.sure;
      possible = here.possible;
    }

few_if : (t : Bool) (change : WordChange) → length (if t then [] else change ∷ []) ≤ 1
few_if true change = omega arith
few_if false change = omega arith

few_noted : (n k : ℕ) (delta : WordDelta) → length (noted n k delta) ≤ 1
few_noted n k delta = few_if (is_same delta) (change_at n k delta)

-- what is marked in one word
pub one_word : (d : Sets) (sure possible : ℕ → Bool) (rapid : Bool) (n k : ℕ) (delta : WordDelta) (counts : Counts)
    → IsWordMarked d sure possible rapid k delta counts → AreWordsMarked d sure possible rapid n k (k + 1) (noted n k delta) counts
one_word d sure possible rapid n k delta counts h = record {
  new_sure = λ l ge lt within.
      let at : 64 * k + l % 64 ≡ l = omega arith in
      noted_here sure_of n k delta l (omega arith) (λ e. eqb-true delta.sure 0 (and_parts (eqb delta.sure 0) (eqb delta.possible 0) e).0)
      ∙ h.new_sure (l % 64) (omega arith) (omega arith)
      ∙ ap (λ j. has d.stock j && (sure j && not (has d.sure j))) at;
  new_possible = λ l ge lt within.
      let at : 64 * k + l % 64 ≡ l = omega arith in
      noted_here possible_of n k delta l (omega arith)
      (λ e. eqb-true delta.possible 0 (and_parts (eqb delta.sure 0) (eqb delta.possible 0) e).1)
      ∙ h.new_possible (l % 64) (omega arith) (omega arith)
      ∙ ap (λ j. has d.stock j && (possible j && not (has d.possible j))) at;
  each =
      all_noted (IsChangeIn (length d.stock) n k (k + 1)) n k delta
      record { ray = refl; from = omega arith; below = omega arith; sure = h.sure_below; possible = h.possible_below };
  order = order_few (noted n k delta) (few_noted n k delta);
  found =
      h.found
      ∙ ap (λ m. findings (seen_on d sure possible rapid) (range_with_len (64 * k) m)) (let e : 64 ≡ 64 * (k + 1 - k) = omega arith in e);
}

-- what is marked in some words and in those that follow them
module _ (d : Sets) (sure possible : ℕ → Bool) (rapid : Bool) (n lo mid hi : ℕ) (xs ys : List WordChange) (counts more : Counts)
    (le : lo ≤ mid) (le' : mid ≤ hi) (h : AreWordsMarked d sure possible rapid n lo mid xs counts)
    (next : AreWordsMarked d sure possible rapid n mid hi ys more) where
  -- the changes of the first have none of the indices of the others, nor these of theirs
  among_before : (pick : WordChange → ℕ) (l : ℕ) → l < 64 * mid → among pick (xs ++ ys) n l ≡ among pick xs n l
  among_before pick l lt =
      among_append pick xs ys n l
      ∙ ap (λ t. among pick xs n l || t) (beside pick (length d.stock) n mid hi l ys next.each (λ k ge less e. omega (arith, e)))
      ∙ or_false (among pick xs n l)

  among_behind : (pick : WordChange → ℕ) (l : ℕ) → 64 * mid ≤ l → among pick (xs ++ ys) n l ≡ among pick ys n l
  among_behind pick l ge =
      among_append pick xs ys n l
      ∙ ap (λ t. t || among pick ys n l) (beside pick (length d.stock) n lo mid l xs h.each (λ k ge' less e. omega (arith, e)))

  pub words_join : AreWordsMarked d sure possible rapid n lo hi (xs ++ ys) (plus counts more)
  words_join = record {
    new_sure = λ l ge lt within.
        ⊎_elim (λ (less : l < 64 * mid). among_before sure_of l less ∙ h.new_sure l ge less within)
        (λ (from : 64 * mid ≤ l). among_behind sure_of l from ∙ next.new_sure l from lt within) (cases_lt l (64 * mid));
    new_possible = λ l ge lt within.
        ⊎_elim (λ (less : l < 64 * mid). among_before possible_of l less ∙ h.new_possible l ge less within)
        (λ (from : 64 * mid ≤ l). among_behind possible_of l from ∙ next.new_possible l from lt within) (cases_lt l (64 * mid));
    each =
        All-append (IsChangeIn (length d.stock) n lo hi) xs ys (wider (length d.stock) n lo mid lo hi xs (omega arith) le' h.each)
        (wider (length d.stock) n mid hi lo hi ys le (omega arith) next.each);
    order =
        order_append xs ys h.order next.order
        (λ i k d' lt lt'.
        let first = h.each i d' lt in
        let last = next.each k d' lt' in
        ahead_by_word (get_or xs i d') (get_or ys k d') (first.ray ∙ sym last.ray) (omega (arith, first.below, last.from)));
    found =
        ap₂ plus h.found next.found
        ∙ sym (found_split (seen_on d sure possible rapid) (64 * lo) (64 * (mid - lo)) (64 * (hi - mid)) (64 * mid) (omega arith))
        ∙ ap (λ m. findings (seen_on d sure possible rapid) (range_with_len (64 * lo) m))
        (let e : 64 * (mid - lo) + 64 * (hi - mid) ≡ 64 * (hi - lo) = omega arith in e);
  }

-- where nothing is taken in, nothing is added
pub adds_none : (m : MoveChanges) (fact : List WordChange → Counts → Type 0) → fact [] no_counts → Adds m m fact
adds_none m fact holds = record {
  added = [];
  found = no_counts;
  joined = sym (append-nil m.changes.items);
  summed = sym (plus_none m.counts);
  holds = holds;
}

-- what is added twice, word by word
pub adds_words : (d : Sets) (sure possible : ℕ → Bool) (rapid : Bool) (n lo mid hi : ℕ) (before between after : MoveChanges) → lo ≤ mid → mid ≤ hi
    → Adds before between (λ added found. AreWordsMarked d sure possible rapid n lo mid added found)
    → Adds between after (λ added found. AreWordsMarked d sure possible rapid n mid hi added found)
    → Adds before after (λ added found. AreWordsMarked d sure possible rapid n lo hi added found)
adds_words d sure possible rapid n lo mid hi before between after le le' h next = record {
  added = h.added ++ next.added;
  found = plus h.found next.found;
  joined =
      next.joined ∙ ap (λ l. l ++ next.added) h.joined ∙ append_assoc before.changes.items h.added next.added;
  summed = next.summed ∙ ap (λ c. plus c next.found) h.summed ∙ plus_apart before.counts h.found next.found;
  holds = words_join d sure possible rapid n lo mid hi h.added next.added h.found next.found le le' h.holds next.holds;
}

-- what is found on the words of a ray is far less than 64 bits hold
pub room_left : (d : Sets) (sure possible : ℕ → Bool) (rapid : Bool) (n lo k : ℕ) (before between : MoveChanges) → 64 * k < 2 ^ 32
    → CanCount (2 ^ 33) before.counts
    → Adds before between (λ added found. AreWordsMarked d sure possible rapid n lo k added found) → CanCount 64 between.counts
room_left d sure possible rapid n lo k before between lt room h =
    let see = seen_on d sure possible rapid in
    let span = 64 * (k - lo) in
    let found : AreWithin span h.found = subst (λ (c : Counts). AreWithin span c) (sym h.holds.found)
    (found_within see (64 * lo) span span (omega arith)) in
    subst (λ (c : Counts). CanCount 64 c) (sym h.summed)
    (within_more (most_count - 2 ^ 33 + span) (most_count - 64) (plus before.counts h.found) (omega arith)
    (within_both (most_count - 2 ^ 33) span before.counts h.found room found))
