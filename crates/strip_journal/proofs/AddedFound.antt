-- What is added to the counts of the moves that are left, entry by entry.
use Rattle.std.proofs.Common.{◌≡◌, ℕ, zero, suc, ◌+◌, ◌-◌, ◌^◌, ◌<◌, ◌⊎◌, ◌≢◌, inl, inr, All, List, length, slice_index, slice_set, add-zero, arith, refl, sym, ap, ◌∙◌, subst, ⊎_elim}
use Rattle.std.proofs.lemmas.Bool.{cases_eq}
use Rattle.std.proofs.lemmas.List.{get_or-set_other, get_or-set_same, length-set}
use native.Mathlib.Decide.{dec_le}
use mathlib.Core.Logic.{dite}
use Rattle.job_counts.specs.declared.counts.Counts.{Counts}
use Rattle.job_counts.specs.Counts.{AreWithin, most_count, no_counts, plus}
use Rattle.strip_journal.specs.declared.entry.Entry.{Entry}
use Rattle.strip_journal.specs.declared.journal.Journal.{Journal}
use Rattle.strip_journal.specs.Entries.{HasNo, counts_of_hits, edit_at, entry_at, possible_ahead, removed_ahead}
use Rattle.strip_journal.specs.Found.{AddsAhead, AddsEntry, AddsLeft, HasRoomAt, IsFoundBy, count_at}
use Rattle.strip_journal.specs.Journals.{IsJournal, job_of}
use Rattle.strip_journal.specs.Strips.{most_before}
use Rattle.strip_journal.proofs.FoundIs.{AheadWithin, ahead_within, found_is, found_none}
use Rattle.strip_journal.proofs.LeftPlaces.{found_same, found_within, left_few, line_once}

-- what a strip has has room on top of such counts
pub room_for : (before found : Counts) → AreWithin most_before before → AreWithin (2 ^ 32 - 1) found
    → AreWithin most_count (plus before found)
room_for before found room few = record {
  removed = omega (arith, room.removed, few.removed);
  possible = omega (arith, room.possible, few.possible);
  part_sure = omega (arith, room.part_sure, few.part_sure);
  part_possible = omega (arith, room.part_possible, few.part_possible);
  fix_sure = omega (arith, room.fix_sure, few.fix_sure);
  fix_possible = omega (arith, room.fix_possible, few.fix_possible);
  rapid_sure = omega (arith, room.rapid_sure, few.rapid_sure);
  rapid_possible = omega (arith, room.rapid_possible, few.rapid_possible);
}

-- the count at the place of the entry's edit, with what it found, is added; the others stay
pub entry_added : (j : Journal) (place k : ℕ) (before : List Counts) (found : Counts) → IsJournal (job_of j) j → length before ≡ j.at
    → k < j.at → slice_index j.line k ≡ edit_at j.entries.items place → IsFoundBy j k found
    → AddsEntry j place before (slice_set before k (plus (count_at before k) found))
entry_added j place k before found h many low there is = record {
  many = length-set before k (plus (count_at before k) found);
  its = λ m other few same also.
      let most = left_few j h in
      let here : k ≡ m = line_once j k m h (omega (arith, low, most)) (omega (arith, few, many, most)) (there ∙ sym same) in
      let equal : found ≡ other =
      found_same j k found other h (omega (arith, low, most)) is (subst (λ (n : ℕ). IsFoundBy j n other) (sym here) also) in
      subst (λ (n : ℕ). count_at (slice_set before k (plus (count_at before k) found)) n ≡ plus (count_at before n) other) here
      (get_or-set_same before k (plus (count_at before k) found) no_counts (omega (arith, low, many))
      ∙ ap (plus (count_at before k)) equal);
  others = λ m few other.
      get_or-set_other before k m (plus (count_at before k) found) no_counts
      (λ same. other (ap (slice_index j.line) same ∙ there));
}

-- the entry at a place is of the k-th of the edits that are left
pub record IsOfLeft (j : Journal) (place k : ℕ) : Type 0 where
  pub within : place < length j.entries.items
  pub left : k < j.at
  pub same : slice_index j.line k ≡ edit_at j.entries.items place

-- as where its edit was read
pub of_left : (j : Journal) (place k edit : ℕ) → place < length j.entries.items → edit ≡ edit_at j.entries.items place → k < j.at
    → slice_index j.line k ≡ edit → IsOfLeft j place k
of_left j place k edit within is left same = record { within = within; left = left; same = same ∙ is }

-- what the entry says
abbrev pub told : Journal → ℕ → Counts
told j place =
    counts_of_hits (entry_at j.entries.items place).hits
    ((entry_at j.entries.items place).removed - removed_ahead j.entries.items place)
    ((entry_at j.entries.items place).possible - possible_ahead j.entries.items place)

-- the totals have risen to what it keeps
pub left_rise : (j : Journal) (place k : ℕ) → IsJournal (job_of j) j → IsOfLeft j place k → AheadWithin j.entries.items place
left_rise j place k h is =
    let most = left_few j h in ahead_within j k place h (let left = is.left in omega (arith, left, most)) is.within (sym is.same)

-- and it says what the edit found
left_tells : (j : Journal) (place k : ℕ) (found : Counts) → IsJournal (job_of j) j → IsOfLeft j place k → found ≡ told j place
    → IsFoundBy j k found
left_tells j place k found h is tells =
    let most = left_few j h in
    subst (λ (counts : Counts). IsFoundBy j k counts) (sym tells)
    (found_is j k place h (let left = is.left in omega (arith, left, most)) is.within (sym is.same))

-- there is room for it
pub left_room : (j : Journal) (place k : ℕ) (before : List Counts) (found : Counts) → IsJournal (job_of j) j → IsOfLeft j place k
    → length before ≡ j.at → HasRoomAt j place before → found ≡ told j place → AreWithin most_count (plus (count_at before k) found)
left_room j place k before found h is many room tells =
    let most = left_few j h in
    let left = is.left in
    room_for (count_at before k) found (room.each k (omega (arith, left, many)) is.same)
    (found_within j k found h (omega (arith, left, most)) (left_tells j place k found h is tells))

-- and it is added
pub left_added : (j : Journal) (place k : ℕ) (before : List Counts) (found sum : Counts) → IsJournal (job_of j) j → IsOfLeft j place k
    → length before ≡ j.at → found ≡ told j place → sum ≡ plus (count_at before k) found → AddsEntry j place before (slice_set before k sum)
left_added j place k before found sum h is many tells sums =
    subst (λ (counts : Counts). AddsEntry j place before (slice_set before k counts)) (sym sums)
    (entry_added j place k before found h many is.left is.same (left_tells j place k found h is tells))

-- before the first entry nothing is added
pub first_added : (j : Journal) (counts : List Counts) → AddsAhead j 0 counts counts
first_added j counts = record {
  many = refl;
  its = λ k i found few low is. absurd (omega (arith, low));
  others = λ k few none. refl;
}

-- no entry before a place is of its edit
none_ahead : (j : Journal) (place i number : ℕ) → IsJournal (job_of j) j → place < length j.entries.items → i < place
    → edit_at j.entries.items i ≡ number → number ≡ edit_at j.entries.items place → ⊥
none_ahead j place i number h low ahead is same =
    let order = h.kept.ascend.each i place ahead low in omega (arith, order, is, same)

-- so the count of the entry's move has room still
pub room_still : (j : Journal) (place : ℕ) (before after : List Counts) → IsJournal (job_of j) j → place < length j.entries.items
    → All (AreWithin most_before) before → AddsAhead j place before after → HasRoomAt j place after
room_still j place before after h low room added = record {
  each = λ k few same.
      let old : k < length before = omega (arith, few, added.many) in
      subst (λ (counts : Counts). AreWithin most_before counts)
      (sym (added.others k old (λ i ahead is. none_ahead j place i (slice_index j.line k) h low ahead is same)))
      (room k no_counts old);
}

-- and after it one entry more is added
pub more_added : (j : Journal) (place : ℕ) (before after next : List Counts) → IsJournal (job_of j) j → place < length j.entries.items
    → AddsAhead j place before after → AddsEntry j place after next → AddsAhead j (place + 1) before next
more_added j place before after next h low added more = record {
  many = more.many ∙ added.many;
  its = λ k i found few ahead is that.
      let new : k < length after = omega (arith, few, added.many) in
      dite (dec_le place i)
      (λ last.
      let same : slice_index j.line k ≡ edit_at j.entries.items place =
      sym is ∙ (let here : i ≡ place = omega (arith, ahead, last) in ap (edit_at j.entries.items) here) in
      more.its k found new same that
      ∙ ap (λ (counts : Counts). plus counts found)
      (added.others k few (λ m sooner also. none_ahead j place m (slice_index j.line k) h low sooner also same)))
      (λ sooner.
      more.others k new (λ same. none_ahead j place i (slice_index j.line k) h low (omega (arith, sooner)) is same)
      ∙ added.its k i found few (omega (arith, sooner)) is that);
  others = λ k few none.
      more.others k (omega (arith, few, added.many)) (λ same. none place (omega arith) (sym same))
      ∙ added.others k few (λ i ahead is. none i (omega (arith, ahead)) is);
}

-- an entry before a place is of an edit
record HasEntry (entries : List Entry) (edit n : ℕ) : Type 0 where
  pub place : ℕ
  pub low : place < n
  pub is : edit_at entries place ≡ edit

-- one is, or none is
entry_or_none : (entries : List Entry) (edit n : ℕ)
    → HasEntry entries edit n ⊎ ((i : ℕ) → i < n → edit_at entries i ≡ edit → ⊥)
entry_or_none entries edit zero = inr (λ i low is. omega (arith, low))
entry_or_none entries edit (suc n) =
    ⊎_elim
    (λ (here : edit_at entries n ≡ edit). inl record { place = n; low = omega arith; is = here })
    (λ (other : edit_at entries n ≢ edit).
    ⊎_elim
    (λ (there : HasEntry entries edit n).
    inl record { place = there.place; low = let low = there.low in omega (arith, low); is = there.is })
    (λ (none : (i : ℕ) → i < n → edit_at entries i ≡ edit → ⊥).
    inr (λ i low is.
    dite (dec_le n i)
    (λ last. other (let same : n ≡ i = omega (arith, low, last) in ap (edit_at entries) same ∙ is))
    (λ sooner. none i (omega (arith, sooner)) is)))
    (entry_or_none entries edit n))
    (cases_eq (edit_at entries n) edit)

-- nothing more is what it was
plus_none : (counts : Counts) → plus counts no_counts ≡ counts
plus_none counts = simp add-zero

-- after the last entry all is added
pub all_added : (j : Journal) (before after : List Counts) → IsJournal (job_of j) j → length before ≡ j.at
    → AddsAhead j (length j.entries.items) before after → AddsLeft j before after
all_added j before after h many added = record {
  many = added.many;
  each = λ k found few is.
      let edit = slice_index j.line k in
      let low : k < length j.line = let most = left_few j h in omega (arith, few, many, most) in
      ⊎_elim
      (λ (there : HasEntry j.entries.items edit (length j.entries.items)). added.its k there.place found few there.low there.is is)
      (λ (none : HasNo j.entries.items edit).
      added.others k few none
      ∙ sym (plus_none (count_at before k))
      ∙ ap (plus (count_at before k)) (found_same j k no_counts found h low (found_none j k h low none) is))
      (entry_or_none j.entries.items edit (length j.entries.items));
}
