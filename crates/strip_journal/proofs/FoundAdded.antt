-- What the edits of the line found, after one edit more.
use Rattle.std.proofs.Common.{◌≡◌, ℕ, ◌<◌, ◌≤◌, false, List, [], ◌∷◌, ◌++◌, length, take, slice_index, arith, sym, subst}
use native.Mathlib.Decide.{dec_le}
use mathlib.Core.Logic.{dite}
use Rattle.edit_history.specs.Histories.{move_of}
use Rattle.edit_history.proofs.HistoryOrder.{added_pushed, kept_pushed, length_pushed}
use Rattle.job_counts.specs.Counts.{no_counts}
use Rattle.job_model.specs.Tasks.{Job, JobMove}
use Rattle.strip_plan.specs.Plans.{HasNumber}
use Rattle.strip_journal.specs.declared.entry.Entry.{Entry}
use Rattle.strip_journal.specs.Entries.{HasNo, edit_at, entry_at, hits_of}
use Rattle.strip_journal.specs.Journals.{AreFound, found_at}
use Rattle.strip_journal.proofs.EntryAdded.{each_entry}
use Rattle.strip_journal.proofs.Noting.{none_before, not_noted}

-- an entry has what the move of an edit finds, if it is that of the edit
pub record Tells (job : Job) (strip u : ℕ) (e : Entry) : Type 0 where
  pub applies : e.edit ≡ u → e.is_undo ≡ false
  pub hits : (move : JobMove) → e.edit ≡ u → HasNumber job.plan (move_of job.plan.edits u) move
      → e.hits ≡ hits_of (found_at job strip u move)

-- what is found by one edit
pub record IsFoundFor (job : Job) (strip : ℕ) (entries : List Entry) (u : ℕ) : Type 0 where
  pub tells : (i : ℕ) → i < length entries → Tells job strip u (entry_at entries i)
  pub none : (move : JobMove) → HasNo entries u → HasNumber job.plan (move_of job.plan.edits u) move
      → found_at job strip u move ≡ no_counts

-- of each edit of the line
pub found_each : (job : Job) (strip : ℕ) (line : List ℕ) (entries : List Entry) → AreFound job strip line entries → (k : ℕ)
    → k < length line → IsFoundFor job strip entries (slice_index line k)
found_each job strip line entries found k low = record {
  tells = λ i within. record {
    applies = λ is. found.applies k i low within is;
    hits = λ move is named. found.hits k i move low within is named;
  };
  none = λ move none named. found.none k move low none named;
}

pub found_from : (job : Job) (strip : ℕ) (line : List ℕ) (entries : List Entry)
    → ((k : ℕ) → k < length line → IsFoundFor job strip entries (slice_index line k)) → AreFound job strip line entries
found_from job strip line entries each = record {
  applies = λ k i low within is. ((each k low).tells i within).applies is;
  hits = λ k i move low within is named. ((each k low).tells i within).hits move is named;
  none = λ k move low none named. (each k low).none move none named;
}

-- an entry of another edit says nothing of this one
tells_not : (job : Job) (strip u : ℕ) (e : Entry) → (e.edit ≡ u → ⊥) → Tells job strip u e
tells_not job strip u e other = record { applies = λ is. absurd (other is); hits = λ move is named. absurd (other is) }

-- the entry of a later edit changes nothing of it
pub found_still : (job : Job) (strip : ℕ) (entries : List Entry) (e : Entry) (u : ℕ) → (e.edit ≡ u → ⊥) → IsFoundFor job strip entries u
    → IsFoundFor job strip (entries ++ e ∷ []) u
found_still job strip entries e u other found = record {
  tells = each_entry (Tells job strip u) entries e found.tells (tells_not job strip u e other);
  none = λ move none named. found.none move (none_before entries e u none) named;
}

-- the new edit, with an entry that has what its move finds
pub found_noted : (job : Job) (strip : ℕ) (entries : List Entry) (e : Entry) (u : ℕ)
    → ((i : ℕ) → i < length entries → edit_at entries i < u) → e.edit ≡ u → Tells job strip u e → IsFoundFor job strip (entries ++ e ∷ []) u
found_noted job strip entries e u early is new = record {
  tells =
      each_entry (Tells job strip u) entries e
      (λ i low. tells_not job strip u (entry_at entries i) (λ same. let before = early i low in omega (arith, before, same))) new;
  none = λ move none named. absurd (not_noted entries e u is none);
}

-- and without one, where it finds nothing
pub found_unnoted : (job : Job) (strip : ℕ) (entries : List Entry) (u : ℕ) → ((i : ℕ) → i < length entries → edit_at entries i < u)
    → ((move : JobMove) → HasNumber job.plan (move_of job.plan.edits u) move → found_at job strip u move ≡ no_counts)
    → IsFoundFor job strip entries u
found_unnoted job strip entries u early none = record {
  tells = λ i low. tells_not job strip u (entry_at entries i) (λ same. let before = early i low in omega (arith, before, same));
  none = λ move no named. none move named;
}

-- what holds of each edit of the line, and of a new one, holds of each that is left and of the new one
pub each_edit : (P : ℕ → Type 0) (line : List ℕ) (at u : ℕ) → at ≤ length line → ((k : ℕ) → k < length line → P (slice_index line k)) → P u
    → (k : ℕ) → k < length (take at line ++ u ∷ []) → P (slice_index (take at line ++ u ∷ []) k)
each_edit P line at u within old new k low =
    let size = length_pushed line at u within in
    dite (dec_le at k)
    (λ last. subst P (sym (added_pushed line at u k within (omega (arith, last, low, size)))) new)
    (λ early.
    let before : k < at = omega (arith, early) in
    subst P (sym (kept_pushed line at u k within before)) (old k (omega (arith, before, within))))
