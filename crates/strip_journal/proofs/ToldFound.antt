-- What a strip returns of the moves that are left is what its journal has at the places of its line.
use Rattle.std.proofs.Common.{◌≡◌, ℕ, ◌<◌, ◌≤◌, List, length, map, take, get_or, slice_get, slice_index, Some, arith, sym, ap, ◌∙◌, subst}
use Rattle.std.proofs.lemmas.List.{get_or-map, get_or-take, length-map, length-take-le, take-map, take-take}
use Rattle.std.proofs.lemmas.Option.{slice_get-get_or}
use Rattle.edit_plan.specs.declared.edit.Edit.{Edit}
use Rattle.edit_plan.specs.Edits.{left_at}
use Rattle.edit_history.specs.Histories.{History, history_at, move_of}
use Rattle.edit_history.proofs.HistoryChain.{left_before}
use Rattle.edit_history.proofs.HistoryLists.{left_is_history}
use Rattle.edit_history.proofs.HistoryOrder.{at_within}
use Rattle.job_counts.specs.declared.counts.Counts.{Counts}
use Rattle.job_model.specs.Findings.{found_over}
use Rattle.job_model.specs.Points.{left_moves, moves_of, strip_points}
use Rattle.job_model.specs.Tasks.{JobMove}
use Rattle.strip_plan.specs.Plans.{HasNumber}
use Rattle.strip_journal.specs.declared.journal.Journal.{Journal}
use Rattle.strip_journal.specs.Found.{AddsLeft, IsFoundBy}
use Rattle.strip_journal.specs.Journals.{IsJournal, job_of}
use Rattle.strip_journal.specs.Strips.{AddsFound, IsFoundAt, StripOf}

-- the strip that callers see of a journal
abbrev pub strip_of : Journal → StripOf
strip_of j = record { job = job_of j; number = j.number; done = j.done }

-- as many moves are left as the line says
pub left_many : (edits : List Edit) (v : ℕ) → length (left_at edits v) ≡ (history_at edits v).at
left_many edits v =
    let line = history_at edits v in
    ap length (left_is_history edits v)
    ∙ length-map (take line.at line.numbers) (move_of edits)
    ∙ length-take-le line.at line.numbers (at_within edits v)

pub left_told : (j : Journal) (s : StripOf) → IsJournal (job_of j) j → strip_of j ≡ s → j.at ≡ length (left_at s.job.plan.edits s.done)
left_told j s h is =
    ap (λ (line : History). line.at) h.line
    ∙ sym (left_many (job_of j).plan.edits j.done)
    ∙ ap (λ (t : StripOf). length (left_at t.job.plan.edits t.done)) is

-- the k-th of the moves that are left is that of the k-th edit of a line, and before that edit those before it were left
pub record IsLeftAs (edits : List Edit) (done : ℕ) (numbers : List ℕ) (k : ℕ) : Type 0 where
  pub there : slice_get (left_at edits done) k ≡ Some (move_of edits (slice_index numbers k))
  pub ahead : left_at edits (slice_index numbers k) ≡ take k (left_at edits done)

pub left_as : (edits : List Edit) (v k : ℕ) → k < (history_at edits v).at → IsLeftAs edits v (history_at edits v).numbers k
left_as edits v k low =
    let line = history_at edits v in
    let kept : List ℕ = take line.at line.numbers in
    let many = left_many edits v in
    let within = at_within edits v in
    let size = length-take-le line.at line.numbers within in
    let item : get_or (left_at edits v) k 0 ≡ move_of edits (slice_index line.numbers k) =
    ap (λ (l : List ℕ). get_or l k 0) (left_is_history edits v)
    ∙ get_or-map (move_of edits) kept k 0 0 (omega (arith, size, low))
    ∙ ap (move_of edits) (get_or-take line.at line.numbers k 0 low) in
    let part : take k (left_at edits v) ≡ map (move_of edits) (take k line.numbers) =
    ap (take k) (left_is_history edits v)
    ∙ take-map (move_of edits) k kept
    ∙ ap (map (move_of edits)) (take-take k line.at line.numbers (omega (arith, low))) in
    record {
      there = slice_get-get_or (left_at edits v) k 0 (omega (arith, many, low)) ∙ ap Some item;
      ahead = left_before edits v k (omega (arith, low, within)) ∙ sym part;
    }

-- so it is of the line that a journal keeps
pub left_as_kept : (j : Journal) (k : ℕ) → IsJournal (job_of j) j → k < j.at → IsLeftAs (job_of j).plan.edits j.done j.line k
left_as_kept j k h low =
    let edits = (job_of j).plan.edits in
    subst (λ (line : History). k < line.at → IsLeftAs edits j.done line.numbers k) (sym h.line) (left_as edits j.done k) low

-- what a move finds by the moves left before an edit, and by those left before it now
abbrev found_with : Journal → List JobMove → JobMove → Counts
found_with j moves move = found_over (job_of j) (strip_points (job_of j).plan.grid j.number) moves move

same_ahead : (j : Journal) (k : ℕ) (move : JobMove) → IsLeftAs (job_of j).plan.edits j.done j.line k
    → found_with j (left_moves (job_of j).plan (slice_index j.line k)) move
    ≡ found_with j (moves_of (job_of j).plan (take k (left_at (job_of j).plan.edits j.done))) move
same_ahead j k move left = ap (λ (numbers : List ℕ). found_with j (moves_of (job_of j).plan numbers) move) left.ahead

some_same : (a b : ℕ) → Some a ≡ Some b → a ≡ b
some_same a b e = cc

-- what the k-th edit of the line found is what the k-th of the moves that are left finds
found_at_place : (j : Journal) (k : ℕ) (counts : Counts) → IsJournal (job_of j) j → k < j.at → IsFoundBy j k counts
    → IsFoundAt (strip_of j) k counts
found_at_place j k counts h low found = record {
  is = λ number move there named.
      let left = left_as_kept j k h low in
      let same : number ≡ move_of (job_of j).plan.edits (slice_index j.line k) = some_same _ _ (sym there ∙ left.there) in
      found.is move (subst (λ (n : ℕ). HasNumber (job_of j).plan n move) same named) ∙ same_ahead j k move left;
}

found_by_place : (j : Journal) (k : ℕ) (counts : Counts) → IsJournal (job_of j) j → k < j.at → IsFoundAt (strip_of j) k counts
    → IsFoundBy j k counts
found_by_place j k counts h low found = record {
  is = λ move named.
      let left = left_as_kept j k h low in
      found.is (move_of (job_of j).plan.edits (slice_index j.line k)) move left.there named ∙ sym (same_ahead j k move left);
}

-- a place among the moves that are left is one of the line
pub stands_told : (j : Journal) (s : StripOf) (k : ℕ) → IsJournal (job_of j) j → strip_of j ≡ s
    → k < length (left_at s.job.plan.edits s.done) → k < length j.line
stands_told j s k h is low =
    let many = left_told j s h is in
    let within : j.at ≤ length j.line =
    subst (λ (line : History). line.at ≤ length line.numbers) (sym h.line) (at_within (job_of j).plan.edits j.done) in
    omega (arith, many, within, low)

pub found_told : (j : Journal) (s : StripOf) (k : ℕ) (counts : Counts) → IsJournal (job_of j) j → strip_of j ≡ s
    → k < length (left_at s.job.plan.edits s.done) → IsFoundBy j k counts → IsFoundAt s k counts
found_told j s k counts h is low found =
    let many = left_told j s h is in
    subst (λ (t : StripOf). IsFoundAt t k counts) is (found_at_place j k counts h (omega (arith, many, low)) found)

-- what is added for the edits of the line is added for the moves that are left
pub adds_told : (j : Journal) (s : StripOf) (before after : List Counts) → IsJournal (job_of j) j → strip_of j ≡ s
    → length before ≡ length (left_at s.job.plan.edits s.done) → AddsLeft j before after → AddsFound s before after
adds_told j s before after h is many adds =
    let at = left_told j s h is in
    record {
      many = adds.many;
      each = λ k found low told.
          adds.each k found low
          (found_by_place j k found h (omega (arith, at, many, low)) (subst (λ (t : StripOf). IsFoundAt t k found) (sym is) told));
    }
