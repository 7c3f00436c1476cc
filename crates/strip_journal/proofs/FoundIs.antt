-- What an edit of the line found is what its entry has, with what the totals rose by.
use Rattle.std.proofs.Common.{◌≡◌, ℕ, ◌+◌, ◌-◌, ◌<◌, ◌≤◌, true, List, [], ◌∷◌, ◌++◌, length, get_or, take, drop, append-nil, slice_get, slice_index, Some, None, arith, refl, sym, ap, ◌∙◌, subst, ⊎_elim}
use Rattle.std.proofs.lemmas.Grind.{flat_map-append}
use Rattle.std.proofs.lemmas.List.{drop_all}
use Rattle.std.proofs.lemmas.Option.{slice_get_cases}
use Rattle.edit_plan.specs.declared.edit.Edit.TheVariants.{Apply}
use Rattle.edit_plan.specs.Edits.{left_at}
use Rattle.edit_history.specs.Histories.{History, move_of}
use Rattle.edit_history.proofs.HistoryChain.{history_applies, left_applied}
use Rattle.job_counts.specs.declared.counts.Counts.{Counts}
use Rattle.job_counts.specs.Counts.{no_counts}
use Rattle.job_model.specs.Points.{left_moves, moves_of, strip_points, totals_over}
use Rattle.job_model.specs.Tasks.{Job, JobMove, PlanOf}
use Rattle.strip_plan.specs.Plans.{HasNumber}
use Rattle.strip_journal.specs.declared.entry.Entry.{Entry}
use Rattle.strip_journal.specs.declared.journal.Journal.{Journal}
use Rattle.strip_journal.specs.Entries.{HasNo, counts_of_hits, edit_at, entry_at, hits_of, possible_ahead, removed_ahead}
use Rattle.strip_journal.specs.Found.{IsFoundBy}
use Rattle.strip_journal.specs.Journals.{IsJournal, found_at, job_of}
use Rattle.strip_journal.proofs.Ahead.{possible_ahead_is, possible_by, removed_ahead_is, removed_by}
use Rattle.strip_journal.proofs.KeptParts.{IsHeld, Parts, held_of, parts_of}
use Rattle.strip_journal.proofs.MovesLeft.{moves_more}
use Rattle.strip_journal.proofs.PointTotals.{possible_more, removed_more}
use Rattle.strip_journal.proofs.Turned.{place_there}

-- each edit of the line applied a move
pub history_applied : (job : Job) (p : Parts) (k : ℕ) → IsHeld job p → k < length p.line
    → slice_get job.plan.edits (slice_index p.line k) ≡ Some (Apply (move_of job.plan.edits (slice_index p.line k)))
history_applied job p k h low =
    subst
    (λ (line : History). (i : ℕ) → i < length line.numbers
    → slice_get job.plan.edits (slice_index line.numbers i) ≡ Some (Apply (move_of job.plan.edits (slice_index line.numbers i))))
    (sym h.line) (history_applies job.plan.edits p.done) k low

-- the totals after it are those before it and what its move found
removed_found : (job : Job) (p : Parts) (k : ℕ) (move : JobMove) → IsHeld job p → k < length p.line
    → HasNumber job.plan (move_of job.plan.edits (slice_index p.line k)) move
    → removed_by job p.number (slice_index p.line k + 1)
    ≡ removed_by job p.number (slice_index p.line k) + (found_at job p.number (slice_index p.line k) move).removed
removed_found job p k move h low number =
    ap (λ moves. (totals_over job (strip_points job.plan.grid p.number) moves).removed)
    (moves_more job.plan (slice_index p.line k) _ move (history_applied job p k h low) number)
    ∙ removed_more job (strip_points job.plan.grid p.number) (left_moves job.plan (slice_index p.line k)) move

possible_found : (job : Job) (p : Parts) (k : ℕ) (move : JobMove) → IsHeld job p → k < length p.line
    → HasNumber job.plan (move_of job.plan.edits (slice_index p.line k)) move
    → possible_by job p.number (slice_index p.line k + 1)
    ≡ possible_by job p.number (slice_index p.line k) + (found_at job p.number (slice_index p.line k) move).possible
possible_found job p k move h low number =
    ap (λ moves. (totals_over job (strip_points job.plan.grid p.number) moves).possible)
    (moves_more job.plan (slice_index p.line k) _ move (history_applied job p k h low) number)
    ∙ possible_more job (strip_points job.plan.grid p.number) (left_moves job.plan (slice_index p.line k)) move

-- the totals that are kept before its entry, and in it
pub record HasEntryTotals (job : Job) (p : Parts) (u place : ℕ) : Type 0 where
  pub removed_before : removed_ahead p.entries place ≡ removed_by job p.number u
  pub removed_after : (entry_at p.entries place).removed ≡ removed_by job p.number (u + 1)
  pub possible_before : possible_ahead p.entries place ≡ possible_by job p.number u
  pub possible_after : (entry_at p.entries place).possible ≡ possible_by job p.number (u + 1)

pub entry_totals : (job : Job) (p : Parts) (u place : ℕ) → IsHeld job p → place < length p.entries → edit_at p.entries place ≡ u
    → HasEntryTotals job p u place
entry_totals job p u place h low is =
    let there = place_there p.entries _ p.done true u place h.kept low is in
    let early = h.kept.early place low in
    let within : u ≤ p.done = omega (arith, early, is) in
    record {
      removed_before = removed_ahead_is job p u place h there within;
      removed_after = h.totals.removed place low ∙ ap (λ v. removed_by job p.number (v + 1)) is;
      possible_before = possible_ahead_is job p u place h there within;
      possible_after = h.totals.possible place low ∙ ap (λ v. possible_by job p.number (v + 1)) is;
    }

-- a difference of totals is what was found
rise : (before after found ahead behind : ℕ) → ahead ≡ before → behind ≡ after → after ≡ before + found → behind - ahead ≡ found
rise before after found ahead behind first last more = omega (arith, first, last, more)

-- hits with new stock are the counts that they are of
counts_again : (counts : Counts) → counts_of_hits (hits_of counts) counts.removed counts.possible ≡ counts
counts_again counts = refl

-- what an edit of the line with an entry found
pub found_is : (j : Journal) (k place : ℕ) → IsJournal (job_of j) j → k < length j.line → place < length j.entries.items
    → edit_at j.entries.items place ≡ slice_index j.line k
    → IsFoundBy j k (counts_of_hits (entry_at j.entries.items place).hits
    ((entry_at j.entries.items place).removed - removed_ahead j.entries.items place)
    ((entry_at j.entries.items place).possible - possible_ahead j.entries.items place))
found_is j k place h low there is = record {
  is = λ move number.
      let job = job_of j in
      let p = parts_of j in
      let held = held_of job j h in
      let u = slice_index j.line k in
      let e = entry_at j.entries.items place in
      let found = found_at job j.number u move in
      let totals = entry_totals job p u place held there is in
      let removed : e.removed - removed_ahead j.entries.items place ≡ found.removed =
      rise _ _ _ _ _ totals.removed_before totals.removed_after (removed_found job p k move held low number) in
      let possible : e.possible - possible_ahead j.entries.items place ≡ found.possible =
      rise _ _ _ _ _ totals.possible_before totals.possible_after (possible_found job p k move held low number) in
      let hits = h.found.hits k place move low there is number in
      rw (hits, removed, possible) (counts_again found);
}

-- and what one without an entry found
pub found_none : (j : Journal) (k : ℕ) → IsJournal (job_of j) j → k < length j.line
    → HasNo j.entries.items (slice_index j.line k) → IsFoundBy j k no_counts
found_none j k h low none = record { is = λ move number. sym (h.found.none k move low none number) }

-- an edit that names no move of the plan leaves the moves that are left
moves_still : (plan : PlanOf) (v number : ℕ) → slice_get plan.edits v ≡ Some (Apply number) → length plan.moves ≤ number
    → left_moves plan (v + 1) ≡ left_moves plan v
moves_still plan v number applies past =
    ap (moves_of plan) (left_applied plan.edits v number applies)
    ∙ flat_map-append (λ n. take 1 (drop n plan.moves)) (left_at plan.edits v) (number ∷ [])
    ∙ ap (λ (moves : List JobMove). left_moves plan v ++ (take 1 moves ++ [])) (drop_all number plan.moves past)
    ∙ append-nil (left_moves plan v)

-- the totals don't fall at an edit that applies a move
pub record TotalsRise (job : Job) (strip u : ℕ) : Type 0 where
  pub removed : removed_by job strip u ≤ removed_by job strip (u + 1)
  pub possible : possible_by job strip u ≤ possible_by job strip (u + 1)

totals_rise : (job : Job) (p : Parts) (k : ℕ) → IsHeld job p → k < length p.line → TotalsRise job p.number (slice_index p.line k)
totals_rise job p k h low =
    let u = slice_index p.line k in
    let number = move_of job.plan.edits u in
    ⊎_elim
    (λ (there : (move : JobMove) × (number < length job.plan.moves) × (slice_get job.plan.moves number ≡ Some move)
    × (get_or job.plan.moves number move ≡ move)).
    let removed = removed_found job p k there.0 h low there.2 in
    let possible = possible_found job p k there.0 h low there.2 in
    let more : TotalsRise job p.number u = record { removed = omega (arith, removed); possible = omega (arith, possible) } in more)
    (λ (past : (length job.plan.moves ≤ number) × (slice_get job.plan.moves number ≡ None)).
    let same = moves_still job.plan u number (history_applied job p k h low) past.0 in
    let removed = ap (λ moves. (totals_over job (strip_points job.plan.grid p.number) moves).removed) same in
    let possible = ap (λ moves. (totals_over job (strip_points job.plan.grid p.number) moves).possible) same in
    let more : TotalsRise job p.number u = record { removed = omega (arith, removed); possible = omega (arith, possible) } in more)
    (slice_get_cases job.plan.moves number).1

-- so what is kept before the entry of an edit of the line is no more than what is kept in it
pub record AheadWithin (entries : List Entry) (place : ℕ) : Type 0 where
  pub removed : removed_ahead entries place ≤ (entry_at entries place).removed
  pub possible : possible_ahead entries place ≤ (entry_at entries place).possible

pub ahead_within : (j : Journal) (k place : ℕ) → IsJournal (job_of j) j → k < length j.line → place < length j.entries.items
    → edit_at j.entries.items place ≡ slice_index j.line k
    → AheadWithin j.entries.items place
ahead_within j k place h low there is =
    let held = held_of (job_of j) j h in
    let totals = entry_totals (job_of j) (parts_of j) (slice_index j.line k) place held there is in
    let rises = totals_rise (job_of j) (parts_of j) k held low in
    record {
      removed = omega (arith, totals.removed_before, totals.removed_after, rises.removed);
      possible = omega (arith, totals.possible_before, totals.possible_after, rises.possible);
    }
