-- The edits that are left, in the line, and the moves that they applied.
use Rattle.std.proofs.Common.{◌≡◌, ℕ, ◌-◌, ◌^◌, ◌<◌, ◌≤◌, length, get_or, slice_get, slice_index, None, Some, arith, sym, ◌∙◌, subst, ⊎_elim}
use Rattle.vf_spans.specs.Edges.{Ascends}
use Rattle.std.proofs.lemmas.Option.{get_or_from_slice_get, slice_get_cases, slice_get_within}
use native.Mathlib.Decide.{dec_le}
use mathlib.Core.Logic.{dite}
use Rattle.edit_plan.specs.declared.edit.Edit.{Edit}
use Rattle.edit_plan.specs.declared.edit.Edit.TheVariants.{Apply, Undo}
use Rattle.edit_plan.specs.Edits.{AppliesBelow}
use Rattle.edit_history.specs.Histories.{History, move_of}
use Rattle.edit_history.proofs.HistoryOrder.{at_within, numbers_ascend}
use Rattle.job_counts.specs.declared.counts.Counts.{Counts}
use Rattle.job_counts.specs.Counts.{AreWithin}
use Rattle.job_model.specs.Tasks.{JobMove}
use Rattle.strip_plan.specs.Plans.{HasNumber}
use Rattle.strip_journal.specs.declared.journal.Journal.{Journal}
use Rattle.strip_journal.specs.Found.{IsFoundBy}
use Rattle.strip_journal.specs.Journals.{IsJournal, job_of}
use Rattle.strip_journal.proofs.FoundIs.{history_applied}
use Rattle.strip_journal.proofs.KeptParts.{held_of, parts_of}
use Rattle.strip_journal.proofs.StripSizes.{found_few}

-- no more are left than the line has
pub left_few : (j : Journal) → IsJournal (job_of j) j → j.at ≤ length j.line
left_few j h = subst (λ (line : History). line.at ≤ length line.numbers) (sym h.line) (at_within j.plan.value.edits j.done)

-- those of the line do
pub line_ascends : (j : Journal) → IsJournal (job_of j) j → Ascends j.line
line_ascends j h =
    subst (λ (line : History). Ascends line.numbers) (sym h.line) (numbers_ascend j.plan.value.edits j.done)

-- so an edit is at one place of the line
pub line_once : (j : Journal) (k m : ℕ) → IsJournal (job_of j) j → k < length j.line → m < length j.line
    → slice_index j.line k ≡ slice_index j.line m → k ≡ m
line_once j k m h low few same =
    dite (dec_le k m)
    (λ up.
    dite (dec_le m k) (λ down. omega (arith, up, down))
    (λ less. let order = line_ascends j h k m (omega (arith, less)) few in absurd (omega (arith, order, same))))
    (λ more. let order = line_ascends j h m k (omega (arith, more)) low in absurd (omega (arith, order, same)))

-- the move of an edit of the line
pub record HasMove (j : Journal) (k : ℕ) : Type 0 where
  pub move : JobMove
  pub numbered : HasNumber j.plan.value (move_of j.plan.value.edits (slice_index j.line k)) move

-- each has one
line_move : (j : Journal) (k : ℕ) → IsJournal (job_of j) j → k < length j.line → HasMove j k
line_move j k h low =
    let edits = j.plan.value.edits in
    let u = slice_index j.line k in
    let number = move_of edits u in
    let applied = history_applied (job_of j) (parts_of j) k (held_of (job_of j) j h) low in
    let among = slice_get_within edits u (Apply number) applied in
    let below : number < length j.plan.value.moves =
    subst (λ (edit : Edit). AppliesBelow (length j.plan.value.moves) edit) (get_or_from_slice_get edits u (Apply number) Undo applied)
    (h.named u Undo among) in
    ⊎_elim
    (λ (there : (move : JobMove) × (number < length j.plan.value.moves) × (slice_get j.plan.value.moves number ≡ Some move)
    × (get_or j.plan.value.moves number move ≡ move)).
    let one : HasMove j k = record { move = there.0; numbered = there.2 } in one)
    (λ (past : (length j.plan.value.moves ≤ number) × (slice_get j.plan.value.moves number ≡ None)).
    let none : HasMove j k = absurd (omega (arith, below, past.0)) in none)
    (slice_get_cases j.plan.value.moves number).1

-- so two counts of what it found are the same
pub found_same : (j : Journal) (k : ℕ) (a b : Counts) → IsJournal (job_of j) j → k < length j.line → IsFoundBy j k a → IsFoundBy j k b
    → a ≡ b
found_same j k a b h low first second =
    let one = line_move j k h low in first.is one.move one.numbered ∙ sym (second.is one.move one.numbered)

-- and no number among them is above what 32 bits hold
pub found_within : (j : Journal) (k : ℕ) (found : Counts) → IsJournal (job_of j) j → k < length j.line → IsFoundBy j k found
    → AreWithin (2 ^ 32 - 1) found
found_within j k found h low is =
    let one = line_move j k h low in
    subst (λ (counts : Counts). AreWithin (2 ^ 32 - 1) counts) (sym (is.is one.move one.numbered))
    (found_few (job_of j) j.number (slice_index j.line k) one.move h.grid h.strip)
