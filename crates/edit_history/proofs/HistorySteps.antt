-- The line and the moves left after one edit more.
use Rattle.std.proofs.Common.{◌≡◌, ℕ, ◌+◌, ◌-◌, ◌<◌, ◌≤◌, List, [], ◌∷◌, ◌++◌, length, map, take, slice_get, slice_index, Option, Some, arith, sym, ap, ◌∙◌}
use Rattle.edit_plan.specs.declared.edit.Edit.{Edit}
use Rattle.edit_plan.specs.declared.edit.Edit.TheVariants.{Apply, Undo, Redo}
use Rattle.edit_plan.specs.Edits.{left_at}
use Rattle.edit_history.specs.Histories.{History, history_at, move_of, step}
use Rattle.edit_history.proofs.HistoryChain.{left_before, left_behind}
use Rattle.edit_history.proofs.HistoryLists.{left_is_history}
use Rattle.edit_history.proofs.HistoryOrder.{at_within, history_next, redo_forth, redo_none, undo_none}

-- the line after an edit that is known
history_by : (edits : List Edit) (v : ℕ) (o : Option Edit) → slice_get edits v ≡ o → history_at edits (v + 1) ≡ step v o (history_at edits v)
history_by edits v o e = history_next edits v ∙ ap (λ (p : Option Edit). step v p (history_at edits v)) e

-- the line after an Apply, an Undo and a Redo
pub history_applied : (edits : List Edit) (v i : ℕ) → slice_get edits v ≡ Some (Apply i)
    → history_at edits (v + 1)
    ≡ record { numbers = take (history_at edits v).at (history_at edits v).numbers ++ v ∷ []; at = (history_at edits v).at + 1 }
history_applied edits v i e = history_by edits v _ e

pub history_undone : (edits : List Edit) (v : ℕ) → slice_get edits v ≡ Some Undo
    → history_at edits (v + 1) ≡ record { numbers = (history_at edits v).numbers; at = (history_at edits v).at - 1 }
history_undone edits v e = history_by edits v _ e

pub history_redone : (edits : List Edit) (v : ℕ) → slice_get edits v ≡ Some Redo → (history_at edits v).at < length (history_at edits v).numbers
    → history_at edits (v + 1) ≡ record { numbers = (history_at edits v).numbers; at = (history_at edits v).at + 1 }
history_redone edits v e some = history_by edits v _ e ∙ redo_forth v (history_at edits v) some

-- where nothing is left an Undo changes nothing, and where nothing is dropped a Redo does not
pub history_undo_none : (edits : List Edit) (v : ℕ) → slice_get edits v ≡ Some Undo → (history_at edits v).at ≡ 0
    → history_at edits (v + 1) ≡ history_at edits v
history_undo_none edits v e none = history_by edits v _ e ∙ undo_none v (history_at edits v) none

pub history_redo_none : (edits : List Edit) (v : ℕ) → slice_get edits v ≡ Some Redo → length (history_at edits v).numbers ≤ (history_at edits v).at
    → history_at edits (v + 1) ≡ history_at edits v
history_redo_none edits v e none = history_by edits v _ e ∙ redo_none v (history_at edits v) none

-- equal lines leave the same moves
left_of_history : (edits : List Edit) (v : ℕ) (history : History) → history_at edits v ≡ history
    → left_at edits v ≡ map (move_of edits) (take history.at history.numbers)
left_of_history edits v history is = left_is_history edits v ∙ ap (λ (l : History). map (move_of edits) (take l.at l.numbers)) is

-- what is left is what was left after the last edit that is left in the line
pub left_at_last : (edits : List Edit) (v : ℕ) → 0 < (history_at edits v).at
    → left_at edits v ≡ left_at edits (slice_index (history_at edits v).numbers ((history_at edits v).at - 1) + 1)
left_at_last edits v some =
    let same : (history_at edits v).at ≡ (history_at edits v).at - 1 + 1 = omega (arith, some) in
    left_is_history edits v
    ∙ ap (λ n. map (move_of edits) (take n (history_at edits v).numbers)) same
    ∙ sym (left_behind edits v ((history_at edits v).at - 1) (omega (arith, some, at_within edits v)))

-- and what was left before the first that is dropped
pub left_at_next : (edits : List Edit) (v : ℕ) → (history_at edits v).at < length (history_at edits v).numbers
    → left_at edits v ≡ left_at edits (slice_index (history_at edits v).numbers (history_at edits v).at)
left_at_next edits v some = left_is_history edits v ∙ sym (left_before edits v (history_at edits v).at some)

-- an Undo leaves what was left before the last edit that is left in the line
pub left_undone : (edits : List Edit) (v : ℕ) → slice_get edits v ≡ Some Undo → 0 < (history_at edits v).at
    → left_at edits (v + 1) ≡ left_at edits (slice_index (history_at edits v).numbers ((history_at edits v).at - 1))
left_undone edits v e some =
    left_of_history edits (v + 1) _ (history_undone edits v e)
    ∙ sym (left_before edits v ((history_at edits v).at - 1) (omega (arith, some, at_within edits v)))

-- a Redo leaves what was left after the first that is dropped
pub left_redone : (edits : List Edit) (v : ℕ) → slice_get edits v ≡ Some Redo → (history_at edits v).at < length (history_at edits v).numbers
    → left_at edits (v + 1) ≡ left_at edits (slice_index (history_at edits v).numbers (history_at edits v).at + 1)
left_redone edits v e some = left_of_history edits (v + 1) _ (history_redone edits v e some) ∙ sym (left_behind edits v (history_at edits v).at some)

-- where there is nothing to undo or to redo the same moves are left
pub left_undo_none : (edits : List Edit) (v : ℕ) → slice_get edits v ≡ Some Undo → (history_at edits v).at ≡ 0
    → left_at edits (v + 1) ≡ left_at edits v
left_undo_none edits v e none = left_of_history edits (v + 1) _ (history_undo_none edits v e none) ∙ sym (left_is_history edits v)

pub left_redo_none : (edits : List Edit) (v : ℕ) → slice_get edits v ≡ Some Redo → length (history_at edits v).numbers ≤ (history_at edits v).at
    → left_at edits (v + 1) ≡ left_at edits v
left_redo_none edits v e none = left_of_history edits (v + 1) _ (history_redo_none edits v e none) ∙ sym (left_is_history edits v)
