-- The line of edits: which edits applied a move, and how many of them are left.
use Rattle.std.specs.Prelude.{ℕ, zero, suc, ◌+◌, ◌-◌, nat_lt, if◌then◌else◌, List, [], ◌∷◌, ◌++◌, length, take, Option, None, Some, slice_get}
use Rattle.edit_plan.specs.declared.edit.Edit.{Edit}
use Rattle.edit_plan.specs.declared.edit.Edit.TheVariants.{Apply, Undo, Redo}

-- the numbers of the edits that applied a move, in order; the first `at` are left, the others dropped
pub record History : Type 0 where
  pub numbers : List ℕ
  pub at : ℕ

-- the line after edit number v: an Apply cuts off what is dropped and adds its own number; an Undo goes one back, and a Redo one
-- forward, where there is one
abbrev pub step : ℕ → Option Edit → History → History
step v None history = history
step v (Some (Apply number)) history = record { numbers = take history.at history.numbers ++ v ∷ []; at = history.at + 1 }
step v (Some Undo) history = record { numbers = history.numbers; at = history.at - 1 }
step v (Some Redo) history =
    record { numbers = history.numbers; at = if nat_lt history.at (length history.numbers) then history.at + 1 else history.at }

-- the line after the first v edits
abbrev pub history_at : List Edit → ℕ → History
history_at edits zero = record { numbers = []; at = 0 }
history_at edits (suc v) = step v (slice_get edits v) (history_at edits v)

-- the number of the move that an edit applies
abbrev pub applied_by : Option Edit → ℕ
applied_by (Some (Apply number)) = number
applied_by (Some Undo) = 0
applied_by (Some Redo) = 0
applied_by None = 0

-- the number of the move that edit number v applies
abbrev pub move_of : List Edit → ℕ → ℕ
move_of edits v = applied_by (slice_get edits v)
