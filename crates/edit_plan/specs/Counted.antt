-- The counts that a reader keeps in place of the two lists of moves.
use Rattle.std.specs.Prelude.{◌≡◌, ℕ, ◌≤◌, List, length}
use Rattle.edit_plan.specs.declared.edit.Edit.{Edit}
use Rattle.edit_plan.specs.Edits.{dropped_of, left_of}
use Rattle.edit_plan.specs.Limits.{most_edits}

-- how many moves are left after the edits, and how many are dropped; and no more edits than a script may have
pub record IsCounted (left dropped : ℕ) (edits : List Edit) : Type 0 where
  pub left_count : left ≡ length (left_of edits)
  pub dropped_count : dropped ≡ length (dropped_of edits)
  pub few : length edits ≤ most_edits
