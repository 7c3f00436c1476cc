-- What is computed of each move for its marks.
use Rattle.std.specs.Prelude.{◌≡◌, ℕ, ◌+◌, ◌<◌, List, Some, length, slice_get, slice_index_or}
use Rattle.wanted_marks.specs.declared.ready_move.ReadyMove.{ReadyMove}
use Rattle.wanted_marks.specs.Ready.{IsReadyMove}
use Rattle.job_model.specs.Tasks.{JobMove}

-- for each of the moves from one number to another it is there, in their order; the second is excluded
pub record HasReadyMoves (slabs depth : ℕ) (moves : List JobMove) (from to : ℕ) (ready : List ReadyMove) : Type 0 where
  pub many : from + length ready ≡ to
  pub each : (n : ℕ) (move : JobMove) (d : ReadyMove) → n < length ready → slice_get moves (from + n) ≡ Some move
      → IsReadyMove (slice_index_or ready n d) record { cutter = move.cutter; slabs = slabs; sweep = move.sweep; depth = depth }
