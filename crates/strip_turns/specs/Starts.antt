-- A new board and its first pass.
use Rattle.std.specs.Prelude.{◌≡◌, ℕ, ◌+◌, ◌*◌, ◌^◌, ◌<◌, ◌≤◌, List, Some, true, length, slice_get, slice_index}
use Rattle.strip_journal.specs.Strips.{StripOf}
use Rattle.job_model.specs.Tasks.{PlanOf}
use Rattle.strip_turns.specs.declared.view.BoardStart.{BoardStart}
use Rattle.strip_turns.specs.declared.board.Board.{Board}
use Rattle.strip_turns.specs.declared.board.Pass.{Pass}
use Rattle.strip_turns.specs.Sound.{strip_word}
use Rattle.strip_turns.specs.Views.{fresh}
use Rattle.strip_turns.specs.Passes.{card, IsPass}

-- the words while the first n strips are home: no ticket was drawn, and each strip's word says its version
pub record AreHome (strips : List StripOf) (n : ℕ) (words : List ℕ) : Type 0 where
  pub many : length words ≡ strip_word (length strips)
  pub ticket : slice_index words 0 ≡ 0
  pub each : (k : ℕ) (s : StripOf) → k < n → slice_get strips k ≡ Some s → slice_index words (strip_word k) ≡ (s.done + 1) * 2 ^ 40

-- none of the first n strips is past the last edit
pub record AreWithin (edits : ℕ) (strips : List StripOf) (n : ℕ) : Type 0 where
  pub each : (k : ℕ) (s : StripOf) → k < n → slice_get strips k ≡ Some s → s.done ≤ edits

abbrev pub card_with : PlanOf → List StripOf → BoardStart
card_with plan strips = record { plan = plan; strips = strips }

-- the first pass names the plan and the strips, each as it was put in, and did nothing yet
pub record Starts (p : PlanOf) (strips : List StripOf) (b : Board) (first : Pass) : Type 0 where
  pub plan : b.plan ≡ p
  pub named : card b ≡ card_with p strips
  pub pass : IsPass b first
  pub view : first.seat.me.0 ≡ fresh true 0 (Some (card_with p strips))
