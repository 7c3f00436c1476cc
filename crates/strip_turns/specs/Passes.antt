-- A pass of a board, and what the board's calls do to it.
use Rattle.std.specs.Prelude.{◌≡◌, ℕ, ◌+◌, ◌≤◌, [], ◌∷◌, Option, Some, None, Result, Ok, Err, length, max, min}
use Rattle.atomic_table.specs.Table.{Me}
use Rattle.atomic_table.specs.declared.shared.Seat.{Seat}
use Rattle.job_model.specs.Tasks.{PlanOf}
use Rattle.strip_journal.specs.Strips.{StripOf}
use Rattle.turn_core.specs.Turns.{IsRaised, IsStopped}
use Rattle.strip_turns.specs.declared.view.View.{View}
use Rattle.strip_turns.specs.declared.view.BoardStart.{BoardStart}
use Rattle.strip_turns.specs.declared.view.LogEntry.TheVariants.{Trip}
use Rattle.strip_turns.specs.declared.board.Board.{Board}
use Rattle.strip_turns.specs.declared.board.Pass.{Pass}
use Rattle.strip_turns.specs.Log.{logged_version}
use Rattle.strip_turns.specs.Cards.{start_version, last, card_of, IsCase}
use Rattle.strip_turns.specs.Views.{with_strip, with_trip, with_log}

-- the board's card
abbrev pub card : Board → BoardStart
card b = card_of b.table.shared.key

-- a seat of the board that holds no strip
pub record IsIdleSeat (b : Board) (seat : Seat (Option StripOf) View) : Type 0 where
  pub own : seat.table_id ≡ b.table.shared.table_id
  pub named : seat.me.0.card ≡ Some (card b)
  pub held : seat.me.0.held ≡ None
  pub slots : seat.me.1 ≡ []

-- a pass of the board, that holds no strip
abbrev pub IsPass : Board → Pass → Type 0
IsPass b p = IsIdleSeat b p.seat

-- the strip k was taken out at `from`, and the seat holds its empty slot
pub record Holds (b : Board) (k from : ℕ) (old seat : Seat (Option StripOf) View) : Type 0 where
  pub own : seat.table_id ≡ b.table.shared.table_id
  pub me : seat.me ≡ (with_strip k from old.me.0, (k, None) ∷ [])
  pub seen : logged_version k (start_version (card b) k) old.me.0.log ≤ from

-- the strip was taken out as it was
pub record TookOut (b : Board) (k : ℕ) (old seat : Seat (Option StripOf) View) (strip : StripOf) : Type 0 where
  pub out : Holds b k strip.done old seat
  pub of_case : IsCase (card b) k strip.done strip

-- the strip was taken, and lies as it was in the slot that the seat holds
pub record TookIn (b : Board) (k : ℕ) (old seat : Seat (Option StripOf) View) (strip : StripOf) : Type 0 where
  pub own : seat.table_id ≡ b.table.shared.table_id
  pub me : seat.me ≡ (with_strip k strip.done old.me.0, (k, Some strip) ∷ [])
  pub seen : logged_version k (start_version (card b) k) old.me.0.log ≤ strip.done
  pub of_case : IsCase (card b) k strip.done strip

-- the same of some strip that was at `from`
abbrev pub TookAt : Board → ℕ → ℕ → Seat (Option StripOf) View → Seat (Option StripOf) View → Type 0
TookAt b k from old seat = (strip : StripOf) × TookIn b k old seat strip × (from ≡ strip.done)

-- a strip of the plan that was taken at `from`
abbrev pub IsTakenAt : PlanOf → ℕ → StripOf → Type 0
IsTakenAt plan from strip = (strip.job.plan ≡ plan) × (from ≡ strip.done)

-- the seat holds only the slot of the strip k, and in it a strip of which P holds
abbrev pub HasStrip : Me (Option StripOf) View → ℕ → (StripOf → Type 0) → Type 0
HasStrip me k P = (strip : StripOf) × (me.1 ≡ (k, Some strip) ∷ []) × P strip

-- what `turn_strip` did on a strip
abbrev pub Worked : PlanOf → StripOf → StripOf → Result (ℕ × ℕ) (ℕ × ℕ) → Type 0
Worked plan before after (Ok turn) = (turn.0 ≡ before.done) × (turn.1 ≡ after.done)
    × IsRaised before after (min (before.done + 8) (length plan.edits))
Worked plan before after (Err turn) = (turn.0 ≡ before.done) × (turn.1 ≡ after.done)
    × IsStopped before after (min (before.done + 8) (length plan.edits))

-- it was taken out at `from`, and raised to a version that it wasn't past
pub record RaisedOut (b : Board) (k from version : ℕ) (old seat : Seat (Option StripOf) View) (strip : StripOf) : Type 0 where
  pub out : Holds b k from old seat
  pub of_case : IsCase (card b) k (max from version) strip

-- the strip k is out with the seat, which took it at `from` and holds its empty slot
pub record IsOutWithSeat (b : Board) (k from : ℕ) (seat : Seat (Option StripOf) View) : Type 0 where
  pub own : seat.table_id ≡ b.table.shared.table_id
  pub named : seat.me.0.card ≡ Some (card b)
  pub held : seat.me.0.held ≡ Some (record { strip = k; at = from })
  pub slots : seat.me.1 ≡ (k, None) ∷ []

-- the strip k is with the seat, which took it at `from`, and lies at `to` in the slot that the seat holds
pub record IsInSeat (b : Board) (k from to : ℕ) (seat : Seat (Option StripOf) View) (strip : StripOf) : Type 0 where
  pub own : seat.table_id ≡ b.table.shared.table_id
  pub named : seat.me.0.card ≡ Some (card b)
  pub held : seat.me.0.held ≡ Some (record { strip = k; at = from })
  pub slots : seat.me.1 ≡ (k, Some strip) ∷ []
  pub of_case : IsCase (card b) k strip.done strip
  pub at : strip.done ≡ to
  pub further : from ≤ to

-- the strip k was put back at `to`
pub record IsBack (b : Board) (k from to : ℕ) (old seat : Seat (Option StripOf) View) : Type 0 where
  pub own : seat.table_id ≡ b.table.shared.table_id
  pub met : ℕ
  pub me : seat.me ≡ (with_trip k from to met old.me.0, [])
  pub seen : logged_version k (start_version (card b) k) seat.me.0.log ≡ to

-- the pass did one trip of the strip k, from where it had seen it or further
pub record Tripped (c : BoardStart) (k from to : ℕ) (v w : View) : Type 0 where
  pub met : ℕ
  pub view : w ≡ with_log (Trip k from to ∷ []) (record { strip = k; misses = met } ∷ []) v
  pub newer : logged_version k (start_version c k) v.log ≤ from
  pub further : from ≤ to
  pub within : to ≤ last c
  pub seen : logged_version k (start_version c k) w.log ≡ to
