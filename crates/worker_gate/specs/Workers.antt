-- A worker before its work, during it and after it.
use Rattle.std.specs.Prelude.{◌≡◌, ℕ, ◌+◌, ◌<◌, ◌≤◌, List, [], ◌∷◌, ◌++◌, Some, false, length, slice_index_or}
use Rattle.std.specs.List.{All}
use Rattle.strip_turns.specs.declared.board.Board.{Board}
use Rattle.strip_turns.specs.declared.view.BoardStart.{BoardStart}
use Rattle.strip_turns.specs.declared.view.View.{View}
use Rattle.strip_turns.specs.declared.view.LogEntry.{LogEntry}
use Rattle.strip_turns.specs.declared.view.LogEntry.TheVariants.{Draw}
use Rattle.strip_turns.specs.Log.{tally, drew}
use Rattle.strip_turns.specs.Views.{fresh}
use Rattle.strip_turns.specs.Passes.{card, IsPass}
use Rattle.worker_gate.specs.declared.worker.Worker.{Worker}
use Rattle.worker_gate.specs.Work.{turns_due, IsWork, IsTicketTurn}

-- a worker whose pass did nothing yet
pub record IsFresh (b : Board) (w : Worker) : Type 0 where
  pub pass : IsPass b w.pass
  pub view : w.pass.seat.me.0 ≡ fresh false w.pass.seat.me.0.number (Some (card b))
  pub short : w.short ≡ false

-- a log of work with a ticket past the turns
pub record IsAllWork (c : BoardStart) (log : List LogEntry) : Type 0 where
  pub work : IsWork c log
  pub past : (t : ℕ) × (turns_due c ≤ t) × (0 < tally (drew t) log)

-- a worker that found memory did all its work
pub record IsDone (b : Board) (w : Worker) : Type 0 where
  pub pass : IsPass b w.pass
  pub all : w.short ≡ false → IsAllWork (card b) w.pass.seat.me.0.log

-- the same of each of several workers
pub record AreFresh (b : Board) (ws : List Worker) : Type 0 where
  pub each : All (IsFresh b) ws

pub record AreDone (b : Board) (ws : List Worker) : Type 0 where
  pub each : All (IsDone b) ws

-- the worker of the number n, with the ticket t in hand and all its work done up to that draw
pub record IsWorking (b : Board) (n t : ℕ) (w : Worker) : Type 0 where
  pub pass : IsPass b w.pass
  pub number : w.pass.seat.me.0.number ≡ n
  pub short : w.short ≡ false
  pub before : List LogEntry
  pub work : IsWork (card b) before
  pub log : w.pass.seat.me.0.log ≡ before ++ Draw t ∷ []
  pub drawn : w.pass.seat.me.0.drawn ≤ t + 1
  pub missed : w.pass.seat.me.0.missed ≤ t

-- the passes of the workers have the numbers above s, in order
pub record AreNumbered (s : ℕ) (ws : List Worker) : Type 0 where
  pub each : (k : ℕ) (d : Worker) → k < length ws → (slice_index_or ws k d).pass.seat.me.0.number ≡ s + k + 1

-- what working does to workers: each did its work, and has the number that it had
pub record HaveWorked (b : Board) (old new : List Worker) : Type 0 where
  pub done : AreDone b new
  pub many : length new ≡ length old
  pub numbered : (s : ℕ) → AreNumbered s old → AreNumbered s new

-- what a turn of the strip k that found memory does to a pass
pub record OneTurn (c : BoardStart) (k : ℕ) (v w : View) : Type 0 where
  pub entry : LogEntry
  pub is : IsTicketTurn c k entry
  pub log : w.log ≡ v.log ++ entry ∷ []
  pub number : w.number ≡ v.number
  pub drawn : w.drawn ≡ v.drawn
  pub missed : w.missed ≤ v.missed + 1
