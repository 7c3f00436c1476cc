-- What a crew does to the first pass.
use Rattle.std.specs.Prelude.{◌≡◌, ℕ, zero, suc, [], ◌∷◌, length, ◌+◌, ◌<◌, ◌≤◌, List, ◌++◌, Result, Ok, Err, Bool, false}
use Rattle.std.specs.Global.{Vec}
use Rattle.vf_io.specs.declared.answers.NoMemory.{NoMemory}
use Rattle.ray_grid.specs.Strips.{strips_of}
use Rattle.edit_plan.specs.declared.query.Query.{Query}
use Rattle.job_counts.specs.declared.totals.Answer.{Answer}
use Rattle.strip_turns.specs.declared.board.Board.{Board}
use Rattle.strip_turns.specs.declared.board.Pass.{Pass}
use Rattle.strip_turns.specs.declared.view.View.{View}
use Rattle.strip_turns.specs.declared.view.BoardStart.{BoardStart}
use Rattle.strip_turns.specs.declared.view.Met.{Met}
use Rattle.strip_turns.specs.declared.view.LogEntry.{LogEntry}
use Rattle.strip_turns.specs.Log.{tally, drew, logged_version}
use Rattle.strip_turns.specs.Cards.{start_version, last}
use Rattle.strip_turns.specs.Plays.{IsAlone}
use Rattle.strip_turns.specs.Closed.{AllDrawn}
use Rattle.strip_turns.specs.Passes.{IsPass}
use Rattle.strip_turns.specs.Asks.{IsRise}
use Rattle.worker_gate.specs.declared.worker.Worker.{Worker}
use Rattle.worker_gate.specs.Workers.{AreNumbered}
use Rattle.worker_gate.specs.Work.{turns_due, IsWork}
use Rattle.worker_gate.specs.Asking.{AreAnswers, IsAsking}

-- the first pass, with no other out, which can still be split `workers` times
pub record CanHire (b : Board) (workers : ℕ) (p : Pass) : Type 0 where
  pub pass : IsPass b p
  pub alone : IsAlone p.seat.me.0
  pub splits : p.seat.me.0.splits + workers ≤ 64

-- the n numbers above s, the last first
abbrev pub numbers_above : ℕ → ℕ → List ℕ
numbers_above s zero = []
numbers_above s (suc n) = (s + suc n) ∷ numbers_above s n

-- n splits, of a pass that had no other out
abbrev pub with_splits : ℕ → View → View
with_splits n v = record v { splits = v.splits + n; out = numbers_above v.splits n }

-- the passes that are out are those of the workers
pub record IsTeam (v : View) (ws : List Worker) : Type 0 where
  pub above : ℕ
  pub numbered : AreNumbered above ws
  pub out : v.out ≡ numbers_above above (length ws)

-- some passes were merged, and these are out
abbrev pub with_merged : List ℕ → List LogEntry → List Met → View → View
with_merged out es ms v = record v { out = out; met = v.met ++ ms; log = v.log ++ es }

-- n workers were merged. Where each found memory their logs are work, with a ticket past the turns.
pub record Merged (c : BoardStart) (n : ℕ) (short : Bool) (v w : View) : Type 0 where
  pub log : List LogEntry
  pub met : List Met
  pub view : w ≡ with_merged w.out log met v
  pub work : short ≡ false → IsWork c log
  pub past : short ≡ false → 0 < n → (t : ℕ) × (turns_due c ≤ t) × (0 < tally (drew t) log)

-- n splits were made, and besides them only the log and what was met changed
abbrev pub with_crew : ℕ → List LogEntry → List Met → View → View
with_crew n es ms v = record v { splits = v.splits + n; met = v.met ++ ms; log = v.log ++ es }

-- A crew of `workers` workers adds three lists to the log, one after the other: what the asking did, what the workers did, and what
-- the finishing did. The workers' part is work, and it has each ticket of the turns that wasn't drawn before. The last part raises
-- each strip to the last version, where the pass has then seen it.
pub record Crewed (c : BoardStart) (qs : List Query) (workers : ℕ) (v w : View) : Type 0 where
  pub asked : List LogEntry
  pub worked : List LogEntry
  pub ended : List LogEntry
  pub met : List Met
  pub view : w ≡ with_crew workers (asked ++ worked ++ ended) met v
  pub asking : IsAsking c qs asked
  pub work : IsWork c worked
  pub all : (t : ℕ) → t < turns_due c → tally (drew t) v.log ≡ 0 → 0 < tally (drew t) worked
  pub ending : IsRise c (last c) 0 (length (strips_of c.plan.grid)) ended
  pub seen : (k : ℕ) → k < length (strips_of c.plan.grid) → logged_version k (start_version c k) w.log ≡ last c
  pub drawn : AllDrawn w

-- At most `workers` splits were made, and besides them only the log and what was met changed. So no other pass is out.
pub record Stopped (workers : ℕ) (v w : View) : Type 0 where
  pub splits : ℕ
  pub few : splits ≤ workers
  pub log : List LogEntry
  pub met : List Met
  pub view : w ≡ with_crew splits log met v

-- the answers are those of the definitions, and the crew did all that it has to do
pub record Answered (c : BoardStart) (qs : List Query) (workers : ℕ) (answers : List Answer) (v w : View) : Type 0 where
  pub answer : AreAnswers c qs answers
  pub crew : Crewed c qs workers v w

abbrev pub Crews : BoardStart → List Query → ℕ → Result (Vec Answer) NoMemory → View → View → Type 0
Crews c qs n (Ok answers) v w = Answered c qs n answers.items v w
Crews c qs n (Err e) v w = Stopped n v w
