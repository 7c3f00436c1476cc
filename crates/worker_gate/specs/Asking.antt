-- What the one who asks does.
use Rattle.std.specs.Prelude.{◌≡◌, List, [], ◌∷◌, ◌++◌, map, Result, Ok, Err}
use Rattle.std.specs.Global.{Vec}
use Rattle.edit_plan.specs.declared.query.Query.{Query}
use Rattle.job_counts.specs.declared.totals.Answer.{Answer}
use Rattle.job_model.specs.Tasks.{Job}
use Rattle.turn_core.specs.World.{AreStrips, answer_of}
use Rattle.vf_io.specs.declared.answers.NoMemory.{NoMemory}
use Rattle.strip_turns.specs.declared.view.View.{View}
use Rattle.strip_turns.specs.declared.view.BoardStart.{BoardStart}
use Rattle.strip_turns.specs.declared.view.Met.{Met}
use Rattle.strip_turns.specs.declared.view.LogEntry.{LogEntry}
use Rattle.strip_turns.specs.Views.{with_log}
use Rattle.strip_turns.specs.Asks.{IsRise, count_asked, first_asked}

-- the answers are those of the definitions, each at its own query's version, for the job whose strips were put in
abbrev pub AreAnswers : BoardStart → List Query → List Answer → Type 0
AreAnswers c qs answers = (job : Job) → AreStrips job c.strips → answers ≡ map (answer_of job) qs

-- what asking adds to a log, query by query: each strip that the query needs is raised once
pub data IsAsking (c : BoardStart) : List Query → List LogEntry → Type 0 where
  nothing : IsAsking c [] []
  more : (qs : List Query) (q : Query) (es xs : List LogEntry) → IsAsking c qs es
      → IsRise c q.version (first_asked c.plan q.ask) (count_asked c.plan q.ask) xs → IsAsking c (qs ++ q ∷ []) (es ++ xs)

pub record AskedAll (c : BoardStart) (qs : List Query) (answers : List Answer) (v w : View) : Type 0 where
  pub log : List LogEntry
  pub met : List Met
  pub view : w ≡ with_log log met v
  pub asking : IsAsking c qs log
  pub answer : AreAnswers c qs answers

-- only the log and what was met changed
pub record Logged (v w : View) : Type 0 where
  pub log : List LogEntry
  pub met : List Met
  pub view : w ≡ with_log log met v

abbrev pub AsksAll : BoardStart → List Query → Result (Vec Answer) NoMemory → View → View → Type 0
AsksAll c qs (Ok answers) v w = AskedAll c qs answers.items v w
AsksAll c qs (Err e) v w = Logged v w
