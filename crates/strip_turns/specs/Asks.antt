-- What asking and finishing do.
use Rattle.std.specs.Prelude.{◌≡◌, ℕ, ◌+◌, ◌<◌, ◌≤◌, max, List, length, Result, Ok, Err}
use mathlib.Core.Option.{some}
use lib.ListN.{get_elem?}
use Rattle.vf_io.specs.declared.answers.NoMemory.{NoMemory}
use Rattle.ray_grid.specs.Strips.{strip_number, strips_of}
use Rattle.edit_plan.specs.declared.query.Ask.{Ask}
use Rattle.edit_plan.specs.declared.query.Ask.TheVariants.{Probe, Count}
use Rattle.edit_plan.specs.declared.query.Query.{Query}
use Rattle.job_counts.specs.declared.totals.Answer.{Answer}
use Rattle.job_model.specs.Tasks.{Job, PlanOf}
use Rattle.turn_core.specs.World.{AreStrips, answer_of}
use Rattle.strip_turns.specs.declared.view.View.{View}
use Rattle.strip_turns.specs.declared.view.BoardStart.{BoardStart}
use Rattle.strip_turns.specs.declared.view.Met.{Met}
use Rattle.strip_turns.specs.declared.view.LogEntry.{LogEntry}
use Rattle.strip_turns.specs.declared.view.LogEntry.TheVariants.{Trip}
use Rattle.strip_turns.specs.Log.{logged_version}
use Rattle.strip_turns.specs.Cards.{start_version, last}
use Rattle.strip_turns.specs.Views.{with_log}
use Rattle.strip_turns.specs.Plays.{IsAlone}
use Rattle.strip_turns.specs.Passes.{Tripped}
use Rattle.strip_turns.specs.Closed.{AllDrawn}

-- one trip of the strip k, to the version that it wasn't past
pub record Raised (c : BoardStart) (k version : ℕ) (v w : View) : Type 0 where
  pub at : ℕ
  pub trip : Tripped c k at (max at version) v w

-- one trip of the strip k, no further than that
pub record Short (c : BoardStart) (k version : ℕ) (v w : View) : Type 0 where
  pub at : ℕ
  pub to : ℕ
  pub trip : Tripped c k at to v w
  pub most : to ≤ max at version

-- one trip to the version, or of no edit from past it, of each of `count` strips from `first` on, in order
pub record IsRise (c : BoardStart) (version first count : ℕ) (es : List LogEntry) : Type 0 where
  pub many : length es ≡ count
  pub each : (i : ℕ) → i < count
      → (from : ℕ) × (from ≤ last c) × (get_elem? es i ≡ some (Trip (first + i) from (max from version)))

-- only trips of these strips, none of them past the version, or of no edit from past it
pub record IsPartRise (version first count : ℕ) (es : List LogEntry) : Type 0 where
  pub each : (i : ℕ) (e : LogEntry) → get_elem? es i ≡ some e
      → (k : ℕ) × (from : ℕ) × (to : ℕ) × (e ≡ Trip k from to) × (first ≤ k) × (k < first + count) × (from ≤ to) × (to ≤ max from version)

-- some of these strips were raised, and nothing else was done
pub record SomeRaised (c : BoardStart) (version first count : ℕ) (v w : View) : Type 0 where
  pub log : List LogEntry
  pub met : List Met
  pub view : w ≡ with_log log met v
  pub rise : IsPartRise version first count log

-- the first `count` strips were raised, and nothing else was done: the pass has seen each at the version or past it
pub record AllRaised (c : BoardStart) (version count : ℕ) (v w : View) : Type 0 where
  pub log : List LogEntry
  pub met : List Met
  pub view : w ≡ with_log log met v
  pub rise : IsRise c version 0 count log
  pub reached : (k : ℕ) → k < count → version ≤ logged_version k (start_version c k) w.log
  pub within : (k : ℕ) → k < count → logged_version k (start_version c k) w.log ≤ last c

-- the first strip that a question needs, and how many it needs from there on
abbrev pub first_asked : PlanOf → Ask → ℕ
first_asked plan (Probe ray l) = strip_number plan.grid ray.family ray.i
first_asked plan Count = 0

abbrev pub count_asked : PlanOf → Ask → ℕ
count_asked plan (Probe ray l) = 1
count_asked plan Count = length (strips_of plan.grid)

-- the strips that the query needs were raised to its version, and the answer is the one there, for the job whose strips were put in
pub record Asked (c : BoardStart) (q : Query) (a : Answer) (v w : View) : Type 0 where
  pub log : List LogEntry
  pub met : List Met
  pub view : w ≡ with_log log met v
  pub rise : IsRise c q.version (first_asked c.plan q.ask) (count_asked c.plan q.ask) log
  pub answer : (job : Job) → AreStrips job c.strips → a ≡ answer_of job q

abbrev pub Asks : BoardStart → Query → Result Answer NoMemory → View → View → Type 0
Asks c q (Ok a) v w = Asked c q a v w
Asks c q (Err e) v w = SomeRaised c q.version (first_asked c.plan q.ask) (count_asked c.plan q.ask) v w

-- One trip of each strip to the last version, in order, where the pass has then seen it. A pass that is alone has the numbers below
-- some n as tickets, each once.
pub record Finished (c : BoardStart) (v w : View) : Type 0 where
  pub log : List LogEntry
  pub met : List Met
  pub view : w ≡ with_log log met v
  pub rise : IsRise c (last c) 0 (length (strips_of c.plan.grid)) log
  pub seen : (k : ℕ) → k < length (strips_of c.plan.grid) → logged_version k (start_version c k) w.log ≡ last c
  pub drawn : IsAlone v → AllDrawn w

abbrev pub Finishes : BoardStart → Result (Unit {0}) NoMemory → View → View → Type 0
Finishes c (Ok u) v w = Finished c v w
Finishes c (Err e) v w = SomeRaised c (last c) 0 (length (strips_of c.plan.grid)) v w
