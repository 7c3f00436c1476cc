-- What is left when a board is closed.
use Rattle.std.specs.Prelude.{◌≡◌, ℕ, ◌+◌, ◌*◌, ◌^◌, ◌<◌, ◌≤◌, List, length, slice_get, slice_index, Option, Some}
use mathlib.Core.Option.{some}
use lib.ListN.{get_elem?}
use Rattle.edit_plan.specs.Limits.{most_edits}
use Rattle.strip_journal.specs.Strips.{StripOf}
use Rattle.strip_turns.specs.declared.view.View.{View}
use Rattle.strip_turns.specs.declared.view.BoardStart.{BoardStart}
use Rattle.strip_turns.specs.Log.{tally, drew, did, once_between, logged_version}
use Rattle.strip_turns.specs.Cards.{start_version, IsCase}
use Rattle.strip_turns.specs.Sound.{once_below, strip_word}

-- The strip k as it is given: the one that was put in, at a version not below what the pass has seen. Each edit that was done on it
-- since lies in exactly one trip of the log.
pub record IsReturnedStrip (c : BoardStart) (v : View) (k : ℕ) (s : StripOf) : Type 0 where
  pub of_case : IsCase c k s.done s
  pub seen : logged_version k (start_version c k) v.log ≤ s.done
  pub did : (x : ℕ) → tally (did k x) v.log ≡ once_between (start_version c k) s.done x

-- the tickets in the log are the numbers below some n, each once
abbrev pub AllDrawn : View → Type 0
AllDrawn v = (n : ℕ) × ((x : ℕ) → tally (drew x) v.log ≡ once_below n x)

-- the word of the strip k says its version
abbrev pub IsHomeWord : List ℕ → ℕ → StripOf → Type 0
IsHomeWord words k s = slice_index words (strip_word k) ≡ (s.done + 1) * 2 ^ 40

-- each slot has its strip
pub record AllHome (c : BoardStart) (v : View) (words : List ℕ) (slots : List (Option StripOf)) : Type 0 where
  pub many : length slots ≡ length c.strips
  pub each : (k : ℕ) → k < length slots
      → (s : StripOf) × (get_elem? slots k ≡ some (Some s)) × IsReturnedStrip c v k s × IsHomeWord words k s
  pub drawn : AllDrawn v

-- all strips of the card, in order
pub record AreBoardStrips (c : BoardStart) (v : View) (strips : List StripOf) : Type 0 where
  pub many : length strips ≡ length c.strips
  pub each : (k : ℕ) (s : StripOf) → slice_get strips k ≡ Some s → IsReturnedStrip c v k s

-- no slot is empty, and the words say the versions
pub record AllThere (words : List ℕ) (slots : List (Option StripOf)) : Type 0 where
  pub each : (k : ℕ) → k < length slots → (s : StripOf) × (get_elem? slots k ≡ some (Some s)) × IsHomeWord words k s × (s.done ≤ most_edits)

-- the strips of the first n slots, in order
pub record AllOut (slots : List (Option StripOf)) (strips : List StripOf) (n : ℕ) : Type 0 where
  pub many : length strips ≡ n
  pub each : (k : ℕ) (s : StripOf) → slice_get strips k ≡ Some s → get_elem? slots k ≡ some (Some s)
