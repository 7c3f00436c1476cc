-- A card: a plan, with its strips as they were put in.
use Rattle.std.specs.Prelude.{◌≡◌, ℕ, ◌≤◌, Option, Some, None, length, slice_get}
use Rattle.strip_journal.specs.Strips.{StripOf}
use Rattle.strip_turns.specs.declared.view.BoardStart.{BoardStart}
use Rattle.strip_turns.specs.declared.view.Key.{Key}

abbrev pub done_of : Option StripOf → ℕ
done_of None = 0
done_of (Some s) = s.done

-- the version at which the strip k was put in
abbrev pub start_version : BoardStart → ℕ → ℕ
start_version c k = done_of (slice_get c.strips k)

-- the last version: as many edits as there are
abbrev pub last : BoardStart → ℕ
last c = length c.plan.edits

-- the strip that was put in as number k, now at the version v
pub record IsCase (c : BoardStart) (k v : ℕ) (s : StripOf) : Type 0 where
  pub put_in : slice_get c.strips k ≡ Some (record s { done = start_version c k })
  pub at : s.done ≡ v
  pub within : v ≤ last c

abbrev pub card_of : Key → BoardStart
card_of key = record { plan = key.plan.value; strips = key.strips.value.items }
