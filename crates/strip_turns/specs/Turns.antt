-- What a turn does.
use Rattle.std.specs.Prelude.{◌≡◌, ℕ, ◌+◌, ◌<◌, min}
use Rattle.strip_turns.specs.declared.view.View.{View}
use Rattle.strip_turns.specs.declared.view.BoardStart.{BoardStart}
use Rattle.strip_turns.specs.declared.turn.Turned.{Turned}
use Rattle.strip_turns.specs.declared.turn.Turned.TheVariants.{Moved, Busy, NoMemory}
use Rattle.strip_turns.specs.Cards.{last}
use Rattle.strip_turns.specs.Views.{with_miss}
use Rattle.strip_turns.specs.Plays.{IsAlone}
use Rattle.strip_turns.specs.Passes.{Tripped}

-- Busy adds a miss, and never happens to a pass that is alone. Else the strip did one trip: of eight edits, or of those that are left
-- where they are fewer; short of that when out of memory.
abbrev pub Turns : BoardStart → ℕ → Turned → View → View → Type 0
Turns c k (Moved from to) v w = Tripped c k from to v w × (to ≡ min (from + 8) (last c))
Turns c k Busy v w = (w ≡ with_miss k v) × (IsAlone v → ⊥)
Turns c k (NoMemory from to) v w = Tripped c k from to v w × (to < min (from + 8) (last c))
