-- Work: tickets, and a turn for each ticket of those that are turns.
use Rattle.std.specs.Prelude.{◌≡◌, ℕ, ◌+◌, ◌*◌, ◌/◌, ◌%◌, ◌<◌, ◌≤◌, min, List, [], ◌∷◌, ◌++◌, length, Bool, true, false}
use Rattle.ray_grid.specs.Strips.{strips_of}
use Rattle.strip_turns.specs.declared.view.BoardStart.{BoardStart}
use Rattle.strip_turns.specs.declared.view.LogEntry.{LogEntry}
use Rattle.strip_turns.specs.declared.view.LogEntry.TheVariants.{Draw, Miss, Trip}
use Rattle.strip_turns.specs.declared.turn.Turned.{Turned}
use Rattle.strip_turns.specs.declared.turn.Turned.TheVariants.{Moved, Busy, NoMemory}
use Rattle.strip_turns.specs.Cards.{last}

-- The tickets below this number are turns: for each strip as many as take it to the last version, at eight edits a turn.
abbrev pub turns_due : BoardStart → ℕ
turns_due c = length (strips_of c.plan.grid) * ((last c + 7) / 8)

-- what a turn of the strip k leaves in a log: a miss, or a trip of eight edits, or of those that are left where they are fewer
abbrev pub IsTicketTurn : BoardStart → ℕ → LogEntry → Type 0
IsTicketTurn c k (Draw t) = ⊥
IsTicketTurn c k (Miss s) = s ≡ k
IsTicketTurn c k (Trip s from to) = (s ≡ k) × (to ≡ min (from + 8) (last c))

-- A log of work. The empty log is one. So is a ticket past the turns, with work after it; and a ticket that is a turn, with a turn of
-- its strip and then work after it. And so are two logs of work, one after the other.
pub data IsWork (c : BoardStart) : List LogEntry → Type 0 where
  nothing : IsWork c []
  past : (t : ℕ) (es : List LogEntry) → turns_due c ≤ t → IsWork c es → IsWork c (Draw t ∷ es)
  turn : (t : ℕ) (e : LogEntry) (es : List LogEntry) → t < turns_due c → IsTicketTurn c (t % length (strips_of c.plan.grid)) e → IsWork c es
      → IsWork c (Draw t ∷ e ∷ es)
  both : (xs ys : List LogEntry) → IsWork c xs → IsWork c ys → IsWork c (xs ++ ys)

-- whether a turn found no memory
abbrev pub is_short : Turned → Bool
is_short (Moved from to) = false
is_short Busy = false
is_short (NoMemory from to) = true
