use Rattle.std.proofs.Common.{◌≡◌, ℕ, ◌<◌, false, get_or, vec_capacity}
use Rattle.std.specs.Mem.Slots.{slots_filled, slots_len, slots_items}
use Rattle.std.specs.Mem.Slots.Ownership.{Filled}
use Rattle.strip_turns.specs.Closed.{AllOut}
use Rattle.strip_turns.proofs.close.taken_out.Given as goal

abbrev pub invariant-loop-number : goal.invariant-loop-number
invariant-loop-number l =
    (slots_len l.closed.slots ≡ slots_len l.initial.closed.slots) × (slots_items l.closed.slots ≡ slots_items l.initial.closed.slots)
    × Filled (slots_filled l.closed.slots) l.number (slots_len l.closed.slots) × ((k : ℕ) → k < l.number → get_or (slots_filled l.closed.slots) k false ≡ false)
    × AllOut (slots_items l.initial.closed.slots) l.strips.items l.number × (vec_capacity l.strips ≡ vec_capacity l.initial.strips) × (l.closed.words ≡ l.initial.closed.words)
