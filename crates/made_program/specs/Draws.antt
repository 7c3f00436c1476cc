-- Numbers drawn one after the other by a linear congruential generator: each state gives a number and the next state.
use Rattle.std.specs.Prelude.{ℕ, ◌+◌, ◌*◌, ◌/◌, ◌%◌, ◌^◌, zero, suc}

-- the next state, of 31 bits
abbrev pub next_state : ℕ → ℕ
next_state state = (1103515245 * state + 12345) % 2 ^ 31

-- the state after a number of draws
abbrev pub generator_state : ℕ → ℕ → ℕ
generator_state zero state = state
generator_state (suc n) state = next_state (generator_state n state)

-- the n-th draw, from 1: the upper 15 bits of the state after it
abbrev pub draw : ℕ → ℕ → ℕ
draw n state = generator_state n state / 65536
