-- The nearest whole number to a decimal value.
use Rattle.std.specs.Prelude.{ℕ, ◌+◌, ◌*◌, ◌/◌, ◌^◌}

-- n / d to the nearest whole number, halves up
abbrev pub nearest : ℕ → ℕ → ℕ
nearest n d = (2 * n + d) / (2 * d)

-- digits * factor * 10^up / 10^down, to the nearest whole number
abbrev pub scaled : ℕ → ℕ → ℕ → ℕ → ℕ
scaled digits factor up down = nearest (digits * factor * 10 ^ up) (10 ^ down)
