-- The leaning flank of a conical cutter: a cone that is d wide at the tip and leans outwards by an angle whose tangent is taken
-- as t millionths.
use Rattle.std.specs.Prelude.{ℕ, ◌*◌, ◌^◌, ◌⊎◌, ℤ, pos, ◌*ℤ◌, ◌-ℤ◌, ◌≤ℤ◌}

-- 4 * 10^12 w - 10^12 d^2 n - 4 t^2 u^2
abbrev pub cone_excess : ℕ → ℕ → ℤ → ℤ → ℤ → ℤ
cone_excess t d u n w = pos (4 * 10 ^ 12) *ℤ w -ℤ pos (10 ^ 12 * (d * d)) *ℤ n -ℤ pos (4 * (t * t)) *ℤ (u *ℤ u)

-- The cone rule at a place whose height is u / sqrt(n) and whose squared distance from the axis is w / n: that distance is at
-- most d / 2 and the height times the tangent, 2 * 10^6 sqrt(w) <= 10^6 d sqrt(n) + 2 t u. Squared twice, this says that the
-- excess is at most 0 or its square at most 16 * 10^12 t^2 d^2 u^2 n.
abbrev pub ConeRule : ℕ → ℕ → ℤ → ℤ → ℤ → Type 0
ConeRule t d u n w =
    (cone_excess t d u n w ≤ℤ pos 0)
    ⊎ ((cone_excess t d u n w *ℤ cone_excess t d u n w) ≤ℤ (pos (16 * 10 ^ 12 * (t * t) * (d * d)) *ℤ ((u *ℤ u) *ℤ n)))
