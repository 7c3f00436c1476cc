-- Which indices a pair of ends selects.
use Rattle.std.specs.Prelude.{ℕ, ◌<◌, ◌≤◌, ◌↔◌}

-- the indices from lo on and below hi are exactly those of which the fact holds
abbrev pub Selects : ℕ → ℕ → (ℕ → Type 0) → Type 0
Selects lo hi fact = (l : ℕ) → ((lo ≤ l) × (l < hi)) ↔ fact l
