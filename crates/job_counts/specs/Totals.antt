-- Totals of a version, added.
use Rattle.std.specs.Prelude.{ℕ, ◌+◌, ◌≤◌}
use Rattle.job_counts.specs.declared.totals.Totals.{Totals}

-- no stock point was counted
abbrev pub no_totals : Totals
no_totals = record { removed = 0; possible = 0; of = 0 }

-- the totals of two rays together
abbrev pub plus_totals : Totals → Totals → Totals
plus_totals a b = record { removed = a.removed + b.removed; possible = a.possible + b.possible; of = a.of + b.of }

-- no total is above a number
pub record TotalsWithin (most : ℕ) (totals : Totals) : Type 0 where
  pub removed : totals.removed ≤ most
  pub possible : totals.possible ≤ most
  pub of : totals.of ≤ most
