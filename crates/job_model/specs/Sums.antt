-- Counts and totals of several parts together.
use Rattle.std.specs.Prelude.{List, [], ◌∷◌}
use Rattle.job_counts.specs.declared.counts.Counts.{Counts}
use Rattle.job_counts.specs.declared.holder.HolderCounts.{HolderCounts}
use Rattle.job_counts.specs.declared.totals.Totals.{Totals}
use Rattle.job_counts.specs.Counts.{no_counts, plus}
use Rattle.job_counts.specs.Holder.{no_holder_counts, plus_holder_counts}
use Rattle.job_counts.specs.Totals.{no_totals, plus_totals}

-- the counts of all parts together
abbrev pub sum_counts : List Counts → Counts
sum_counts [] = no_counts
sum_counts (counts ∷ rest) = plus counts (sum_counts rest)

-- the totals of all parts together
abbrev pub sum_totals : List Totals → Totals
sum_totals [] = no_totals
sum_totals (totals ∷ rest) = plus_totals totals (sum_totals rest)

-- a holder's counts of all parts together
abbrev pub sum_holder_counts : List HolderCounts → HolderCounts
sum_holder_counts [] = no_holder_counts
sum_holder_counts (counts ∷ rest) = plus_holder_counts counts (sum_holder_counts rest)
