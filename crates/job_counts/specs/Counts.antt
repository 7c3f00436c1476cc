-- What one move does to points, by counts, and whether it is safe.
use Rattle.std.specs.Prelude.{ℕ, ◌+◌, ◌-◌, ◌^◌, ◌≤◌, ◌==◌, ◌&&◌, Bool}
use Rattle.job_counts.specs.declared.counts.Counts.{Counts}

-- no point was counted
abbrev pub no_counts : Counts
no_counts = record {
  removed = 0;
  possible = 0;
  part_sure = 0;
  part_possible = 0;
  fix_sure = 0;
  fix_possible = 0;
  rapid_sure = 0;
  rapid_possible = 0;
}

-- a move is safe: no part point, no fixture point and, in rapid motion, no stock point is possible by it
abbrev pub is_safe : Counts → Bool
is_safe counts = counts.part_possible == 0 && (counts.fix_possible == 0 && counts.rapid_possible == 0)

-- the counts of two rays together
abbrev pub plus : Counts → Counts → Counts
plus a b = record {
  removed = a.removed + b.removed;
  possible = a.possible + b.possible;
  part_sure = a.part_sure + b.part_sure;
  part_possible = a.part_possible + b.part_possible;
  fix_sure = a.fix_sure + b.fix_sure;
  fix_possible = a.fix_possible + b.fix_possible;
  rapid_sure = a.rapid_sure + b.rapid_sure;
  rapid_possible = a.rapid_possible + b.rapid_possible;
}

-- the greatest count: what 64 bits hold
abbrev pub most_count : ℕ
most_count = 2 ^ 64 - 1

-- no count is above a number
pub record AreWithin (most : ℕ) (counts : Counts) : Type 0 where
  pub removed : counts.removed ≤ most
  pub possible : counts.possible ≤ most
  pub part_sure : counts.part_sure ≤ most
  pub part_possible : counts.part_possible ≤ most
  pub fix_sure : counts.fix_sure ≤ most
  pub fix_possible : counts.fix_possible ≤ most
  pub rapid_sure : counts.rapid_sure ≤ most
  pub rapid_possible : counts.rapid_possible ≤ most
