-- What the holder of a move meets, by counts, added, and whether the holder is clear.
use Rattle.std.specs.Prelude.{ℕ, ◌+◌, ◌≤◌, ◌==◌, ◌&&◌, Bool}
use Rattle.job_counts.specs.declared.holder.HolderCounts.{HolderCounts}

-- no point was counted
abbrev pub no_holder_counts : HolderCounts
no_holder_counts = record {
  part_sure = 0;
  part_possible = 0;
  fix_sure = 0;
  fix_possible = 0;
  stock_sure = 0;
  stock_possible = 0;
}

-- the holder is clear, else it has a contact: no part point, no fixture point and no stock point is possible by it
abbrev pub is_holder_clear : HolderCounts → Bool
is_holder_clear counts = counts.part_possible == 0 && (counts.fix_possible == 0 && counts.stock_possible == 0)

-- the counts of two rays together
abbrev pub plus_holder_counts : HolderCounts → HolderCounts → HolderCounts
plus_holder_counts a b = record {
  part_sure = a.part_sure + b.part_sure;
  part_possible = a.part_possible + b.part_possible;
  fix_sure = a.fix_sure + b.fix_sure;
  fix_possible = a.fix_possible + b.fix_possible;
  stock_sure = a.stock_sure + b.stock_sure;
  stock_possible = a.stock_possible + b.stock_possible;
}

-- no count is above a number
pub record HolderCountsWithin (most : ℕ) (counts : HolderCounts) : Type 0 where
  pub part_sure : counts.part_sure ≤ most
  pub part_possible : counts.part_possible ≤ most
  pub fix_sure : counts.fix_sure ≤ most
  pub fix_possible : counts.fix_possible ≤ most
  pub stock_sure : counts.stock_sure ≤ most
  pub stock_possible : counts.stock_possible ≤ most
