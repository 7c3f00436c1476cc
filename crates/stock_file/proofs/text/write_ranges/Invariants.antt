use Rattle.std.proofs.Common.{◌≡◌, ◌++◌, drop}
use Rattle.vf_spans.specs.Members.{ranges_of}
use Rattle.stock_file.specs.Spelling.{counts_spelt, range_bounds}
use Rattle.stock_file.proofs.text.write_ranges.Given as goal

-- the bounds that are left make all the bounds
abbrev pub invariant-loop-n : goal.invariant-loop-n
invariant-loop-n l = l.page ++ counts_spelt (range_bounds (drop l.n (ranges_of l.set))) ≡ l.fn.page ++ counts_spelt (range_bounds (ranges_of l.set))
