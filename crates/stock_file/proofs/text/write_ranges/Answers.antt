use Rattle.std.proofs.Common.{◌++◌}
use Rattle.vf_spans.specs.Members.{ranges_of}
use Rattle.stock_file.specs.Spelling.{counts_spelt, range_bounds}
use Rattle.stock_file.proofs.WalkLemmas.{range_written}
use Rattle.stock_file.proofs.text.write_ranges.Goals as goal

pub loop-n-preserved : goal.loop-n-preserved
loop-n-preserved c =
    range_written c.args.set.now c.loop-n.n c.range-lo.result c.loop-n.page c.write_number.new.page c.write_number-in-loop-n.new.page
    (c.args.page.now ++ counts_spelt (range_bounds (ranges_of c.args.set.now)))
    c.range-lo.ensures.range c.in_ok-write_number.ensures c.in_ok-write_number-2.ensures c.loop-n.invariant
