use Rattle.std.proofs.Common.{sym, ◌∙◌}
use Rattle.stock_file.proofs.GridLemmas.{cast_grid}
use Rattle.stock_file.proofs.grid_line.grid_of.Goals as goal

pub invariant_of-result : goal.invariant_of-result
invariant_of-result c =
    let numbers = c.args.numbers.now in
    cast_grid numbers.origin numbers.pitch numbers.step numbers.counts (sym c.is_grid.ensures ∙ c.if-not-is_grid.false)
