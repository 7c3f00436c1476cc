use Rattle.std.proofs.Common.{sym, ◌∙◌}
use Rattle.stock_file.proofs.GridsSame.{same_grid}
use Rattle.stock_file.proofs.same_grids.is_same_grid.Goals as goal

pub returns-clause-same : goal.returns-clause-same
returns-clause-same c = λ is.
    same_grid c.args.a.now c.args.b.now c.has_three_axes.ensures.origin c.has_three_axes.ensures.counts c.has_three_axes-2.ensures.origin
    c.has_three_axes-2.ensures.counts (sym c.has_same_numbers.ensures ∙ is)
