use Rattle.stock_file.proofs.GridLemmas.{short_axis}
use Rattle.stock_file.proofs.grid_line.length_of.Goals as goal

pub returns-clause-small : goal.returns-clause-small
returns-clause-small c =
    rw (c.saturating_sub.ensures, c.from.ensures, c.from-2.ensures, c.from-3.ensures)
    (short_axis c.args.pitch c.args.step c.args.nodes c.requires.pitch c.requires.nodes)
