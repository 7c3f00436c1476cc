use Rattle.std.proofs.Common.{sym, ◌∙◌}
use Rattle.stock_file.specs.GridNumbers.{numbers_of}
use Rattle.stock_file.proofs.GridLemmas.{first_fails, last_decides, second_fails}
use Rattle.stock_file.proofs.grid_line.is_grid.Goals as goal

pub returns-then-not-is_axis_at : goal.returns-then-not-is_axis_at
returns-then-not-is_axis_at c =
    first_fails (numbers_of c.args.numbers.now) (sym c.is_pitch.ensures ∙ c.if-not-is_pitch.false) (sym c.is_axis_at.ensures ∙ c.if-not-is_axis_at.true)

pub returns-then-not-is_axis_at-2 : goal.returns-then-not-is_axis_at-2
returns-then-not-is_axis_at-2 c =
    second_fails (numbers_of c.args.numbers.now) (sym c.is_pitch.ensures ∙ c.if-not-is_pitch.false) (sym c.is_axis_at.ensures ∙ c.if-not-is_axis_at.false)
    (sym c.is_axis_at-2.ensures ∙ c.if-not-is_axis_at-2.true)

pub returns : goal.returns
returns c =
    c.is_axis_at-3.ensures
    ∙ last_decides (numbers_of c.args.numbers.now) (sym c.is_pitch.ensures ∙ c.if-not-is_pitch.false) (sym c.is_axis_at.ensures ∙ c.if-not-is_axis_at.false)
    (sym c.is_axis_at-2.ensures ∙ c.if-not-is_axis_at-2.false)
