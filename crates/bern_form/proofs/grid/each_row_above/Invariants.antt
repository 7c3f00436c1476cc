use Rattle.std.proofs.Common.{◌≡◌, ℕ, ◌<◌, drop, length}
use Rattle.bern_form.specs.Grids.{row, rows_positive}
use Rattle.bern_form.proofs.grid.each_row_above.Given as goal

abbrev pub invariant-loop-row : goal.invariant-loop-row
invariant-loop-row g l = (rows_positive (drop l.row-index l.rows) ≡ rows_positive l.rows) × ((k : ℕ) → k < l.row-index → length (row l.rows k) ≡ g.row.Q)
