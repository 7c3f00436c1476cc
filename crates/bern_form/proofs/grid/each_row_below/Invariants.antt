use Rattle.std.proofs.Common.{◌≡◌, ℕ, ◌<◌, drop, length}
use Rattle.bern_form.specs.Grids.{row, rows_negative}
use Rattle.bern_form.proofs.grid.each_row_below.Given as goal

abbrev pub invariant-loop-row : goal.invariant-loop-row
invariant-loop-row g l = (rows_negative (drop l.row-index l.rows) ≡ rows_negative l.rows) × ((k : ℕ) → k < l.row-index → length (row l.rows k) ≡ g.row.Q)
