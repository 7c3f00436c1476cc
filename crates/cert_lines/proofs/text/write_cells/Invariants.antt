use Rattle.std.proofs.Common.{◌≡◌, ◌++◌, None, drop}
use Rattle.cert_lines.specs.Spelling.{cells_text}
use Rattle.cert_lines.proofs.text.write_cells.Given as goal

-- the lines that are left make all the lines
abbrev pub invariant-loop-cell : goal.invariant-loop-cell
invariant-loop-cell l = l.page ++ cells_text l.last (drop l.cell-index l.cells) ≡ l.fn.page ++ cells_text None l.cells
