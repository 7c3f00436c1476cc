use Rattle.std.proofs.Common.{◌≡◌, false, ℕ, ◌<◌}
use Rattle.bern_form.specs.Marks.{is_unexcluded_on}
use Rattle.axis_cells.proofs.plain.is_unexcluded_on_cell.Given as goal

abbrev pub invariant-loop-k : goal.invariant-loop-k
invariant-loop-k l = (j : ℕ) → j < l.k → is_unexcluded_on l.slabs l.sweep l.point j l.scale ≡ false
