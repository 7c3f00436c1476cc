use Rattle.std.proofs.Common.{◌≡◌, false, ℕ, ◌<◌}
use Rattle.bern_form.specs.Marks.{some_holds}
use Rattle.axis_cells.proofs.plain.is_held_at_sample.Given as goal

abbrev pub invariant-loop-k : goal.invariant-loop-k
invariant-loop-k l = (j : ℕ) → j < l.k → some_holds l.slabs l.sweep l.point j l.scale ≡ false
