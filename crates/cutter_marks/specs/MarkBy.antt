-- A point's mark as a function of the cutter, the number of its slabs, the move, the point and the number of cells.
use Rattle.std.specs.Prelude.{ℕ, ℤ, pos, Bool, List}
use Rattle.space.specs.Sweeps.{SweepOf}
use Rattle.bern_form.specs.Marks.{held_at_sample, is_possible_with}
use Rattle.axis_cells.specs.Marked.{mark_from}
use Rattle.axis_cells.specs.declared.mark.Mark.{Mark}
use Rattle.cutter_slabs.specs.Cutter.{CutterSize}
use Rattle.cutter_slabs.specs.Stacks.{inner_stack, outer_stack, reach_of}

-- the mark by the stacks of a cutter for n slabs, and by its reach
unfoldable pub mark_by : CutterSize → ℕ → SweepOf → List ℤ → ℕ → Mark
mark_by c n m p S = mark_from (inner_stack c n) (outer_stack c n) (pos (reach_of c)) m p S

-- the point is sure to be cut by the move: some inner slab of the cutter holds it at a sample
unfoldable pub is_sure_by : CutterSize → ℕ → SweepOf → List ℤ → ℕ → Bool
is_sure_by c n m p S = held_at_sample (inner_stack c n) m p S

-- the point may be met by the move: it is in the cutter's reach, with some outer slab left on some cell
unfoldable pub is_possible_by : CutterSize → ℕ → SweepOf → List ℤ → ℕ → Bool
is_possible_by c n m p S = is_possible_with (outer_stack c n) (pos (reach_of c)) m p S
