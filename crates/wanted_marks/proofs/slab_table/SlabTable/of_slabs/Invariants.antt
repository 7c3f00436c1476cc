use Rattle.std.proofs.Common.{◌≤◌, length, All}
use Rattle.wanted_marks.proofs.slab_table.SlabTable.of_slabs.Given as goal

abbrev pub invariant-loop-i : goal.invariant-loop-i
invariant-loop-i l = l.reached ≤ length l.slabs × All (λ number. number ≤ length l.slabs) l.numbers
