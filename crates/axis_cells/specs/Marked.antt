-- A point's mark by two lists of slabs.
use Rattle.std.specs.Prelude.{ℕ, List, ℤ, if◌then◌else◌}
use Rattle.space.specs.Sweeps.{SweepOf}
use Rattle.bern_form.specs.Slab.{SlabSize}
use Rattle.bern_form.specs.Marks.{held_at_sample, is_possible_with}
use Rattle.axis_cells.specs.declared.mark.Mark.{Mark}
use Rattle.axis_cells.specs.declared.mark.Mark.TheVariants.{Clear, Possible, Removed}

-- Removed where some inner slab holds the point at a sample; else possible where the point is in reach and some outer slab is
-- left on some cell; else clear.
abbrev pub mark_from : List SlabSize → List SlabSize → ℤ → SweepOf → List ℤ → ℕ → Mark
mark_from inner outer reach m p S =
    if held_at_sample inner m p S then Removed else (if is_possible_with outer reach m p S then Possible else Clear)
