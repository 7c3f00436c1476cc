-- What one sample says of a point, by which slabs a stretch is excluded once a mark is known, and where slabs begin.
use Rattle.std.specs.Prelude.{Bool, List, ℤ, map, if◌then◌else◌}
use Rattle.bern_form.specs.Slab.{SlabSize}
use Rattle.axis_cells.specs.declared.mark.Mark.{Mark}
use Rattle.axis_cells.specs.declared.mark.Mark.TheVariants.{Clear, Possible, Removed}

-- the mark by one sample alone: Possible where some outer slab holds the point there, and Removed where some inner one does too
abbrev pub sample_mark : Bool → Bool → Mark
sample_mark inner outer = if outer then (if inner then Removed else Possible) else Clear

-- by the inner slabs where the mark that is known is Possible, and else by the outer ones
abbrev pub slabs_after : Mark → List SlabSize → List SlabSize → List SlabSize
slabs_after Removed inner outer = outer
slabs_after Possible inner outer = inner
slabs_after Clear inner outer = outer

-- the heights at which the slabs begin
abbrev pub lows_of : List SlabSize → List ℤ
lows_of slabs = map (λ s. s.lo) slabs
