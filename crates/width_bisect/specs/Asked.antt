-- What a caller wants to know of a point, and what answers it.
use Rattle.std.specs.Prelude.{◌≡◌, List}
use Rattle.bern_form.specs.Slab.{SlabSize}
use Rattle.axis_cells.specs.declared.mark.Mark.{Mark}
use Rattle.box_bisect.specs.Between.{is_removed_mark}
use Rattle.width_bisect.specs.declared.asked.Asked.{Asked}
use Rattle.width_bisect.specs.declared.asked.Asked.TheVariants.{Sure, Whole}

-- the mark that is given answers the question about a point whose mark is that one: it is the same, or Removed exactly where that is
abbrev pub IsAnswer : Asked → Mark → Mark → Type 0
IsAnswer Whole given mark = given ≡ mark
IsAnswer Sure given mark = is_removed_mark given ≡ is_removed_mark mark

-- the slabs that are excluded for it: the outer ones for a whole mark, and else the inner ones
abbrev pub slabs_for : Asked → List SlabSize → List SlabSize → List SlabSize
slabs_for Whole inner outer = outer
slabs_for Sure inner outer = inner
