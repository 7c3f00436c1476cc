-- The boxes in time of one point: the whole move, and each box's two halves, down to the cells. A box is undecided where some of
-- the slabs is not excluded on it; on the halves of a box that excludes a slab the slab is excluded too.
use Rattle.std.specs.Prelude.{ℕ, zero, suc, ◌+◌, ◌^◌, List, ℤ, if◌then◌else◌}
use Rattle.space.specs.Sweeps.{SweepOf}
use Rattle.bern_form.specs.Slab.{SlabSize}
use Rattle.bern_form.specs.Between.{is_unexcluded_between}

-- how many boxes are undecided of the one from the sample j of S that is 2^n cells long, its halves and theirs: none where it is
-- decided, else itself and those of its halves, where it has any
unfoldable pub undecided_from : List SlabSize → SweepOf → List ℤ → ℕ → ℕ → ℕ → ℕ
undecided_from slabs m p S zero j = if is_unexcluded_between slabs m p j (j + 1) S then 1 else 0
undecided_from slabs m p S (suc n) j =
    let halves = undecided_from slabs m p S n j + undecided_from slabs m p S n (j + 2 ^ n) in
    if is_unexcluded_between slabs m p j (j + 2 ^ suc n) S then 1 + halves else 0

-- of the whole move, at the cells of a depth
abbrev pub undecided_boxes : List SlabSize → SweepOf → List ℤ → ℕ → ℕ
undecided_boxes slabs m p depth = undecided_from slabs m p (2 ^ depth) depth 0
