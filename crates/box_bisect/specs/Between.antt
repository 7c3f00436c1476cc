-- The mark of a point between two samples of a move.
use Rattle.std.specs.Prelude.{◌≡◌, ℕ, ◌+◌, ◌^◌, ◌≤◌, ◌<◌, List, ℤ, Bool, true, false}
use Rattle.space.specs.Sweeps.{SweepOf}
use Rattle.bern_form.specs.Slab.{SlabSize}
use Rattle.bern_form.specs.Marks.{is_unexcluded_on, some_holds}
use Rattle.axis_cells.specs.declared.mark.Mark.{Mark}
use Rattle.axis_cells.specs.declared.mark.Mark.TheVariants.{Clear, Possible, Removed}
use Rattle.box_bisect.specs.Stretches.{AreFormsBetween}

-- some of the slabs holds the point at some sample from j to k, and at none
pub record IsHeldBetween (slabs : List SlabSize) (m : SweepOf) (p : List ℤ) (j k S : ℕ) : Type 0 where
  pub sample : ℕ
  pub after : j ≤ sample
  pub before : sample ≤ k
  pub held : some_holds slabs m p sample S ≡ true

pub record IsFreeBetween (slabs : List SlabSize) (m : SweepOf) (p : List ℤ) (j k S : ℕ) : Type 0 where
  pub none : (i : ℕ) → j ≤ i → i ≤ k → some_holds slabs m p i S ≡ false

-- some of the slabs is left on some cell between the samples j and k, and on none
pub record IsUnexcludedWithin (slabs : List SlabSize) (m : SweepOf) (p : List ℤ) (j k S : ℕ) : Type 0 where
  pub cell : ℕ
  pub after : j ≤ cell
  pub before : cell < k
  pub left : is_unexcluded_on slabs m p cell S ≡ true

pub record IsOutWithin (slabs : List SlabSize) (m : SweepOf) (p : List ℤ) (j k S : ℕ) : Type 0 where
  pub none : (c : ℕ) → j ≤ c → c < k → is_unexcluded_on slabs m p c S ≡ false

-- Removed: some inner slab holds the point at a sample. Possible: none does, and some outer slab is left on a cell. Clear: neither.
abbrev pub IsMarkBetween : Mark → List SlabSize → List SlabSize → SweepOf → List ℤ → ℕ → ℕ → ℕ → Type 0
IsMarkBetween Removed inner outer m p j k S = IsHeldBetween inner m p j k S
IsMarkBetween Possible inner outer m p j k S = IsFreeBetween inner m p j k S × IsUnexcludedWithin outer m p j k S
IsMarkBetween Clear inner outer m p j k S = IsFreeBetween inner m p j k S × IsOutWithin outer m p j k S

-- What a search of the stretch of 2^n cells from the sample j starts from: its forms, and no inner slab holds the point at either
-- end. What an inner slab holds at a sample an outer one holds too.
pub record IsSearched (inner outer : List SlabSize) (u n d : List ℤ) (m : SweepOf) (p : List ℤ) (S levels j : ℕ) : Type 0 where
  pub some : 0 < S
  pub forms : AreFormsBetween u n d m p j (j + 2 ^ levels) S
  pub enclosed : (i : ℕ) → some_holds inner m p i S ≡ true → some_holds outer m p i S ≡ true
  pub first_free : some_holds inner m p j S ≡ false
  pub last_free : some_holds inner m p (j + 2 ^ levels) S ≡ false

-- the greater of two marks, of which the second isn't Removed
abbrev pub joined_mark : Mark → Mark → Mark
joined_mark Removed late = Removed
joined_mark Possible late = Possible
joined_mark Clear late = late

abbrev pub is_removed_mark : Mark → Bool
is_removed_mark Removed = true
is_removed_mark Possible = false
is_removed_mark Clear = false
