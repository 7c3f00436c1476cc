-- The marks of the points of a line.
use Rattle.std.specs.Prelude.{◌≡◌, ℕ, ◌≤◌, ◌<◌, ◌⊎◌, List, ℤ, Bool, true, false, IsTrue, map, if◌then◌else◌}
use Rattle.std.specs.List.{range_with_len, slice_index_or}
use Rattle.space.specs.Reach.{is_in_reach}
use Rattle.space.specs.Sweeps.{SweepOf}
use Rattle.bern_form.specs.Marks.{some_holds}
use Rattle.bern_form.specs.Slab.{SlabSize}
use Rattle.ray_grid.specs.Selects.{Selects}
use Rattle.axis_cells.specs.declared.mark.Mark.{Mark}
use Rattle.axis_cells.specs.declared.mark.Mark.TheVariants.{Clear, Possible, Removed}
use Rattle.box_bisect.specs.Between.{IsMarkBetween}

-- one flag for each of the first n points of a line: whether the point passes the test
abbrev pub flags_along : (List ℤ → Bool) → (ℕ → List ℤ) → ℕ → List Bool
flags_along test point n = map (λ l. test (point l)) (range_with_len 0 n)

-- the indices from a on and below b are those of the first n points of a line that are in reach of a move
abbrev pub AreInReach : ℤ → SweepOf → (ℕ → List ℤ) → ℕ → ℕ → ℕ → Type 0
AreInReach reach m point n a b = Selects a b (λ l. (l < n) × IsTrue (is_in_reach reach m.from m.to (point l)))

-- what an inner slab holds at a sample of S an outer one holds too
abbrev pub IsEnclosed : List SlabSize → List SlabSize → SweepOf → ℕ → Type 0
IsEnclosed inner outer m S = (p : List ℤ) (i : ℕ) → some_holds inner m p i S ≡ true → some_holds outer m p i S ≡ true

-- the mark at an index
abbrev pub mark_at : List Mark → ℕ → Mark
mark_at marks l = slice_index_or marks l Clear

-- the greater of two marks
abbrev pub greater_mark : Mark → Mark → Mark
greater_mark Removed late = Removed
greater_mark Possible Removed = Removed
greater_mark Possible Possible = Possible
greater_mark Possible Clear = Possible
greater_mark Clear late = late

-- the mark is Possible or Removed
abbrev pub is_possible_mark : Mark → Bool
is_possible_mark Removed = true
is_possible_mark Possible = true
is_possible_mark Clear = false

-- the mark of a point by only its two samples j and k: Removed where some slab holds it at one of them, else Possible
abbrev pub mark_by_samples : List SlabSize → SweepOf → List ℤ → ℕ → ℕ → ℕ → Mark
mark_by_samples slabs m p j k S =
    if some_holds slabs m p k S then Removed else (if some_holds slabs m p j S then Removed else Possible)

-- a point's mark was raised to its mark between the samples j and k, where that is greater
pub record IsRaised (inner outer : List SlabSize) (m : SweepOf) (p : List ℤ) (S j k : ℕ) (old new : Mark) : Type 0 where
  pub found : Mark
  pub between : IsMarkBetween found inner outer m p j k S
  pub raised : new ≡ greater_mark old found

-- so were the marks of the points from a on and below b, and no others changed
pub record AreRaised (inner outer : List SlabSize) (m : SweepOf) (point : ℕ → List ℤ) (S j k a b : ℕ) (old new : List Mark)
    : Type 0 where
  pub inside : (l : ℕ) → a ≤ l → l < b → IsRaised inner outer m (point l) S j k (mark_at old l) (mark_at new l)
  pub outside : (l : ℕ) → (l < a) ⊎ (b ≤ l) → mark_at new l ≡ mark_at old l
