-- What the mark of a point by a cutter says of the tests that it rests on, and of the cutter's two readings.
use Rattle.std.proofs.Common.{◌≡◌, ℕ, ◌<◌, ℤ, pos, Bool, true, false, List, refl, if◌then◌else◌}
use Rattle.std.specs.Bool.{Decides}
use Rattle.std.proofs.lemmas.Bool.Decides.{not_from_Decides}
use Rattle.space.specs.Sweeps.{IsSweep, SweepOf}
use Rattle.bern_form.specs.Slab.{SlabSize}
use Rattle.bern_form.specs.Marks.{held_at_sample, is_possible_with}
use Rattle.bern_form.proofs.Decided.{decides_held, decides_possible}
use Rattle.axis_cells.specs.declared.mark.Mark.TheVariants.{Clear, Possible, Removed}
use Rattle.axis_cells.specs.Marked.{mark_from}
use Rattle.cutter_slabs.specs.Cutter.{CutterSize, IsCutter}
use Rattle.cutter_slabs.specs.Meets.{MeetsLower, MeetsUpper}
use Rattle.cutter_slabs.specs.Stacks.{inner_stack, outer_stack, reach_of}
use Rattle.cutter_slabs.proofs.Sound.{met_possible, met_upper, sample_met}
use Rattle.cutter_marks.specs.MarkBy.{is_possible_by, is_sure_by, mark_by}

sure_of : (h q : Bool) → (if h then Removed else (if q then Possible else Clear)) ≡ Removed → h ≡ true
sure_of true q e = refl
sure_of false true e = cc
sure_of false false e = cc

out_of : (h q : Bool) → (if h then Removed else (if q then Possible else Clear)) ≡ Clear → q ≡ false
out_of true q e = cc
out_of false true e = cc
out_of false false e = refl

of_sure : (h q : Bool) → h ≡ true → (if h then Removed else (if q then Possible else Clear)) ≡ Removed
of_sure true q e = refl
of_sure false q e = cc

of_out : (h q : Bool) → (h ≡ true → q ≡ true) → q ≡ false → (if h then Removed else (if q then Possible else Clear)) ≡ Clear
of_out true true both e = cc
of_out true false both e = let q = both refl in cc
of_out false true both e = cc
of_out false false both e = refl

-- a mark says whether the inner slabs hold the point at a sample, and whether the outer ones leave it possible
pub removed_held : (inner outer : List SlabSize) (reach : ℤ) (m : SweepOf) (p : List ℤ) (S : ℕ) → mark_from inner outer reach m p S ≡ Removed → held_at_sample inner m p S ≡ true
removed_held inner outer reach m p S e = sure_of (held_at_sample inner m p S) (is_possible_with outer reach m p S) e

pub clear_out : (inner outer : List SlabSize) (reach : ℤ) (m : SweepOf) (p : List ℤ) (S : ℕ) → mark_from inner outer reach m p S ≡ Clear → is_possible_with outer reach m p S ≡ false
clear_out inner outer reach m p S e = out_of (held_at_sample inner m p S) (is_possible_with outer reach m p S) e

-- what is sure is possible too
pub sure_possible : (c : CutterSize) (n : ℕ) (m : SweepOf) (p : List ℤ) (S : ℕ) → IsCutter c → 0 < n → 0 < S → IsSweep m → is_sure_by c n m p S ≡ true → is_possible_by c n m p S ≡ true
unfolding is_sure_by is_possible_by
sure_possible c n m p S valid some cells sweep sure =
    (decides_possible (outer_stack c n) (pos (reach_of c)) m p S).1
    (met_possible c n m p S valid some cells sweep (met_upper c m p (sample_met c n m p S valid some cells ((decides_held (inner_stack c n) m p S).0 sure))))

-- a point is sure exactly where its mark is Removed
pub decides_sure : (c : CutterSize) (n : ℕ) (m : SweepOf) (p : List ℤ) (S : ℕ) → Decides (is_sure_by c n m p S) (mark_by c n m p S ≡ Removed)
unfolding is_sure_by mark_by
decides_sure c n m p S =
    let h = held_at_sample (inner_stack c n) m p S in let q = is_possible_with (outer_stack c n) (pos (reach_of c)) m p S in
    (of_sure h q, sure_of h q)

-- it is not possible exactly where its mark is Clear
pub clear_is : (c : CutterSize) (n : ℕ) (m : SweepOf) (p : List ℤ) (S : ℕ) → IsCutter c → 0 < n → 0 < S → IsSweep m
    → (is_possible_by c n m p S ≡ false → mark_by c n m p S ≡ Clear) × (mark_by c n m p S ≡ Clear → is_possible_by c n m p S ≡ false)
unfolding is_sure_by is_possible_by mark_by
clear_is c n m p S valid some cells sweep =
    let h = held_at_sample (inner_stack c n) m p S in let q = is_possible_with (outer_stack c n) (pos (reach_of c)) m p S in
    (of_out h q (sure_possible c n m p S valid some cells sweep), out_of h q)

-- a removed point is in the lower cutter at some rational time of the move
pub removed_is_met : (c : CutterSize) (n : ℕ) (m : SweepOf) (p : List ℤ) (S : ℕ) → IsCutter c → 0 < n → 0 < S → mark_by c n m p S ≡ Removed → MeetsLower c m p
unfolding mark_by
removed_is_met c n m p S valid some cells removed =
    sample_met c n m p S valid some cells ((decides_held (inner_stack c n) m p S).0 (removed_held (inner_stack c n) (outer_stack c n) (pos (reach_of c)) m p S removed))

-- a clear point is in the upper cutter at none
pub clear_is_not_met : (c : CutterSize) (n : ℕ) (m : SweepOf) (p : List ℤ) (S : ℕ) → IsCutter c → 0 < n → 0 < S → IsSweep m → mark_by c n m p S ≡ Clear → ¬ MeetsUpper c m p
unfolding mark_by
clear_is_not_met c n m p S valid some cells sweep clear met =
    not_from_Decides (is_possible_with (outer_stack c n) (pos (reach_of c)) m p S) (decides_possible (outer_stack c n) (pos (reach_of c)) m p S)
    (clear_out (inner_stack c n) (outer_stack c n) (pos (reach_of c)) m p S clear) (met_possible c n m p S valid some cells sweep met)
