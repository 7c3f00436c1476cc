-- The mark of a point from what was found between the first and the last sample of the move.
use Rattle.std.proofs.Common.{◌≡◌, Bool, true, false, ℕ, ◌+◌, List, ℤ, if◌then◌else◌, arith, refl}
use Rattle.space.specs.Reach.{is_in_reach}
use Rattle.space.specs.Sweeps.{SweepOf}
use Rattle.bern_form.specs.Marks.{held_at_sample, is_possible_with, is_unexcluded_on, some_holds}
use Rattle.bern_form.specs.Slab.{SlabSize}
use Rattle.bern_form.proofs.Decided.{found_below, none_below}
use Rattle.axis_cells.specs.declared.mark.Mark.{Mark}
use Rattle.axis_cells.specs.declared.mark.Mark.TheVariants.{Clear, Possible, Removed}
use Rattle.axis_cells.specs.Marked.{mark_from}
use Rattle.axis_cells.proofs.Marks.{far_not_possible, mark_clear, mark_possible, out_not_possible}
use Rattle.box_bisect.specs.Between.{IsFreeBetween, IsMarkBetween}

removed_is : (h : Bool) (x : Mark) → h ≡ true → Removed ≡ (if h then Removed else x)
removed_is h x e = cc

none_held : (inner : List SlabSize) (m : SweepOf) (p : List ℤ) (S : ℕ) → IsFreeBetween inner m p 0 S S → held_at_sample inner m p S ≡ false
none_held inner m p S free = none_below (λ k. some_holds inner m p k S) (S + 1) (λ k l. free.none k (omega arith) (omega (arith, l)))

pub mark_is : (mark : Mark) (inner outer : List SlabSize) (reach : ℤ) (m : SweepOf) (p : List ℤ) (S : ℕ) → is_in_reach reach m.from m.to p ≡ true → IsMarkBetween mark inner outer m p 0 S S
    → mark ≡ mark_from inner outer reach m p S
mark_is Removed inner outer reach m p S near found =
    removed_is (held_at_sample inner m p S) _ (found_below (λ k. some_holds inner m p k S) (S + 1) found.sample (omega (arith, found.before)) found.held)
mark_is Possible inner outer reach m p S near found =
    mark_possible inner outer reach m p S S refl (none_held inner m p S found.0) near (found_below (λ k. is_unexcluded_on outer m p k S) S found.1.cell found.1.before found.1.left)
mark_is Clear inner outer reach m p S near found =
    mark_clear inner outer reach m p S S refl (none_held inner m p S found.0)
    (out_not_possible outer reach m p S near (none_below (λ k. is_unexcluded_on outer m p k S) S (λ k l. found.1.none k (omega arith) l)))

not_sure : (h q : Bool) → (h ≡ true → q ≡ true) → q ≡ false → h ≡ false
not_sure true q both e = let f = both refl in cc
not_sure false q both e = refl

-- out of reach, where what is sure would be possible
pub far_mark : (inner outer : List SlabSize) (reach : ℤ) (m : SweepOf) (p : List ℤ) (S : ℕ) → is_in_reach reach m.from m.to p ≡ false
    → (held_at_sample inner m p S ≡ true → is_possible_with outer reach m p S ≡ true) → Clear ≡ mark_from inner outer reach m p S
far_mark inner outer reach m p S far both =
    let out = far_not_possible outer reach m p S far in
    mark_clear inner outer reach m p S S refl (not_sure (held_at_sample inner m p S) (is_possible_with outer reach m p S) both out) out
