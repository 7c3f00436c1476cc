-- The mark of a point from that on a part of the move, where no outer slab is left elsewhere.
use Rattle.std.proofs.Common.{◌≡◌, Bool, true, false, ℕ, ◌+◌, ◌-◌, ◌^◌, ◌<◌, ◌≤◌, List, ℤ, pos, arith, refl, subst, sym, ap, ◌∙◌, ⊎_elim}
use Rattle.std.proofs.lemmas.Bool.{cases_lt}
use Rattle.space.specs.Sweeps.{SweepOf}
use Rattle.bern_form.specs.Marks.{held_at_sample, is_possible_with, is_unexcluded_on, some_holds}
use Rattle.bern_form.specs.Slab.{SlabSize}
use Rattle.bern_form.proofs.Decided.{found_below, none_below}
use Rattle.bern_form.proofs.Finer.{all_out, held_at_none}
use Rattle.axis_cells.specs.declared.mark.Mark.{Mark}
use Rattle.axis_cells.specs.declared.mark.Mark.TheVariants.{Clear, Possible, Removed}
use Rattle.axis_cells.specs.Marked.{mark_from}
use Rattle.cutter_slabs.specs.Cutter.{CutterSize}
use Rattle.cutter_slabs.specs.Stacks.{inner_stack, outer_stack, reach_of}
use Rattle.cutter_marks.specs.MarkBy.{mark_by}
use Rattle.box_bisect.specs.Between.{IsFreeBetween, IsMarkBetween, IsOutWithin, is_removed_mark}
use Rattle.box_bisect.proofs.Searching.{out_both}
use Rattle.width_bisect.specs.Asked.{IsAnswer, slabs_for}
use Rattle.width_bisect.specs.declared.asked.Asked.{Asked}
use Rattle.width_bisect.specs.declared.asked.Asked.TheVariants.{Sure, Whole}
use Rattle.width_bisect.specs.Forms.{AreWidthForms}
use Rattle.width_bisect.specs.Parts.{IsOpenPart}
use Rattle.width_bisect.proofs.Answering.{removed_is_held}
use Rattle.width_bisect.proofs.Closing.{marked_by}

-- no slab holds the point at either end of a cell on which none is left
unless : (a b : Bool) → (a ≡ true → b ≡ true) → b ≡ false → a ≡ false
unless true b h e = let q = h refl in cc
unless false b h e = refl

free_by_cell : (inner outer : List SlabSize) (m : SweepOf) (p : List ℤ) (S c i : ℕ) → 0 < S → (some_holds inner m p i S ≡ true → some_holds outer m p i S ≡ true)
    → is_unexcluded_on outer m p c S ≡ false → c ≤ i → i ≤ c + 1 → some_holds inner m p i S ≡ false
free_by_cell inner outer m p S c i some enclosed none after before =
    unless (some_holds inner m p i S) (some_holds outer m p i S) enclosed (held_at_none outer m p S 0 c i some (all_out outer m p c (c + 1) S none) after before)

-- so none holds it at a sample of the move, where none does on the part
pub free_on_whole : (inner outer : List SlabSize) (m : SweepOf) (p : List ℤ) (j k S : ℕ) → 0 < S → ((i : ℕ) → some_holds inner m p i S ≡ true → some_holds outer m p i S ≡ true)
    → IsOutWithin outer m p 0 j S → IsOutWithin outer m p k S S → IsFreeBetween inner m p j k S → IsFreeBetween inner m p 0 S S
free_on_whole inner outer m p j k S some enclosed early late free = record {
  none = λ i after before.
      ⊎_elim (λ less. free_by_cell inner outer m p S i i some (enclosed i) (early.none i after less) (omega arith) (omega arith))
      (λ more. ⊎_elim
      (λ beyond. free_by_cell inner outer m p S (i - 1) i some (enclosed i) (late.none (i - 1) (omega (arith, beyond)) (omega (arith, beyond, before))) (omega arith) (omega arith))
      (λ within. free.none i more within) (cases_lt k i)) (cases_lt i j);
}

-- the mark on the part is that of the whole
widened : (mark : Mark) (inner outer : List SlabSize) (m : SweepOf) (p : List ℤ) (j k S : ℕ) → 0 < S → k ≤ S → ((i : ℕ) → some_holds inner m p i S ≡ true → some_holds outer m p i S ≡ true)
    → IsOutWithin outer m p 0 j S → IsOutWithin outer m p k S S → IsMarkBetween mark inner outer m p j k S → IsMarkBetween mark inner outer m p 0 S S
widened Removed inner outer m p j k S some within enclosed early late found =
    record { sample = found.sample; after = omega arith; before = omega (arith, within, found.before); held = found.held }
widened Possible inner outer m p j k S some within enclosed early late found = (
  free_on_whole inner outer m p j k S some enclosed early late found.0,
  record { cell = found.1.cell; after = omega arith; before = omega (arith, within, found.1.before); left = found.1.left },
)
widened Clear inner outer m p j k S some within enclosed early late found = (
  free_on_whole inner outer m p j k S some enclosed early late found.0,
  out_both outer m p 0 j S S early (out_both outer m p j k S S found.1 late),
)

-- and it is Removed where the point is held at a sample, whichever slabs are excluded
sure_is : (mark : Mark) (inner outer slabs : List SlabSize) (m : SweepOf) (p : List ℤ) (j k S : ℕ) → 0 < S → k ≤ S → ((i : ℕ) → some_holds inner m p i S ≡ true → some_holds outer m p i S ≡ true)
    → IsOutWithin outer m p 0 j S → IsOutWithin outer m p k S S → IsMarkBetween mark inner slabs m p j k S → is_removed_mark mark ≡ held_at_sample inner m p S
sure_is Removed inner outer slabs m p j k S some within enclosed early late found =
    sym (found_below (λ i. some_holds inner m p i S) (S + 1) found.sample (omega (arith, within, found.before)) found.held)
sure_is Possible inner outer slabs m p j k S some within enclosed early late found =
    let free = free_on_whole inner outer m p j k S some enclosed early late found.0 in
    sym (none_below (λ i. some_holds inner m p i S) (S + 1) (λ i l. free.none i (omega arith) (omega (arith, l))))
sure_is Clear inner outer slabs m p j k S some within enclosed early late found =
    let free = free_on_whole inner outer m p j k S some enclosed early late found.0 in
    sym (none_below (λ i. some_holds inner m p i S) (S + 1) (λ i l. free.none i (omega arith) (omega (arith, l))))

-- so it answers the question
pub answered_on_part : (asked : Asked) (given : Mark) (c : CutterSize) (n : ℕ) (inner slabs : List SlabSize) (m : SweepOf) (p : List ℤ) (j k S : ℕ) → 0 < S → k ≤ S
    → inner ≡ inner_stack c n → slabs ≡ slabs_for asked (inner_stack c n) (outer_stack c n)
    → ((i : ℕ) → some_holds inner m p i S ≡ true → some_holds (outer_stack c n) m p i S ≡ true)
    → IsOutWithin (outer_stack c n) m p 0 j S → IsOutWithin (outer_stack c n) m p k S S → IsMarkBetween given inner slabs m p j k S
    → (IsMarkBetween given inner (outer_stack c n) m p 0 S S → given ≡ mark_from inner (outer_stack c n) (pos (reach_of c)) m p S) → IsAnswer asked given (mark_by c n m p S)
answered_on_part Whole given c n inner slabs m p j k S some within ei es enclosed early late found is =
    let outer = outer_stack c n in
    marked_by given c n inner m p S ei
    (is (widened given inner outer m p j k S some within enclosed early late (subst (λ l. IsMarkBetween given inner l m p j k S) es found)))
answered_on_part Sure given c n inner slabs m p j k S some within ei es enclosed early late found is =
    let outer = outer_stack c n in let R = pos (reach_of c) in
    sure_is given inner outer slabs m p j k S some within enclosed early late found
    ∙ sym (removed_is_held (held_at_sample inner m p S) (is_possible_with outer R m p S))
    ∙ ap is_removed_mark (marked_by (mark_from inner outer R m p S) c n inner m p S ei refl)

-- a part by forms that are equal, and the whole move as one
pub part_kept : (slabs : List SlabSize) (u n width u' n' width' : List ℤ) (m : SweepOf) (p : List ℤ) (S T levels : ℕ) → u ≡ u' → n ≡ n' → width ≡ width' → S ≡ T
    → IsOpenPart slabs u' n' width' m p T levels → IsOpenPart slabs u n width m p S levels
part_kept slabs u n width u' n' width' m p S T levels eu en ew e part =
    subst (λ k. IsOpenPart slabs u n width m p k levels) (sym e) record {
      first = part.first;
      within = part.within;
      forms = record { u_is = eu ∙ part.forms.u_is; n_is = en ∙ part.forms.n_is; width_is = ew ∙ part.forms.width_is };
      early = part.early;
      late = part.late;
    }

pub whole_part : (slabs : List SlabSize) (u n width : List ℤ) (m : SweepOf) (p : List ℤ) (depth : ℕ) → AreWidthForms u n width m p 0 (2 ^ depth) (2 ^ depth)
    → IsOpenPart slabs u n width m p (2 ^ depth) depth
whole_part slabs u n width m p depth forms =
    let S = 2 ^ depth in let end : S ≡ 0 + S = omega arith in record {
      first = 0;
      within = omega arith;
      forms = subst (λ k. AreWidthForms u n width m p 0 k S) end forms;
      early = record { none = λ c x y. absurd (omega (arith, x, y)) };
      late = record { none = λ c x y. absurd (omega (arith, x, y)) };
    }
