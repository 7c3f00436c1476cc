-- What a mark says of a point is what the definitions say of it.
use Rattle.std.proofs.Common.{◌≡◌, ℕ, ◌^◌, Bool, true, false, List, ℤ, if◌then◌else◌, refl, subst, sym, ap, ◌∙◌}
use Rattle.space.specs.Sweeps.{SweepOf}
use Rattle.axis_cells.specs.declared.mark.Mark.{Mark}
use Rattle.axis_cells.specs.declared.mark.Mark.TheVariants.{Clear, Possible, Removed}
use Rattle.cutter_slabs.specs.Cutter.{CutterSize}
use Rattle.cutter_marks.specs.MarkBy.{is_possible_by, is_sure_by, mark_by}
use Rattle.box_bisect.specs.Between.{is_removed_mark}
use Rattle.width_bisect.specs.Asked.{IsAnswer}
use Rattle.width_bisect.specs.declared.asked.Asked.{Asked}
use Rattle.width_bisect.specs.declared.asked.Asked.TheVariants.{Sure, Whole}
use Rattle.wanted_marks.specs.Rays.{MoveOf, is_possible_in, is_sure_in}
use Rattle.wanted_marks.specs.Told.{asked_at, tells_possible, tells_sure}

told_sure : (h q : Bool) → tells_sure (if h then Removed else (if q then Possible else Clear)) ≡ h
told_sure true q = refl
told_sure false true = refl
told_sure false false = refl

told_possible : (h q : Bool) → (h ≡ true → q ≡ true) → tells_possible (if h then Removed else (if q then Possible else Clear)) ≡ q
told_possible true true both = refl
told_possible true false both = let q = both refl in cc
told_possible false true both = refl
told_possible false false both = refl

pub tells_sure_by : (mark : Mark) (c : CutterSize) (n : ℕ) (m : SweepOf) (p : List ℤ) (S : ℕ) → mark ≡ mark_by c n m p S → tells_sure mark ≡ is_sure_by c n m p S
unfolding mark_by is_sure_by is_possible_by
tells_sure_by mark c n m p S e = ap tells_sure e ∙ told_sure (is_sure_by c n m p S) (is_possible_by c n m p S)

pub tells_possible_by : (mark : Mark) (c : CutterSize) (n : ℕ) (m : SweepOf) (p : List ℤ) (S : ℕ) → (is_sure_by c n m p S ≡ true → is_possible_by c n m p S ≡ true)
    → mark ≡ mark_by c n m p S → tells_possible mark ≡ is_possible_by c n m p S
unfolding mark_by is_sure_by is_possible_by
tells_possible_by mark c n m p S both e = ap tells_possible e ∙ told_possible (is_sure_by c n m p S) (is_possible_by c n m p S) both

-- an answer to a question says whether the point is sure, and a whole one whether it is possible
removed_is_sure : (mark : Mark) → is_removed_mark mark ≡ tells_sure mark
removed_is_sure Removed = refl
removed_is_sure Possible = refl
removed_is_sure Clear = refl

pub answer_tells_sure : (asked : Asked) (given mark : Mark) → IsAnswer asked given mark → tells_sure given ≡ tells_sure mark
answer_tells_sure Whole given mark e = ap tells_sure e
answer_tells_sure Sure given mark e = sym (removed_is_sure given) ∙ e ∙ removed_is_sure mark

pub whole_answer : (asked : Asked) (given mark : Mark) → asked ≡ Whole → IsAnswer asked given mark → given ≡ mark
whole_answer Whole given mark is e = e
whole_answer Sure given mark is e = cc

-- for a point that is not in the set the whole mark is wanted
pub asks_whole : (asked : Asked) (o : Bool) → asked ≡ asked_at o → o ≡ false → asked ≡ Whole
asks_whole asked true e is = cc
asks_whole asked false e is = e

-- so of the answer by a move that is the one of the question
pub marked_sure : (asked : Asked) (given : Mark) (v w : MoveOf) (p : List ℤ) → w ≡ v → IsAnswer asked given (mark_by w.cutter w.slabs w.sweep p (2 ^ w.depth))
    → tells_sure given ≡ is_sure_in v p
marked_sure asked given v w p same answer =
    let mark = mark_by v.cutter v.slabs v.sweep p (2 ^ v.depth) in
    answer_tells_sure asked given mark (subst (λ (x : MoveOf). IsAnswer asked given (mark_by x.cutter x.slabs x.sweep p (2 ^ x.depth))) same answer)
    ∙ tells_sure_by mark v.cutter v.slabs v.sweep p (2 ^ v.depth) refl

pub marked_possible : (asked : Asked) (given : Mark) (v w : MoveOf) (p : List ℤ) → w ≡ v → (is_sure_in v p ≡ true → is_possible_in v p ≡ true)
    → IsAnswer asked given (mark_by w.cutter w.slabs w.sweep p (2 ^ w.depth)) → asked ≡ Whole → tells_possible given ≡ is_possible_in v p
marked_possible asked given v w p same both answer whole =
    let mark = mark_by v.cutter v.slabs v.sweep p (2 ^ v.depth) in
    tells_possible_by given v.cutter v.slabs v.sweep p (2 ^ v.depth) both
    (whole_answer asked given mark whole (subst (λ (x : MoveOf). IsAnswer asked given (mark_by x.cutter x.slabs x.sweep p (2 ^ x.depth))) same answer))
