-- The answer for a point that isn't behind the tip throughout, from its forms on a part of the move.
use Rattle.std.proofs.Common.{◌≡◌, true, ℕ, ◌+◌, ◌*◌, ◌^◌, ◌<◌, ◌≤◌, List, ℤ, pos, arith, ap, refl, sym, ◌∙◌}
use Rattle.space.specs.Ranges.{IsPoint}
use Rattle.space.specs.Sweeps.{SweepOf, IsSweep}
use Rattle.bern_form.specs.Marks.{some_holds}
use Rattle.bern_form.specs.Sizes.{IsBounded2, axis_limit, scale_limit}
use Rattle.bern_form.specs.Slab.{SlabSize}
use Rattle.axis_cells.specs.declared.mark.Mark.{Mark}
use Rattle.axis_cells.specs.Marked.{mark_from}
use Rattle.cutter_slabs.specs.Cutter.{CutterSize}
use Rattle.cutter_slabs.specs.Stacks.{inner_stack, outer_stack, reach_of}
use Rattle.cutter_marks.specs.MarkBy.{mark_by}
use Rattle.box_bisect.specs.Between.{IsMarkBetween}
use Rattle.width_bisect.specs.declared.asked.Asked.{Asked}
use Rattle.width_bisect.specs.Asked.{IsAnswer, slabs_for}
use Rattle.width_bisect.specs.Forms.{AreWidthForms}
use Rattle.width_bisect.specs.Parts.{IsOpenPart}
use Rattle.width_bisect.specs.Sizes.{IsWeighted4, height_limit, width_limit}
use Rattle.width_bisect.proofs.Answering.{encloses}
use Rattle.width_bisect.proofs.Closing.{forms_small}
use Rattle.width_bisect.proofs.Parts.{answered_on_part, part_kept}

-- the forms are small enough for a stretch
pub part_small : (slabs : List SlabSize) (u n width : List ℤ) (m : SweepOf) (p : List ℤ) (S T levels : ℕ) → IsSweep m → IsPoint p → S ≡ T
    → S ≤ scale_limit
    → IsOpenPart slabs u n width m p T levels
    → record { u : IsBounded2 height_limit u; n : IsBounded2 (3 * (axis_limit * axis_limit)) n; width : IsWeighted4 width_limit width }
part_small slabs u n width m p S T levels sweep point cells few kept =
    let part = part_kept slabs u n width u n width m p S T levels refl refl refl cells kept in
    let small = forms_small u n width m p part.first (part.first + 2 ^ levels) S sweep point (omega arith) part.within few part.forms in
    record { u = small.u_small; n = small.n_small; width = small.width_small }

-- a mark that is right on the part answers
pub answered_ahead : (asked : Asked) (given : Mark) (c : CutterSize) (b : ℕ) (inner slabs : List SlabSize) (u n width : List ℤ) (m : SweepOf) (p : List ℤ) (S levels : ℕ)
    → 0 < S → inner ≡ inner_stack c b → slabs ≡ slabs_for asked (inner_stack c b) (outer_stack c b)
    → ((q : SweepOf) (r : List ℤ) (i s : ℕ) → some_holds inner q r i s ≡ true → some_holds (outer_stack c b) q r i s ≡ true)
    → IsOpenPart (outer_stack c b) u n width m p S levels
    → ((j : ℕ) → AreWidthForms u n width m p j (j + 2 ^ levels) S → ((i : ℕ) → some_holds inner m p i S ≡ true → some_holds slabs m p i S ≡ true)
    → IsMarkBetween given inner slabs m p j (j + 2 ^ levels) S)
    → (IsMarkBetween given inner (outer_stack c b) m p 0 S S → given ≡ mark_from inner (outer_stack c b) (pos (reach_of c)) m p S)
    → IsAnswer asked given (mark_by c b m p S)
answered_ahead asked given c b inner slabs u n width m p S levels some stack asks encloses_all part found is =
    let outer = outer_stack c b in
    let from_stack = ap (λ l. slabs_for asked l outer) (sym stack) in
    let enclosed = λ (i : ℕ) (h : some_holds inner m p i S ≡ true). encloses_all m p i S h in
    let held = λ (i : ℕ) (h : some_holds inner m p i S ≡ true). encloses asked inner outer slabs m p i S (asks ∙ from_stack) (enclosed i) h in
    answered_on_part asked given c b inner slabs m p part.first (part.first + 2 ^ levels) S some part.within stack asks enclosed part.early part.late
    (found part.first part.forms held) is
