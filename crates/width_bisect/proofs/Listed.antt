-- What the lists of a stretch say of the slabs on it.
use Rattle.std.proofs.Common.{◌≡◌, Bool, true, false, not, ℕ, ◌+◌, ◌^◌, List, ℤ, ap, sym, subst, ◌∙◌}
use Rattle.space.specs.Sweeps.{SweepOf}
use Rattle.bern_form.specs.Between.{d_between}
use Rattle.bern_form.specs.Forms.{all_negative, all_positive, lifted, product22}
use Rattle.bern_form.specs.Slab.{SlabSize}
use Rattle.cutter_slabs.specs.Rising.{IsRising}
use Rattle.box_bisect.specs.SlabTests.{TurnsAt, is_below_by, is_unexcluded_by, is_unexcluded_with}
use Rattle.width_bisect.specs.declared.lists.Lists.{Lists}
use Rattle.width_bisect.specs.declared.stretch.Stretch.{Stretch}
use Rattle.width_bisect.specs.Forms.{AreWidthForms}
use Rattle.width_bisect.specs.Searches.{IsWidthSearch, is_not_below}
use Rattle.width_bisect.specs.Turns.{StopsAt}
use Rattle.width_bisect.proofs.Searching.{left_by, search_forms, test_as, turns_by, width_by}

-- what the code has: the lists are those of the stretch
abbrev pub AreListsOf : Lists → Stretch → ℕ → Type 0
AreListsOf l w S = record { scale : l.scale ≡ S; raised : l.raised ≡ lifted w.n; height : l.height ≡ product22 w.u w.u }

abbrev passes : Lists → SlabSize → Bool
passes l s = not (is_below_by l.scale l.raised l.height s)

-- whether they leave a slab is whether the forms do
pub lists_leave : (slabs : List SlabSize) (left : Bool) (w : Stretch) (l : Lists) (m : SweepOf) (p : List ℤ) (S j k : ℕ)
    → AreListsOf l w S → all_negative w.u ≡ false → left ≡ is_unexcluded_by l.scale false l.raised l.height w.width slabs
    → AreWidthForms w.u w.n w.width m p j k S → left ≡ is_unexcluded_with slabs S w.u w.n (d_between m p j k S)
lists_leave slabs left w l m p S j k of ahead found forms =
    let width = width_by w.u w.n w.width m p j k S forms in
    found ∙ left_by slabs S l.scale l.raised l.height w.width w.u w.n (d_between m p j k S) of.scale ahead of.raised of.height width

-- in a search: where a walk down from the slab `high` stops, the point is below each slab from there on
pub search_turns : (inner outer : List SlabSize) (w : Stretch) (l : Lists) (m : SweepOf) (p : List ℤ) (S high reached levels j : ℕ)
    → AreListsOf l w S → StopsAt (passes l) outer high reached → IsWidthSearch inner outer w.u w.n w.width m p S high levels j
    → TurnsAt (is_not_below S w.u w.n) outer reached
search_turns inner outer w l m p S high reached levels j of stops s =
    turns_by outer S l.scale high reached l.raised l.height w.u w.n of.scale of.raised of.height stops s.turns

pub search_leaves : (inner outer : List SlabSize) (left : Bool) (w : Stretch) (l : Lists)
    (m : SweepOf) (p : List ℤ) (S high reached levels j : ℕ)
    → AreListsOf l w S → all_negative w.u ≡ false → IsRising outer → StopsAt (passes l) outer high reached
    → (IsRising outer → all_positive l.raised ≡ true → TurnsAt (passes l) outer reached
    → left ≡ is_unexcluded_by l.scale false l.raised l.height w.width outer)
    → IsWidthSearch inner outer w.u w.n w.width m p S high levels j
    → left ≡ is_unexcluded_with outer S w.u w.n (d_between m p j (j + 2 ^ levels) S)
search_leaves inner outer left w l m p S high reached levels j of ahead rising stops found s =
    let turns = subst (λ (t : SlabSize → Bool). TurnsAt t outer reached)
    (sym (test_as S l.scale l.raised l.height w.u w.n of.scale of.raised of.height))
    (search_turns inner outer w l m p S high reached levels j of stops s) in
    lists_leave outer left w l m p S j (j + 2 ^ levels) of ahead (found rising (ap all_positive of.raised ∙ s.is_open) turns)
    (search_forms inner outer w.u w.n w.width m p S high levels j s)
