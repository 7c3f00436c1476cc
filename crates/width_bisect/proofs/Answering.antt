-- The slabs that are excluded for a question about a point.
use Rattle.std.proofs.Common.{◌≡◌, Bool, true, false, ℕ, List, ℤ, if◌then◌else◌, refl, subst, sym, ap, ◌∙◌}
use Rattle.space.specs.Sweeps.{SweepOf}
use Rattle.bern_form.specs.Marks.{some_holds}
use Rattle.bern_form.specs.Slab.{SlabSize}
use Rattle.axis_cells.specs.declared.mark.Mark.{Mark}
use Rattle.axis_cells.specs.declared.mark.Mark.TheVariants.{Clear, Possible, Removed}
use Rattle.cutter_slabs.specs.Cutter.{CutterSize}
use Rattle.cutter_slabs.specs.Stacks.{inner_stack, outer_stack}
use Rattle.box_bisect.specs.Between.{is_removed_mark}
use Rattle.width_bisect.specs.Asked.{IsAnswer, slabs_for}
use Rattle.width_bisect.specs.declared.asked.Asked.{Asked}
use Rattle.width_bisect.specs.declared.asked.Asked.TheVariants.{Sure, Whole}
use Rattle.width_bisect.specs.Early.{lows_of}
use Rattle.width_bisect.proofs.Lows.{stacks_begin_alike}

-- the mark itself answers any question
pub answers : (asked : Asked) (given mark : Mark) → given ≡ mark → IsAnswer asked given mark
answers Whole given mark e = e
answers Sure given mark e = ap is_removed_mark e

-- whether a mark is Removed doesn't depend on the slabs that are excluded
pub removed_is_held : (h q : Bool) → is_removed_mark (if h then Removed else (if q then Possible else Clear)) ≡ h
removed_is_held true q = refl
removed_is_held false true = refl
removed_is_held false false = refl

-- these slabs hold what the inner ones do, and begin where they do
pub encloses : (asked : Asked) (inner outer slabs : List SlabSize) (m : SweepOf) (p : List ℤ) (i S : ℕ) → slabs ≡ slabs_for asked inner outer
    → (some_holds inner m p i S ≡ true → some_holds outer m p i S ≡ true) → some_holds inner m p i S ≡ true → some_holds slabs m p i S ≡ true
encloses Whole inner outer slabs m p i S e h held = subst (λ l. some_holds l m p i S ≡ true) (sym e) (h held)
encloses Sure inner outer slabs m p i S e h held = subst (λ l. some_holds l m p i S ≡ true) (sym e) held

pub begin_alike : (asked : Asked) (c : CutterSize) (n : ℕ) (slabs : List SlabSize) → slabs ≡ slabs_for asked (inner_stack c n) (outer_stack c n)
    → lows_of (inner_stack c n) ≡ lows_of slabs
begin_alike Whole c n slabs e = stacks_begin_alike c n ∙ ap lows_of (sym e)
begin_alike Sure c n slabs e = ap lows_of (sym e)
