-- Slabs that fit into the reach hold no point out of it; the mark of a point, case by case.
use Rattle.std.proofs.Common.{◌≡◌, Bool, true, false, ℕ, ◌+◌, ◌<◌, List, ℤ, pos, ◌+ℤ◌, ◌≤ℤ◌, ◌&&◌, if◌then◌else◌, arith, refl, sym, subst, ap, ◌∙◌}
use Rattle.std.specs.List.{All, Contains, list_all}
use Rattle.std.proofs.lemmas.Int.{ints}
use Rattle.std.proofs.lemmas.List.Recursion.{and_at}
use Rattle.std.proofs.lemmas.Bool.Decides.{not_from_Decides}
use Rattle.space.specs.Reach.{is_in_reach}
use Rattle.space.specs.Sweeps.{IsSweep, IsTime, SweepOf}
use Rattle.space.proofs.Naturals.{natural}
use Rattle.space.proofs.ReachLemmas.{InReach, decides_in_reach}
use Rattle.space.proofs.Tests.{decides_le}
use Rattle.bern_form.specs.Slab.{IsSlab, SlabSize}
use Rattle.bern_form.specs.Marks.{held_at_sample, is_possible_with, is_unexcluded_on_cell}
use Rattle.bern_form.proofs.Relations.{HeldAtSample, HoldsAt}
use Rattle.bern_form.proofs.Decided.{decides_held, says_no}
use Rattle.bern_form.proofs.Reach.{held_within, reach_more}
use Rattle.axis_cells.specs.declared.mark.Mark.{Mark}
use Rattle.axis_cells.specs.declared.mark.Mark.TheVariants.{Clear, Possible, Removed}
use Rattle.axis_cells.specs.Exclusion.{fits_in_reach}
use Rattle.axis_cells.specs.Marked.{mark_from}

held_in_reach : (reach : ℤ) (s : SlabSize) (m : SweepOf) (p : List ℤ) (a b : ℕ) → IsSlab s → fits_in_reach reach s ≡ true → IsSweep m → IsTime a b → HoldsAt s m p a b → InReach reach m.from m.to p
held_in_reach reach s m p a b valid fit sweep time held =
    let fits : (s.hi +ℤ s.dia) ≤ℤ reach = (decides_le (s.hi +ℤ s.dia) reach).0 fit in
    let hi = natural s.hi (omega (arith, ints, valid.above_tip, valid.ordered)) in
    let dia = natural s.dia valid.thick in
    let e1 = hi.1 in let e2 = dia.1 in
    reach_more (pos (hi.0 + dia.0)) reach m.from m.to p (omega (arith, ints, fits)) (held_within s hi.0 dia.0 m p a b hi.1 dia.1 sweep time held)

-- a fitting slab of a list fits
fits_among : (reach : ℤ) (slabs : List SlabSize) (s : SlabSize) → list_all (fits_in_reach reach) slabs ≡ true → Contains slabs s → fits_in_reach reach s ≡ true
fits_among reach slabs s all among = subst (λ s. fits_in_reach reach s ≡ true) among.2 (and_at (list_all (fits_in_reach reach)) (fits_in_reach reach) refl (λ x xs. refl) slabs among.0 s among.1 all)

pub none_out_of_reach : (reach : ℤ) (slabs : List SlabSize) (m : SweepOf) (p : List ℤ) (S : ℕ) → list_all (fits_in_reach reach) slabs ≡ true → All IsSlab slabs → IsSweep m → 0 < S
    → is_in_reach reach m.from m.to p ≡ false → held_at_sample slabs m p S ≡ false
none_out_of_reach reach slabs m p S fits valid sweep some out =
    says_no (HeldAtSample slabs m p S) (held_at_sample slabs m p S) (decides_held slabs m p S) (λ held.
    let slab = held.held.slab in let among = held.held.among in
    let is_slab = subst IsSlab among.2 (valid among.0 slab among.1) in
    not_from_Decides (is_in_reach reach m.from m.to p) (decides_in_reach reach m.from m.to p) out
    (held_in_reach reach slab m p held.sample S is_slab (fits_among reach slabs slab fits among) sweep (some, held.within) held.held.holds))

cond_true : (b : Bool) (x y : Mark) → b ≡ true → (if b then x else y) ≡ x
cond_true b x y h = cc

cond_false : (b : Bool) (x y : Mark) → b ≡ false → (if b then x else y) ≡ y
cond_false b x y h = cc

-- the mark where no inner slab holds the point at a sample
pub mark_possible : (inner outer : List SlabSize) (reach : ℤ) (m : SweepOf) (p : List ℤ) (S T : ℕ) → S ≡ T → held_at_sample inner m p S ≡ false
    → is_in_reach reach m.from m.to p ≡ true → is_unexcluded_on_cell outer m p S ≡ true → Possible ≡ mark_from inner outer reach m p T
mark_possible inner outer reach m p S T same none near left =
    subst (λ n. Possible ≡ mark_from inner outer reach m p n) same (sym (cond_false (held_at_sample inner m p S) Removed (if is_possible_with outer reach m p S then Possible else Clear) none
    ∙ cond_true (is_possible_with outer reach m p S) Possible Clear (ap (λ b. b && is_unexcluded_on_cell outer m p S) near ∙ left)))

pub mark_clear : (inner outer : List SlabSize) (reach : ℤ) (m : SweepOf) (p : List ℤ) (S T : ℕ) → S ≡ T → held_at_sample inner m p S ≡ false
    → is_possible_with outer reach m p S ≡ false → Clear ≡ mark_from inner outer reach m p T
mark_clear inner outer reach m p S T same none out =
    subst (λ n. Clear ≡ mark_from inner outer reach m p n) same (sym (cond_false (held_at_sample inner m p S) Removed (if is_possible_with outer reach m p S then Possible else Clear) none
    ∙ cond_false (is_possible_with outer reach m p S) Possible Clear out))

-- out of reach, or left on no cell, it is not possible
pub far_not_possible : (outer : List SlabSize) (reach : ℤ) (m : SweepOf) (p : List ℤ) (S : ℕ) → is_in_reach reach m.from m.to p ≡ false → is_possible_with outer reach m p S ≡ false
far_not_possible outer reach m p S far = ap (λ b. b && is_unexcluded_on_cell outer m p S) far

pub out_not_possible : (outer : List SlabSize) (reach : ℤ) (m : SweepOf) (p : List ℤ) (S : ℕ) → is_in_reach reach m.from m.to p ≡ true → is_unexcluded_on_cell outer m p S ≡ false
    → is_possible_with outer reach m p S ≡ false
out_not_possible outer reach m p S near out = ap (λ b. b && is_unexcluded_on_cell outer m p S) near ∙ out
