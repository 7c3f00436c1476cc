-- What the stacks say of the cutter, by the tests of points and marks, for the two lists that a value holds.
use Rattle.std.proofs.Common.{◌≡◌, ℕ, ◌<◌, List, ℤ, pos, true, false, length, ap, sym, subst, ◌∙◌}
use Rattle.std.proofs.lemmas.Bool.Decides.{not_from_Decides}
use Rattle.space.specs.Reach.{is_in_reach}
use Rattle.space.specs.Sweeps.{IsSweep, IsTime, SweepOf}
use Rattle.space.proofs.ReachLemmas.{decides_in_reach}
use Rattle.bern_form.specs.Marks.{held_at_sample, is_possible_with, some_holds}
use Rattle.bern_form.specs.Slab.{SlabSize}
use Rattle.bern_form.proofs.Decided.{decides_held, decides_possible, decides_some_holds}
use Rattle.bern_form.proofs.Relations.{HeldAtSample, IsPossible, SomeHolds}
use Rattle.cutter_slabs.specs.Meets.{InLowerAt, InUpperAt, MeetsLower, MeetsUpper}
use Rattle.cutter_slabs.specs.Rising.{IsRising}
use Rattle.cutter_slabs.specs.Stacks.{AreStacks, StacksOf, inner_stack, outer_stack, reach_of}
use Rattle.cutter_slabs.proofs.Rising.{inner_rises, outer_rises}
use Rattle.cutter_slabs.proofs.Sound.{as_many, held_inside, held_outer, inside_held, inside_in_reach, met_possible, met_upper, sample_met}

-- what a value's two lists are, by its view
pub read : (s now : StacksOf) (inner outer : List SlabSize) → s ≡ now → AreStacks s.cutter s.slabs inner outer → AreStacks now.cutter now.slabs inner outer
read s now inner outer e are =
    subst (λ (x : StacksOf). AreStacks x.cutter x.slabs inner outer) e are

pub inner_inside : (s : StacksOf) (inner outer xs : List SlabSize) → AreStacks s.cutter s.slabs inner outer → xs ≡ inner
    → (m : SweepOf) (p : List ℤ) (a b : ℕ) → some_holds xs m p a b ≡ true → InLowerAt s.cutter m p a b
inner_inside s inner outer xs are e m p a b held =
    held_inside s.cutter s.slabs m p a b are.valid are.some (subst (λ l. SomeHolds l m p a b) (e ∙ are.inner_is) ((decides_some_holds xs m p a b).0 held))

pub inner_rising : (s : StacksOf) (inner outer xs : List SlabSize) → AreStacks s.cutter s.slabs inner outer → xs ≡ inner → IsRising xs
inner_rising s inner outer xs are e = subst IsRising (sym (e ∙ are.inner_is)) (inner_rises s.cutter s.slabs are.valid are.some)

pub outer_rising : (s : StacksOf) (inner outer xs : List SlabSize) → AreStacks s.cutter s.slabs inner outer → xs ≡ outer → IsRising xs
outer_rising s inner outer xs are e = subst IsRising (sym (e ∙ are.outer_is)) (outer_rises s.cutter s.slabs are.valid are.some)

pub inner_enclosed : (s : StacksOf) (inner outer xs : List SlabSize) → AreStacks s.cutter s.slabs inner outer → xs ≡ inner
    → (m : SweepOf) (p : List ℤ) (a b : ℕ) → some_holds xs m p a b ≡ true → some_holds (outer_stack s.cutter s.slabs) m p a b ≡ true
inner_enclosed s inner outer xs are e m p a b held =
    (decides_some_holds (outer_stack s.cutter s.slabs) m p a b).1
    (held_outer s.cutter s.slabs m p a b are.valid are.some (subst (λ l. SomeHolds l m p a b) (e ∙ are.inner_is) ((decides_some_holds xs m p a b).0 held)))

-- the sample at which it is held
held_in : (s : StacksOf) (inner outer xs : List SlabSize) → AreStacks s.cutter s.slabs inner outer → xs ≡ inner
    → (m : SweepOf) (p : List ℤ) (S : ℕ) → held_at_sample xs m p S ≡ true → HeldAtSample (inner_stack s.cutter s.slabs) m p S
held_in s inner outer xs are e m p S held = subst (λ l. HeldAtSample l m p S) (e ∙ are.inner_is) ((decides_held xs m p S).0 held)

pub inner_met : (s : StacksOf) (inner outer xs : List SlabSize) → AreStacks s.cutter s.slabs inner outer → xs ≡ inner
    → (m : SweepOf) (p : List ℤ) (S : ℕ) → 0 < S → held_at_sample xs m p S ≡ true → MeetsLower s.cutter m p
inner_met s inner outer xs are e m p S cells held = sample_met s.cutter s.slabs m p S are.valid are.some cells (held_in s inner outer xs are e m p S held)

pub inner_possible : (s : StacksOf) (inner outer xs : List SlabSize) → AreStacks s.cutter s.slabs inner outer → xs ≡ inner
    → (m : SweepOf) (p : List ℤ) (S : ℕ) → 0 < S → IsSweep m → held_at_sample xs m p S ≡ true → is_possible_with (outer_stack s.cutter s.slabs) (pos (reach_of s.cutter)) m p S ≡ true
inner_possible s inner outer xs are e m p S cells sweep held =
    (decides_possible (outer_stack s.cutter s.slabs) (pos (reach_of s.cutter)) m p S).1
    (met_possible s.cutter s.slabs m p S are.valid are.some cells sweep (met_upper s.cutter m p (inner_met s inner outer xs are e m p S cells held)))

pub outer_as_many : (s : StacksOf) (inner outer xs : List SlabSize) → AreStacks s.cutter s.slabs inner outer → xs ≡ outer → length xs ≡ length (inner_stack s.cutter s.slabs)
outer_as_many s inner outer xs are e = ap length (e ∙ are.outer_is) ∙ as_many s.cutter s.slabs

pub outer_encloses : (s : StacksOf) (inner outer xs : List SlabSize) → AreStacks s.cutter s.slabs inner outer → xs ≡ outer
    → (m : SweepOf) (p : List ℤ) (a b : ℕ) → InUpperAt s.cutter m p a b → some_holds xs m p a b ≡ true
outer_encloses s inner outer xs are e m p a b inside =
    (decides_some_holds xs m p a b).1 (subst (λ l. SomeHolds l m p a b) (sym (e ∙ are.outer_is)) (inside_held s.cutter s.slabs m p a b are.valid are.some inside))

pub outer_clear : (s : StacksOf) (inner outer xs : List SlabSize) → AreStacks s.cutter s.slabs inner outer → xs ≡ outer
    → (m : SweepOf) (p : List ℤ) (S : ℕ) → 0 < S → IsSweep m → is_possible_with xs (pos (reach_of s.cutter)) m p S ≡ false → MeetsUpper s.cutter m p → ⊥
outer_clear s inner outer xs are e m p S cells sweep out met =
    not_from_Decides (is_possible_with xs (pos (reach_of s.cutter)) m p S) (decides_possible xs (pos (reach_of s.cutter)) m p S) out
    (subst (λ l. IsPossible l (pos (reach_of s.cutter)) m p S) (sym (e ∙ are.outer_is)) (met_possible s.cutter s.slabs m p S are.valid are.some cells sweep met))

pub reach_encloses : (s : StacksOf) (inner outer : List SlabSize) (r : ℤ) → AreStacks s.cutter s.slabs inner outer → r ≡ pos (reach_of s.cutter)
    → (m : SweepOf) (p : List ℤ) (a b : ℕ) → IsSweep m → IsTime a b → InUpperAt s.cutter m p a b → is_in_reach r m.from m.to p ≡ true
reach_encloses s inner outer r are e m p a b sweep time inside =
    subst (λ (x : ℤ). is_in_reach x m.from m.to p ≡ true) (sym e)
    ((decides_in_reach (pos (reach_of s.cutter)) m.from m.to p).1 (inside_in_reach s.cutter m p a b are.valid sweep time inside))
