-- The tests of a holder are those of two stacks that have it alone; what is met is possible, and what is sure is met.
use Rattle.std.proofs.Common.{◌≡◌, Bool, true, false, not, ◌&&◌, ◌||◌, if◌then◌else◌, ℕ, ◌+◌, ◌^◌, ◌<◌, ◌≤◌, List, [], ◌∷◌, ℤ, pos, ◌+ℤ◌, arith, refl, sym, ap, ap₂, ◌∙◌, ⊎_elim}
use Rattle.std.specs.List.{list_any, range_with_len}
use Rattle.std.proofs.lemmas.Bool.{cases_Bool}
use Rattle.std.proofs.lemmas.Int.{ints}
use Rattle.std.proofs.Math.Pow.{pow_mono}
use Rattle.space.specs.Reach.{is_in_reach}
use Rattle.space.specs.Sweeps.{IsSweep, SweepOf, axis_at, offset_at}
use Rattle.space.specs.Vectors.{dot, spread}
use Rattle.space.proofs.Naturals.{natural}
use Rattle.space.proofs.ReachLemmas.{InReach, decides_in_reach}
use Rattle.bern_form.specs.Cells.{is_excluded}
use Rattle.bern_form.specs.Marks.{held_at_sample, is_possible_with, is_unexcluded_on, some_below, some_holds}
use Rattle.bern_form.specs.Slab.{IsSlab, SlabSize, holds_at}
use Rattle.bern_form.proofs.Decided.{decides_below, decides_covers, found_below}
use Rattle.bern_form.proofs.Exclusion.{cell_of, excluded_holds_not}
use Rattle.bern_form.proofs.Reach.{held_within, reach_more}
use Rattle.bern_form.proofs.Relations.{HoldsAt}
use Rattle.axis_cells.specs.declared.mark.Mark.{Mark}
use Rattle.axis_cells.specs.declared.mark.Mark.TheVariants.{Clear, Possible, Removed}
use Rattle.axis_cells.specs.Marked.{mark_from}
use Rattle.holder_check.specs.Holder.{HolderMeets, holder_reach, is_holder_possible, is_holder_sure}

pub some_cells : (depth : ℕ) → 0 < 2 ^ depth
some_cells depth = let some : 2 ^ 0 ≤ 2 ^ depth = pow_mono {i = 0} {j = depth} (omega arith) in some

or_none : (b : Bool) → (b || false) ≡ b
or_none true = refl
or_none false = refl

any_same : (p q : ℕ → Bool) (xs : List ℕ) → ((x : ℕ) → p x ≡ q x) → list_any p xs ≡ list_any q xs
any_same p q [] same = refl
any_same p q (x ∷ xs) same = ap₂ (λ a b. a || b) (same x) (any_same p q xs same)

-- the tests of a stack of one slab
pub held_alone : (s : SlabSize) (m : SweepOf) (p : List ℤ) (S : ℕ) → held_at_sample (s ∷ []) m p S ≡ is_holder_sure s m p S
unfolding is_holder_sure
held_alone s m p S =
    any_same (λ k. some_holds (s ∷ []) m p k S) (λ k. holds_at s m p k S) (range_with_len 0 (S + 1)) (λ k. or_none (holds_at s m p k S))

pub possible_alone : (s : SlabSize) (m : SweepOf) (p : List ℤ) (S : ℕ) → is_possible_with (s ∷ []) (holder_reach s) m p S ≡ is_holder_possible s m p S
unfolding is_holder_possible
possible_alone s m p S =
    ap (λ b. is_in_reach (holder_reach s) m.from m.to p && b)
    (any_same (λ k. is_unexcluded_on (s ∷ []) m p k S) (λ k. not (is_excluded s m p k S)) (range_with_len 0 S) (λ k. or_none (not (is_excluded s m p k S))))

-- a point that the holder is sure of is met
pub sure_is_met : (s : SlabSize) (m : SweepOf) (p : List ℤ) (S : ℕ) → 0 < S → is_holder_sure s m p S ≡ true → HolderMeets s m p
unfolding is_holder_sure
sure_is_met s m p S some sure =
    let found = (decides_below (λ k. holds_at s m p k S) (λ k. holds_at s m p k S ≡ true) (S + 1) (λ k. (λ e. e, λ e. e))).0 sure in
    let l : found.0 < S + 1 = found.1 in
    record { numerator = found.0; denominator = S; time = (some, omega (arith, l)); held = found.2 }

both_true : (a b : Bool) → a ≡ true → b ≡ true → (a && b) ≡ true
both_true true b e f = f
both_true false b e f = cc

not_held : (b : Bool) → b ≡ true → b ≡ false → ⊥
not_held b e f = cc

within_reach : (s : SlabSize) (m : SweepOf) (p : List ℤ) → IsSlab s → IsSweep m → HolderMeets s m p → InReach (holder_reach s) m.from m.to p
within_reach s m p valid sweep met =
    let a = met.numerator in let b = met.denominator in
    let P = offset_at m p (pos a) (pos b) in let A = axis_at m (pos a) (pos b) in
    let held : HoldsAt s m p a b = (decides_covers s (pos b) (dot P A) (dot A A) (spread P A)).0 met.held in
    let hi = natural s.hi (omega (arith, ints, valid.above_tip, valid.ordered)) in
    let dia = natural s.dia valid.thick in
    let e = hi.1 in let f = dia.1 in
    reach_more (pos (hi.0 + dia.0)) (s.hi +ℤ s.dia) m.from m.to p (omega (arith, ints, e, f)) (held_within s hi.0 dia.0 m p a b hi.1 dia.1 sweep met.time held)

-- what is met is possible
pub met_is_possible : (s : SlabSize) (m : SweepOf) (p : List ℤ) (S : ℕ) → IsSlab s → IsSweep m → 0 < S → HolderMeets s m p → is_holder_possible s m p S ≡ true
unfolding is_holder_possible
met_is_possible s m p S valid sweep some met =
    let a = met.numerator in let b = met.denominator in
    let cell = cell_of a b S met.time some in
    let left : not (is_excluded s m p cell.0 S) ≡ true =
    ⊎_elim (λ out. absurd (not_held (holds_at s m p a b) met.held (excluded_holds_not s m p cell.0 S a b out cell.2))) (λ no. ap not no) (cases_Bool (is_excluded s m p cell.0 S)) in
    both_true (is_in_reach (holder_reach s) m.from m.to p) (some_below (λ k. not (is_excluded s m p k S)) S)
    ((decides_in_reach (holder_reach s) m.from m.to p).1 (within_reach s m p valid sweep met))
    (found_below (λ k. not (is_excluded s m p k S)) S cell.0 cell.1 left)

-- so a sure point is possible, and one that is not possible is neither met nor sure
pub sure_is_possible : (s : SlabSize) (m : SweepOf) (p : List ℤ) (S : ℕ) → IsSlab s → IsSweep m → 0 < S → is_holder_sure s m p S ≡ true → is_holder_possible s m p S ≡ true
sure_is_possible s m p S valid sweep some sure = met_is_possible s m p S valid sweep some (sure_is_met s m p S some sure)

pub out_is_not_met : (s : SlabSize) (m : SweepOf) (p : List ℤ) (S : ℕ) → IsSlab s → IsSweep m → 0 < S → is_holder_possible s m p S ≡ false → ¬ HolderMeets s m p
out_is_not_met s m p S valid sweep some out met = not_held (is_holder_possible s m p S) (met_is_possible s m p S valid sweep some met) out

pub out_is_not_sure : (s : SlabSize) (m : SweepOf) (p : List ℤ) (S : ℕ) → IsSlab s → IsSweep m → 0 < S → is_holder_possible s m p S ≡ false → is_holder_sure s m p S ≡ false
out_is_not_sure s m p S valid sweep some out =
    ⊎_elim (λ sure. absurd (not_held (is_holder_possible s m p S) (sure_is_possible s m p S valid sweep some sure) out)) (λ no. no) (cases_Bool (is_holder_sure s m p S))

-- a point out of reach is not possible
pub far_is_out : (s : SlabSize) (m : SweepOf) (p : List ℤ) (S : ℕ) → is_in_reach (holder_reach s) m.from m.to p ≡ false → is_holder_possible s m p S ≡ false
unfolding is_holder_possible
far_is_out s m p S far = ap (λ b. b && some_below (λ k. not (is_excluded s m p k S)) S) far

-- what a mark says of the two tests that it rests on
abbrev pub is_sure_mark : Mark → Bool
is_sure_mark Removed = true
is_sure_mark Possible = false
is_sure_mark Clear = false

abbrev pub is_possible_mark : Mark → Bool
is_possible_mark Removed = true
is_possible_mark Possible = true
is_possible_mark Clear = false

sure_as : (h q : Bool) → is_sure_mark (if h then Removed else (if q then Possible else Clear)) ≡ h
sure_as true q = refl
sure_as false true = refl
sure_as false false = refl

possible_as : (h q : Bool) → (h ≡ true → q ≡ true) → is_possible_mark (if h then Removed else (if q then Possible else Clear)) ≡ q
possible_as true true both = refl
possible_as true false both = let e = both refl in cc
possible_as false true both = refl
possible_as false false both = refl

pub mark_says_sure : (v s : SlabSize) (m : SweepOf) (p : List ℤ) (S : ℕ) (reach : ℤ) (mark : Mark) → v ≡ s → reach ≡ holder_reach s
    → mark ≡ mark_from (v ∷ []) (v ∷ []) reach m p S → is_sure_mark mark ≡ is_holder_sure s m p S
mark_says_sure v s m p S reach mark same far is =
    ap is_sure_mark (is ∙ ap (λ (l : SlabSize). mark_from (l ∷ []) (l ∷ []) reach m p S) same)
    ∙ sure_as (held_at_sample (s ∷ []) m p S) (is_possible_with (s ∷ []) reach m p S) ∙ held_alone s m p S

pub mark_says_possible : (v s : SlabSize) (m : SweepOf) (p : List ℤ) (S : ℕ) (reach : ℤ) (mark : Mark) → v ≡ s → reach ≡ holder_reach s → IsSlab s → IsSweep m → 0 < S
    → mark ≡ mark_from (v ∷ []) (v ∷ []) reach m p S → is_possible_mark mark ≡ is_holder_possible s m p S
mark_says_possible v s m p S reach mark same far valid sweep some is =
    let h = held_at_sample (s ∷ []) m p S in let q = is_possible_with (s ∷ []) (holder_reach s) m p S in
    ap is_possible_mark (is ∙ ap (λ (l : SlabSize). mark_from (l ∷ []) (l ∷ []) reach m p S) same ∙ ap (λ r. mark_from (s ∷ []) (s ∷ []) r m p S) far)
    ∙ possible_as h q (λ held. possible_alone s m p S ∙ sure_is_possible s m p S valid sweep some (sym (held_alone s m p S) ∙ held))
    ∙ possible_alone s m p S
