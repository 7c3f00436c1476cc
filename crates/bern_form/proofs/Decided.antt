-- Each test of slabs, cells and marks says yes exactly where its relation holds.
use Rattle.std.proofs.Common.{◌≡◌, ℕ, ◌+◌, ◌<◌, ℤ, pos, ◌≤ℤ◌, ◌<ℤ◌, ◌*ℤ◌, int_lt, Bool, true, false, not, List, [], ◌∷◌, get_or, zero-add, length, refl, sym, subst, arith, ⊎_elim, ◌∙◌}
use Rattle.std.specs.Bool.{Decides}
use Rattle.std.specs.List.{Contains, HoldsAt, list_all, list_any, range_with_len}
use Rattle.std.proofs.lemmas.Bool.{cases_Bool}
use Rattle.std.proofs.lemmas.Bool.Decides.{Decides-and, Decides-or, Decides-not, Decides-like, Decides-by_and, Decides-by_or, not_from_Decides}
use Rattle.std.proofs.lemmas.List.{get_or_default}
use Rattle.std.proofs.lemmas.List.FromFn.{length-range_with_len, get_or-range_with_len}
use Rattle.space.specs.Vectors.{dot, spread}
use Rattle.space.specs.Sweeps.{SweepOf, IsTime, axis_at, offset_at}
use Rattle.space.proofs.ReachLemmas.{InReach, decides_in_reach}
use Rattle.space.proofs.Tests.{decides_le, decides_lt}
use Rattle.bern_form.specs.Forms.{all_negative, all_positive}
use Rattle.bern_form.specs.Slab.{SlabSize, covers, holds_at}
use Rattle.bern_form.specs.Cells.{across_list, along_list, is_excluded, u_list}
use Rattle.bern_form.specs.Marks.{NeverHeld, some_below, some_holds, held_at_sample, is_unexcluded_on, is_unexcluded_on_cell, is_possible_with}
use Rattle.bern_form.proofs.Relations.{AllExcluded, AllNegative, AllPositive, Covers, Excluded, HeldAtSample, HoldsAt as SlabHoldsAt, IsPossible, LeftOn, LeftOnCell, SomeHolds}

-- a test of the numbers below n
pub decides_below : (p : ℕ → Bool) (P : ℕ → Type 0) (n : ℕ) → ((k : ℕ) → Decides (p k) (P k)) → Decides (some_below p n) ((k : ℕ) × (k < n) × P k)
decides_below p P n each =
    let below : length (range_with_len 0 n) ≡ n = length-range_with_len 0 n in
    Decides-like (list_any p (range_with_len 0 n))
    (λ (found : (k : ℕ) × (k < length (range_with_len 0 n)) × HoldsAt P (range_with_len 0 n) k).
    let l : found.0 < n = omega (arith, found.1) in
    let e : get_or (range_with_len 0 n) found.0 0 ≡ found.0 = get_or-range_with_len 0 n found.0 0 l ∙ zero-add found.0 in
    (found.0, l, subst P e (found.2 0)))
    (λ (some : (k : ℕ) × (k < n) × P k).
    (some.0, omega (arith, some.1), λ d. subst P (sym (get_or-range_with_len 0 n some.0 d some.1 ∙ zero-add some.0)) some.2))
    (Decides-by_or p P (list_any p) each refl (λ x xs. refl) (range_with_len 0 n))

-- a test whose relation does not hold says no
pub says_no : (P : Type 0) (b : Bool) → Decides b P → ¬ P → b ≡ false
says_no P b decides none = ⊎_elim (λ yes. absurd (none (decides.0 yes))) (λ no. no) (cases_Bool b)

-- where a number below n passes, the test says yes
pub found_below : (p : ℕ → Bool) (n k : ℕ) → k < n → p k ≡ true → some_below p n ≡ true
found_below p n k l passes = (decides_below p (λ j. p j ≡ true) n (λ j. (λ e. e, λ e. e))).1 (k, l, passes)

-- where none does, it says no
pub none_below : (p : ℕ → Bool) (n : ℕ) → ((k : ℕ) → k < n → p k ≡ false) → some_below p n ≡ false
none_below p n none =
    says_no ((k : ℕ) × (k < n) × (p k ≡ true)) (some_below p n) (decides_below p (λ j. p j ≡ true) n (λ j. (λ e. e, λ e. e)))
    (λ some. let e = none some.0 some.1 in let f = some.2 in cc)

no_place : (k : ℕ) → k < 0 → ⊥
no_place k l = omega (arith, l)

-- the slab at a place of a list is among its slabs
among_at : (P : SlabSize → Type 0) (slabs : List SlabSize) (k : ℕ) → k < length slabs → HoldsAt P slabs k → (s : SlabSize) × Contains slabs s × P s
among_at P [] k l held = absurd (no_place k l)
among_at P (x ∷ xs) k l held = (get_or (x ∷ xs) k x, (k, l, get_or_default (x ∷ xs) k (get_or (x ∷ xs) k x) x l), held x)

-- a test of some slab of a list
pub decides_among : (p : SlabSize → Bool) (P : SlabSize → Type 0) (slabs : List SlabSize) → ((s : SlabSize) → Decides (p s) (P s))
    → Decides (list_any p slabs) ((s : SlabSize) × Contains slabs s × P s)
decides_among p P slabs each =
    Decides-like (list_any p slabs)
    (λ (found : (k : ℕ) × (k < length slabs) × HoldsAt P slabs k). among_at P slabs found.0 found.1 found.2)
    (λ (some : (s : SlabSize) × Contains slabs s × P s).
    (some.1.0, some.1.1, λ d. subst P (sym (get_or_default slabs some.1.0 d some.0 some.1.1 ∙ some.1.2)) some.2))
    (Decides-by_or p P (list_any p) each refl (λ x xs. refl) slabs)

pub decides_covers : (s : SlabSize) (b u n w : ℤ) → Decides (covers s b u n w) (Covers s b u n w)
decides_covers s b u n w =
    let n_lo = ((b *ℤ s.lo) *ℤ (b *ℤ s.lo)) *ℤ n in let n_hi = ((b *ℤ s.hi) *ℤ (b *ℤ s.hi)) *ℤ n in let n_dia = ((b *ℤ s.dia) *ℤ (b *ℤ s.dia)) *ℤ n in
    let last = Decides-and _ _ (decides_le (u *ℤ u) n_hi) (decides_le (pos 4 *ℤ w) n_dia) in
    let all = Decides-and _ _ (decides_le (pos 0) u) (Decides-and _ _ (decides_le n_lo (u *ℤ u)) last) in
    Decides-like (covers s b u n w)
    (λ (h : (pos 0 ≤ℤ u) × ((n_lo ≤ℤ (u *ℤ u)) × (((u *ℤ u) ≤ℤ n_hi) × ((pos 4 *ℤ w) ≤ℤ n_dia)))).
    let covered : Covers s b u n w = record { forward = h.0; above = h.1.0; below = h.1.1.0; near = h.1.1.1 } in covered)
    (λ (c : Covers s b u n w). (c.forward, (c.above, (c.below, c.near)))) all

pub decides_some_holds : (slabs : List SlabSize) (m : SweepOf) (p : List ℤ) (a b : ℕ) → Decides (some_holds slabs m p a b) (SomeHolds slabs m p a b)
decides_some_holds slabs m p a b =
    let P = offset_at m p (pos a) (pos b) in let A = axis_at m (pos a) (pos b) in
    Decides-like (some_holds slabs m p a b)
    (λ (h : (s : SlabSize) × Contains slabs s × SlabHoldsAt s m p a b). let some : SomeHolds slabs m p a b = record { slab = h.0; among = h.1; holds = h.2 } in some)
    (λ (h : SomeHolds slabs m p a b). (h.slab, h.among, h.holds))
    (decides_among (λ s. holds_at s m p a b) (λ s. SlabHoldsAt s m p a b) slabs (λ s. decides_covers s (pos b) (dot P A) (dot A A) (spread P A)))

pub decides_held : (slabs : List SlabSize) (m : SweepOf) (p : List ℤ) (S : ℕ) → Decides (held_at_sample slabs m p S) (HeldAtSample slabs m p S)
decides_held slabs m p S =
    Decides-like (held_at_sample slabs m p S)
    (λ (h : (k : ℕ) × (k < S + 1) × SomeHolds slabs m p k S). let l = h.1 in let held : HeldAtSample slabs m p S = record { sample = h.0; within = omega (arith, l); held = h.2 } in held)
    (λ (h : HeldAtSample slabs m p S). (h.sample, omega (arith, h.within), h.held))
    (decides_below (λ k. some_holds slabs m p k S) (λ k. SomeHolds slabs m p k S) (S + 1) (λ k. decides_some_holds slabs m p k S))

pub decides_negative : (c : List ℤ) → Decides (all_negative c) (AllNegative c)
decides_negative c = Decides-by_and (λ z. int_lt z (pos 0)) (λ z. z <ℤ pos 0) (list_all (λ z. int_lt z (pos 0))) (λ z. decides_lt z (pos 0)) refl (λ x xs. refl) c

pub decides_positive : (c : List ℤ) → Decides (all_positive c) (AllPositive c)
decides_positive c = Decides-by_and (λ z. int_lt (pos 0) z) (λ z. pos 0 <ℤ z) (list_all (λ z. int_lt (pos 0) z)) (λ z. decides_lt (pos 0) z) refl (λ x xs. refl) c

pub decides_excluded : (s : SlabSize) (m : SweepOf) (p : List ℤ) (k S : ℕ) → Decides (is_excluded s m p k S) (Excluded s m p k S)
decides_excluded s m p k S =
    Decides-or _ _ (decides_negative (u_list m p k S))
    (Decides-or _ _ (decides_negative (along_list m p k S s.lo)) (Decides-or _ _ (decides_positive (along_list m p k S s.hi)) (decides_positive (across_list m p k S s.dia))))

pub decides_left_on : (slabs : List SlabSize) (m : SweepOf) (p : List ℤ) (k S : ℕ) → Decides (is_unexcluded_on slabs m p k S) (LeftOn slabs m p k S)
decides_left_on slabs m p k S =
    Decides-like (is_unexcluded_on slabs m p k S)
    (λ (h : (s : SlabSize) × Contains slabs s × ¬ Excluded s m p k S). let left : LeftOn slabs m p k S = record { slab = h.0; among = h.1; left = h.2 } in left)
    (λ (h : LeftOn slabs m p k S). (h.slab, h.among, h.left))
    (decides_among (λ s. not (is_excluded s m p k S)) (λ s. ¬ Excluded s m p k S) slabs (λ s. Decides-not (is_excluded s m p k S) (decides_excluded s m p k S)))

pub decides_left : (slabs : List SlabSize) (m : SweepOf) (p : List ℤ) (S : ℕ) → Decides (is_unexcluded_on_cell slabs m p S) (LeftOnCell slabs m p S)
decides_left slabs m p S =
    Decides-like (is_unexcluded_on_cell slabs m p S)
    (λ (h : (k : ℕ) × (k < S) × LeftOn slabs m p k S). let left : LeftOnCell slabs m p S = record { cell = h.0; within = h.1; left = h.2 } in left)
    (λ (h : LeftOnCell slabs m p S). (h.cell, h.within, h.left))
    (decides_below (λ k. is_unexcluded_on slabs m p k S) (λ k. LeftOn slabs m p k S) S (λ k. decides_left_on slabs m p k S))

pub decides_possible : (outer : List SlabSize) (reach : ℤ) (m : SweepOf) (p : List ℤ) (S : ℕ) → Decides (is_possible_with outer reach m p S) (IsPossible outer reach m p S)
decides_possible outer reach m p S =
    Decides-like (is_possible_with outer reach m p S)
    (λ (h : InReach reach m.from m.to p × LeftOnCell outer m p S). let possible : IsPossible outer reach m p S = record { in_reach = h.0; left = h.1 } in possible)
    (λ (h : IsPossible outer reach m p S). (h.in_reach, h.left))
    (Decides-and _ _ (decides_in_reach reach m.from m.to p) (decides_left outer m p S))

-- a slab that is left on no cell is excluded on each
pub excluded_unless_left : (outer : List SlabSize) (m : SweepOf) (p : List ℤ) (S : ℕ) → ¬ LeftOnCell outer m p S → AllExcluded outer m p S
excluded_unless_left outer m p S none = λ s k among l.
    ⊎_elim (λ yes. (decides_excluded s m p k S).0 yes)
    (λ no. absurd (none record { cell = k; within = l; left = record { slab = s; among = among; left = not_from_Decides (is_excluded s m p k S) (decides_excluded s m p k S) no } }))
    (cases_Bool (is_excluded s m p k S))

-- slabs of which none holds the point at a time never hold it
pub never_held : (slabs : List SlabSize) (m : SweepOf) (p : List ℤ) → ((a b : ℕ) → IsTime a b → ¬ SomeHolds slabs m p a b) → NeverHeld slabs m p
never_held slabs m p none = λ a b time. says_no (SomeHolds slabs m p a b) (some_holds slabs m p a b) (decides_some_holds slabs m p a b) (none a b time)
