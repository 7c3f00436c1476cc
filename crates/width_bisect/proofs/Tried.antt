-- What one sample says of a stretch, and the mark of a stretch of which a mark is known.
use Rattle.std.proofs.Common.{◌≡◌, Bool, true, false, ℕ, ◌+◌, ◌-◌, ◌^◌, ◌≤◌, ◌<◌, List, get_or, ℤ, pos, ◌*ℤ◌, int_le, arith, refl, subst, sym, ap, ◌∙◌, ⊎_elim}
use Rattle.std.proofs.lemmas.Bool.{cases_Bool, cases_lt}
use Rattle.space.specs.Sweeps.{SweepOf}
use Rattle.space.specs.Vectors.{at}
use Rattle.bern_form.specs.Between.{d_between}
use Rattle.bern_form.specs.Marks.{is_unexcluded_on, some_holds}
use Rattle.bern_form.specs.Slab.{SlabSize}
use Rattle.bern_form.proofs.Finer.{all_out, held_at_none}
use Rattle.axis_cells.specs.declared.mark.Mark.{Mark}
use Rattle.axis_cells.specs.declared.mark.Mark.TheVariants.{Clear, Possible, Removed}
use Rattle.box_bisect.specs.Between.{IsMarkBetween, IsUnexcludedWithin, is_removed_mark, joined_mark}
use Rattle.box_bisect.specs.RayMarks.{is_possible_mark}
use Rattle.box_bisect.specs.SlabTests.{TurnsAt, is_reached, no_slab, some_covers}
use Rattle.box_bisect.proofs.Searching.{some_cells}
use Rattle.width_bisect.specs.Early.{lows_of, sample_mark, slabs_after}
use Rattle.width_bisect.specs.Forms.{AreWidthForms}
use Rattle.width_bisect.specs.Searches.{IsWidthSearch}
use Rattle.width_bisect.proofs.Lows.{as_many, low_at}
use Rattle.width_bisect.proofs.Searching.{covers_as, covers_first, covers_last, four_first, four_last, spread_at}

-- the slab that a sample reaches has the same number in stacks that begin alike
reached_as : (S u n : ℤ) (a b : List SlabSize) (i : ℕ) → lows_of a ≡ lows_of b → is_reached S u n (get_or a i no_slab) ≡ is_reached S u n (get_or b i no_slab)
reached_as S u n a b i e = ap (λ z. int_le (((S *ℤ z) *ℤ (S *ℤ z)) *ℤ n) (u *ℤ u)) (low_at a b i e)

pub reached_alike : (S u n : ℤ) (a b : List SlabSize) (j : ℕ) → lows_of a ≡ lows_of b → TurnsAt (is_reached S u n) b j → TurnsAt (is_reached S u n) a j
reached_alike S u n a b j e turns =
    let many = as_many a b e in record {
      within = subst (λ k. j ≤ k) (sym many) turns.within;
      before = λ i next. reached_as S u n a b i e ∙ turns.before i next;
      after = λ l. reached_as S u n a b j e ∙ turns.after (subst (λ k. j < k) many l);
    }

-- a sample's mark, by whether slabs hold the point there
pub marked_as_last : (inner outer : List SlabSize) (mark : Mark) (scale : ℕ) (x y z : ℤ) (u n width : List ℤ) (m : SweepOf) (p : List ℤ) (j k S : ℕ) → AreWidthForms u n width m p j k S
    → ((w : ℤ) → z ≡ pos 4 *ℤ w → mark ≡ sample_mark (some_covers (pos scale) x y w inner) (some_covers (pos scale) x y w outer)) → scale ≡ S → x ≡ at u 2 → y ≡ at n 2 → z ≡ at width 4
    → mark ≡ sample_mark (some_holds inner m p k S) (some_holds outer m p k S)
marked_as_last inner outer mark scale x y z u n width m p j k S f is eS ex ey ez =
    let w = spread_at 2 u n (d_between m p j k S) in
    is w (ez ∙ four_last u n width m p j k S f)
    ∙ ap (λ b. sample_mark b (some_covers (pos scale) x y w outer)) (covers_as inner scale S x y w (at u 2) (at n 2) eS ex ey ∙ covers_last inner u n width m p j k S f)
    ∙ ap (λ b. sample_mark (some_holds inner m p k S) b) (covers_as outer scale S x y w (at u 2) (at n 2) eS ex ey ∙ covers_last outer u n width m p j k S f)

pub marked_as_first : (inner outer : List SlabSize) (mark : Mark) (scale : ℕ) (x y z : ℤ) (u n width : List ℤ) (m : SweepOf) (p : List ℤ) (j k S : ℕ) → AreWidthForms u n width m p j k S
    → ((w : ℤ) → z ≡ pos 4 *ℤ w → mark ≡ sample_mark (some_covers (pos scale) x y w inner) (some_covers (pos scale) x y w outer)) → scale ≡ S → x ≡ at u 0 → y ≡ at n 0 → z ≡ at width 0
    → mark ≡ sample_mark (some_holds inner m p j S) (some_holds outer m p j S)
marked_as_first inner outer mark scale x y z u n width m p j k S f is eS ex ey ez =
    let w = spread_at 0 u n (d_between m p j k S) in
    is w (ez ∙ four_first u n width m p j k S f)
    ∙ ap (λ b. sample_mark b (some_covers (pos scale) x y w outer)) (covers_as inner scale S x y w (at u 0) (at n 0) eS ex ey ∙ covers_first inner u n width m p j k S f)
    ∙ ap (λ b. sample_mark (some_holds inner m p j S) b) (covers_as outer scale S x y w (at u 0) (at n 0) eS ex ey ∙ covers_first outer u n width m p j k S f)

-- what it says: where it is Removed an inner slab holds the point, else none does, and where it is Possible an outer one does
pub tried_held : (mark : Mark) (a b : Bool) → mark ≡ sample_mark a b → is_removed_mark mark ≡ true → a ≡ true
tried_held mark true b e r = refl
tried_held mark false true e r = let same : is_removed_mark mark ≡ false = ap is_removed_mark e in cc
tried_held mark false false e r = let same : is_removed_mark mark ≡ false = ap is_removed_mark e in cc

pub tried_free : (mark : Mark) (a b : Bool) → mark ≡ sample_mark a b → is_removed_mark mark ≡ false → (a ≡ true → b ≡ true) → a ≡ false
tried_free mark false b e r h = refl
tried_free mark true true e r h = let same : is_removed_mark mark ≡ true = ap is_removed_mark e in cc
tried_free mark true false e r h = let both = h refl in cc

pub tried_outer : (mark : Mark) (a b : Bool) → mark ≡ sample_mark a b → is_possible_mark mark ≡ true → b ≡ true
tried_outer mark a true e q = refl
tried_outer mark a false e q = let same : is_possible_mark mark ≡ false = ap is_possible_mark e in cc

-- a slab that holds the point at a sample is left on the cells next to it, of which one is on any stretch with that sample
no_both : (b : Bool) → b ≡ true → b ≡ false → ⊥
no_both b e f = cc

cell_is_unexcluded : (outer : List SlabSize) (m : SweepOf) (p : List ℤ) (S c i : ℕ) → 0 < S → some_holds outer m p i S ≡ true → c ≤ i → i ≤ c + 1 → is_unexcluded_on outer m p c S ≡ true
cell_is_unexcluded outer m p S c i some held after before =
    ⊎_elim (λ left. left) (λ out. absurd (no_both (some_holds outer m p i S) held (held_at_none outer m p S 0 c i some (all_out outer m p c (c + 1) S out) after before)))
    (cases_Bool (is_unexcluded_on outer m p c S))

pub left_beside : (outer : List SlabSize) (m : SweepOf) (p : List ℤ) (j k i S : ℕ) → 0 < S → j < k → j ≤ i → i ≤ k → some_holds outer m p i S ≡ true → IsUnexcludedWithin outer m p j k S
left_beside outer m p j k i S some cells after before held =
    ⊎_elim (λ inside. record { cell = i; after = after; before = inside; left = cell_is_unexcluded outer m p S i i some held (omega arith) (omega arith) })
    (λ (end : k ≤ i). record { cell = i - 1; after = omega arith; before = omega arith; left = cell_is_unexcluded outer m p S (i - 1) i some held (omega arith) (omega arith) })
    (cases_lt i k)

-- two marks by one sample each, at the ends of a stretch: the greater of them
pub both_free : (a b : Mark) → is_removed_mark a ≡ false → is_removed_mark b ≡ false → is_removed_mark (joined_mark a b) ≡ false
both_free Removed b h k = h
both_free Possible b h k = refl
both_free Clear b h k = k

pub left_at_ends : (first last : Mark) (inner outer : List SlabSize) (m : SweepOf) (p : List ℤ) (j k S : ℕ) → 0 < S → j < k → first ≡ sample_mark (some_holds inner m p j S) (some_holds outer m p j S)
    → last ≡ sample_mark (some_holds inner m p k S) (some_holds outer m p k S) → is_possible_mark (joined_mark first last) ≡ true → IsUnexcludedWithin outer m p j k S
left_at_ends Removed last inner outer m p j k S some cells ef el h =
    left_beside outer m p j k j S some cells (omega arith) (omega (arith, cells)) (tried_outer Removed (some_holds inner m p j S) (some_holds outer m p j S) ef refl)
left_at_ends Possible last inner outer m p j k S some cells ef el h =
    left_beside outer m p j k j S some cells (omega arith) (omega (arith, cells)) (tried_outer Possible (some_holds inner m p j S) (some_holds outer m p j S) ef refl)
left_at_ends Clear last inner outer m p j k S some cells ef el h =
    left_beside outer m p j k k S some cells (omega (arith, cells)) (omega arith) (tried_outer last (some_holds inner m p k S) (some_holds outer m p k S) el h)

-- the mark of a stretch by the slabs that are excluded once a mark is known, and that mark
pub joined_known : (found known : Mark) (inner outer slabs : List SlabSize) (m : SweepOf) (p : List ℤ) (j k S : ℕ) → slabs ≡ slabs_after known inner outer → is_removed_mark known ≡ false
    → (is_possible_mark known ≡ true → IsUnexcludedWithin outer m p j k S) → IsMarkBetween found inner slabs m p j k S → IsMarkBetween (joined_mark found known) inner outer m p j k S
joined_known found Removed inner outer slabs m p j k S e free left a = absurd (no_both true refl free)
joined_known Removed Possible inner outer slabs m p j k S e free left a = a
joined_known Possible Possible inner outer slabs m p j k S e free left a = (a.0, left refl)
joined_known Clear Possible inner outer slabs m p j k S e free left a = (a.0, left refl)
joined_known Removed Clear inner outer slabs m p j k S e free left a = a
joined_known Possible Clear inner outer slabs m p j k S e free left a = subst (λ l. IsMarkBetween Possible inner l m p j k S) e a
joined_known Clear Clear inner outer slabs m p j k S e free left a = subst (λ l. IsMarkBetween Clear inner l m p j k S) e a

pub after_possible : (known : Mark) (inner outer : List SlabSize) → is_removed_mark known ≡ false → is_possible_mark known ≡ true → inner ≡ slabs_after known inner outer
after_possible Removed inner outer free possible = absurd (no_both true refl free)
after_possible Possible inner outer free possible = refl
after_possible Clear inner outer free possible = absurd (no_both true refl (sym possible))

-- so of the late half, by what is known from the sample in the middle
pub late_mark : (found middle : Mark) (inner outer slabs : List SlabSize) (u n width : List ℤ) (m : SweepOf) (p : List ℤ) (S high levels k j : ℕ) → IsWidthSearch inner outer u n width m p S high levels j
    → middle ≡ sample_mark (some_holds inner m p (j + 2 ^ k) S) (some_holds outer m p (j + 2 ^ k) S) → is_removed_mark middle ≡ false → slabs ≡ slabs_after middle inner outer
    → IsMarkBetween found inner slabs m p (j + 2 ^ k) ((j + 2 ^ k) + 2 ^ k) S → IsMarkBetween (joined_mark found middle) inner outer m p (j + 2 ^ k) ((j + 2 ^ k) + 2 ^ k) S
late_mark found middle inner outer slabs u n width m p S high levels k j s is free e a =
    let i = j + 2 ^ k in let some = some_cells k in
    joined_known found middle inner outer slabs m p i (i + 2 ^ k) S e free
    (λ h. left_beside outer m p i (i + 2 ^ k) i S s.searched.some (omega arith) (omega arith) (omega arith) (tried_outer middle (some_holds inner m p i S) (some_holds outer m p i S) is h)) a
