-- The marks of a stretch: where it is dropped, where it is a cell, and from those of its halves.
use Rattle.std.proofs.Common.{◌≡◌, Bool, true, false, ℕ, suc, ◌+◌, ◌*◌, ◌^◌, ◌≤◌, ◌<◌, List, ℤ, arith, refl, subst, sym, ap, ◌∙◌, ⊎_elim}
use Rattle.std.proofs.lemmas.Bool.{cases_lt}
use Rattle.std.proofs.Math.Nat.{two-pow-succ}
use Rattle.std.proofs.Math.Pow.{pow_mono}
use Rattle.space.specs.Sweeps.{SweepOf}
use Rattle.bern_form.specs.Between.{d_between, is_unexcluded_between, n_between, u_between}
use Rattle.bern_form.specs.Marks.{some_holds}
use Rattle.bern_form.specs.Slab.{SlabSize}
use Rattle.bern_form.proofs.Finer.{all_out, held_at_none, left_on_none}
use Rattle.axis_cells.specs.declared.mark.Mark.{Mark}
use Rattle.axis_cells.specs.declared.mark.Mark.TheVariants.{Clear, Possible, Removed}
use Rattle.box_bisect.specs.Between.{IsFreeBetween, IsHeldBetween, IsMarkBetween, IsOutWithin, IsSearched, IsUnexcludedWithin, is_removed_mark, joined_mark}
use Rattle.box_bisect.specs.Halved.{first_half, last_half}
use Rattle.box_bisect.specs.SlabTests.{is_held_with, is_unexcluded_with}
use Rattle.box_bisect.specs.Stretches.{AreFormsBetween}
use Rattle.box_bisect.proofs.Halving.{forms_of_first, forms_of_last}

-- what the tests by the forms say of the move
pub left_between : (slabs : List SlabSize) (u n d : List ℤ) (m : SweepOf) (p : List ℤ) (j k S : ℕ) → AreFormsBetween u n d m p j k S
    → is_unexcluded_with slabs S u n d ≡ is_unexcluded_between slabs m p j k S
left_between slabs u n d m p j k S f =
    ap (λ l. is_unexcluded_with slabs S l n d) f.u_is ∙ ap (λ l. is_unexcluded_with slabs S (u_between m p j k S) l d) f.n_is ∙ ap (λ l. is_unexcluded_with slabs S (u_between m p j k S) (n_between m j k S) l) f.d_is

held_by : (i : ℕ) (slabs : List SlabSize) (u n d : List ℤ) (m : SweepOf) (p : List ℤ) (j k S : ℕ) → AreFormsBetween u n d m p j k S
    → is_held_with i slabs S u n d ≡ is_held_with i slabs S (u_between m p j k S) (n_between m j k S) (d_between m p j k S)
held_by i slabs u n d m p j k S f =
    ap (λ l. is_held_with i slabs S l n d) f.u_is ∙ ap (λ l. is_held_with i slabs S (u_between m p j k S) l d) f.n_is ∙ ap (λ l. is_held_with i slabs S (u_between m p j k S) (n_between m j k S) l) f.d_is

pub held_first : (slabs : List SlabSize) (u n d : List ℤ) (m : SweepOf) (p : List ℤ) (j k S : ℕ) → AreFormsBetween u n d m p j k S → is_held_with 0 slabs S u n d ≡ some_holds slabs m p j S
held_first slabs u n d m p j k S f = held_by 0 slabs u n d m p j k S f

pub held_last : (slabs : List SlabSize) (u n d : List ℤ) (m : SweepOf) (p : List ℤ) (j k S : ℕ) → AreFormsBetween u n d m p j k S → is_held_with 2 slabs S u n d ≡ some_holds slabs m p k S
held_last slabs u n d m p j k S f = held_by 2 slabs u n d m p j k S f

-- what no outer slab holds no inner one does
free_of : (a b : Bool) → (a ≡ true → b ≡ true) → b ≡ false → a ≡ false
free_of true b h e = let q = h refl in cc
free_of false b h e = refl

-- where all outer slabs are excluded on the stretch
pub dropped : (inner outer : List SlabSize) (u n d : List ℤ) (m : SweepOf) (p : List ℤ) (S levels j : ℕ) → 0 < S → AreFormsBetween u n d m p j (j + 2 ^ levels) S
    → ((i : ℕ) → some_holds inner m p i S ≡ true → some_holds outer m p i S ≡ true)
    → is_unexcluded_with outer S u n d ≡ false → IsMarkBetween Clear inner outer m p j (j + 2 ^ levels) S
dropped inner outer u n d m p S levels j some forms enclosed none =
    let k = j + 2 ^ levels in
    let out = all_out outer m p j k S (sym (left_between outer u n d m p j k S forms) ∙ none) in
    let free : IsFreeBetween inner m p j k S = record { none = λ i after before. free_of (some_holds inner m p i S) (some_holds outer m p i S) (enclosed i) (held_at_none outer m p S levels j i some out after before) } in
    let none_left : IsOutWithin outer m p j k S = record { none = λ c after before. left_on_none outer m p S levels j c out after before } in
    (free, none_left)

-- where it is a cell
pub two_samples : (P : ℕ → Type 0) (j i : ℕ) → P j → P (j + 1) → j ≤ i → i ≤ j + 1 → P i
two_samples P j i a b after before =
    ⊎_elim (λ early. let e : j ≡ i = omega arith in subst P e a) (λ late. let e : j + 1 ≡ i = omega arith in subst P e b) (cases_lt i (j + 1))

cell_mark : (inner outer : List SlabSize) (u n d : List ℤ) (m : SweepOf) (p : List ℤ) (S j : ℕ) → IsSearched inner outer u n d m p S 0 j
    → is_unexcluded_with outer S u n d ≡ true → IsMarkBetween Possible inner outer m p j (j + 1) S
cell_mark inner outer u n d m p S j s left =
    let free : IsFreeBetween inner m p j (j + 1) S = record { none = λ i after before. two_samples (λ i. some_holds inner m p i S ≡ false) j i s.first_free s.last_free after before } in
    let some_left : IsUnexcludedWithin outer m p j (j + 1) S = record { cell = j; after = omega arith; before = omega arith; left = sym (left_between outer u n d m p j (j + 1) S s.forms) ∙ left } in
    (free, some_left)

pub at_cell : (inner outer : List SlabSize) (u n d : List ℤ) (m : SweepOf) (p : List ℤ) (S levels j : ℕ) → levels ≡ 0 → IsSearched inner outer u n d m p S levels j
    → is_unexcluded_with outer S u n d ≡ true → IsMarkBetween Possible inner outer m p j (j + 2 ^ levels) S
at_cell inner outer u n d m p S levels j e s left =
    subst (λ k. IsMarkBetween Possible inner outer m p j (j + 2 ^ k) S) (sym e) (cell_mark inner outer u n d m p S j (subst (λ k. IsSearched inner outer u n d m p S k j) e s) left)

-- the sample in the middle of a stretch, and its halves
pub record IsHalved (levels n j : ℕ) : Type 0 where
  pub middle : j + (j + 2 ^ levels) ≡ 2 * (j + 2 ^ n)
  pub end : (j + 2 ^ n) + 2 ^ n ≡ j + 2 ^ levels

pub halved : (levels n j : ℕ) → levels ≡ n + 1 → IsHalved levels n j
halved levels n j e =
    let more : levels ≡ suc n = omega (arith, e) in let double : 2 ^ levels ≡ 2 ^ n + 2 ^ n = ap (λ k. 2 ^ k) more ∙ two-pow-succ n in
    record { middle = omega (arith, double); end = omega (arith, double) }

pub forms_first : (inner outer : List SlabSize) (u n d : List ℤ) (m : SweepOf) (p : List ℤ) (S levels k j : ℕ) → levels ≡ k + 1 → IsSearched inner outer u n d m p S levels j
    → AreFormsBetween (first_half u) (first_half n) (first_half d) m p j (j + 2 ^ k) S
forms_first inner outer u n d m p S levels k j e s = forms_of_first u n d m p j (j + 2 ^ k) (j + 2 ^ levels) S (halved levels k j e).middle s.forms

pub forms_last : (inner outer : List SlabSize) (u n d : List ℤ) (m : SweepOf) (p : List ℤ) (S levels k j : ℕ) → levels ≡ k + 1 → IsSearched inner outer u n d m p S levels j
    → AreFormsBetween (last_half u) (last_half n) (last_half d) m p (j + 2 ^ k) (j + 2 ^ levels) S
forms_last inner outer u n d m p S levels k j e s = forms_of_last u n d m p j (j + 2 ^ k) (j + 2 ^ levels) S (halved levels k j e).middle s.forms

-- where no inner slab holds the point at the middle sample both halves are searched
pub search_first : (inner outer : List SlabSize) (u n d : List ℤ) (m : SweepOf) (p : List ℤ) (S levels k j : ℕ) → levels ≡ k + 1 → IsSearched inner outer u n d m p S levels j
    → is_held_with 2 inner S (first_half u) (first_half n) (first_half d) ≡ false → IsSearched inner outer (first_half u) (first_half n) (first_half d) m p S k j
search_first inner outer u n d m p S levels k j e s free =
    let forms = forms_first inner outer u n d m p S levels k j e s in record {
      some = s.some;
      forms = forms;
      enclosed = s.enclosed;
      first_free = s.first_free;
      last_free = sym (held_last inner (first_half u) (first_half n) (first_half d) m p j (j + 2 ^ k) S forms) ∙ free;
    }

pub search_last : (inner outer : List SlabSize) (u n d : List ℤ) (m : SweepOf) (p : List ℤ) (S levels k j : ℕ) → levels ≡ k + 1 → IsSearched inner outer u n d m p S levels j
    → is_held_with 2 inner S (first_half u) (first_half n) (first_half d) ≡ false → IsSearched inner outer (last_half u) (last_half n) (last_half d) m p S k (j + 2 ^ k)
search_last inner outer u n d m p S levels k j e s free =
    let i = j + 2 ^ k in let end = (halved levels k j e).end in record {
      some = s.some;
      forms = subst (λ z. AreFormsBetween (last_half u) (last_half n) (last_half d) m p i z S) (sym end) (forms_last inner outer u n d m p S levels k j e s);
      enclosed = s.enclosed;
      first_free = sym (held_last inner (first_half u) (first_half n) (first_half d) m p j i S (forms_first inner outer u n d m p S levels k j e s)) ∙ free;
      last_free = subst (λ z. some_holds inner m p z S ≡ false) (sym end) s.last_free;
    }

-- where one does
pub middle_held : (inner outer : List SlabSize) (u n d : List ℤ) (m : SweepOf) (p : List ℤ) (S levels k j : ℕ) → levels ≡ k + 1 → IsSearched inner outer u n d m p S levels j
    → is_held_with 2 inner S (first_half u) (first_half n) (first_half d) ≡ true → IsMarkBetween Removed inner outer m p j (j + 2 ^ levels) S
middle_held inner outer u n d m p S levels k j e s held =
    let i = j + 2 ^ k in let end = (halved levels k j e).end in
    record {
      sample = i;
      after = omega arith;
      before = omega (arith, end);
      held = sym (held_last inner (first_half u) (first_half n) (first_half d) m p j i S (forms_first inner outer u n d m p S levels k j e s)) ∙ held;
    }

-- the marks of both halves are the stretch's
pub free_both : (inner : List SlabSize) (m : SweepOf) (p : List ℤ) (j i k S : ℕ) → IsFreeBetween inner m p j i S → IsFreeBetween inner m p i k S → IsFreeBetween inner m p j k S
free_both inner m p j i k S a b =
    record { none = λ x after before. ⊎_elim (λ early. a.none x after (omega arith)) (λ late. b.none x late before) (cases_lt x i) }

pub out_both : (outer : List SlabSize) (m : SweepOf) (p : List ℤ) (j i k S : ℕ) → IsOutWithin outer m p j i S → IsOutWithin outer m p i k S → IsOutWithin outer m p j k S
out_both outer m p j i k S a b =
    record { none = λ x after before. ⊎_elim (λ early. a.none x after early) (λ late. b.none x late before) (cases_lt x i) }

pub left_early : (outer : List SlabSize) (m : SweepOf) (p : List ℤ) (j i k S : ℕ) → i ≤ k → IsUnexcludedWithin outer m p j i S → IsUnexcludedWithin outer m p j k S
left_early outer m p j i k S h a = record { cell = a.cell; after = a.after; before = omega (arith, a.before); left = a.left }

pub left_late : (outer : List SlabSize) (m : SweepOf) (p : List ℤ) (j i k S : ℕ) → j ≤ i → IsUnexcludedWithin outer m p i k S → IsUnexcludedWithin outer m p j k S
left_late outer m p j i k S h a = record { cell = a.cell; after = omega (arith, a.after); before = a.before; left = a.left }

pub held_early : (inner : List SlabSize) (m : SweepOf) (p : List ℤ) (j i k S : ℕ) → i ≤ k → IsHeldBetween inner m p j i S → IsHeldBetween inner m p j k S
held_early inner m p j i k S h a = record { sample = a.sample; after = a.after; before = omega (arith, a.before); held = a.held }

pub held_late : (inner : List SlabSize) (m : SweepOf) (p : List ℤ) (j i k S : ℕ) → j ≤ i → IsHeldBetween inner m p i k S → IsHeldBetween inner m p j k S
held_late inner m p j i k S h a = record { sample = a.sample; after = omega (arith, a.after); before = a.before; held = a.held }

join_at : (early late : Mark) (inner outer : List SlabSize) (m : SweepOf) (p : List ℤ) (j i k S : ℕ) → j ≤ i → i ≤ k → ¬ (late ≡ Removed)
    → IsMarkBetween early inner outer m p j i S → IsMarkBetween late inner outer m p i k S → IsMarkBetween (joined_mark early late) inner outer m p j k S
join_at Removed late inner outer m p j i k S l h not_late a b = held_early inner m p j i k S h a
join_at Possible Removed inner outer m p j i k S l h not_late a b = absurd (not_late refl)
join_at Possible Possible inner outer m p j i k S l h not_late a b = (free_both inner m p j i k S a.0 b.0, left_early outer m p j i k S h a.1)
join_at Possible Clear inner outer m p j i k S l h not_late a b = (free_both inner m p j i k S a.0 b.0, left_early outer m p j i k S h a.1)
join_at Clear Removed inner outer m p j i k S l h not_late a b = absurd (not_late refl)
join_at Clear Possible inner outer m p j i k S l h not_late a b = (free_both inner m p j i k S a.0 b.0, left_late outer m p j i k S l b.1)
join_at Clear Clear inner outer m p j i k S l h not_late a b = (free_both inner m p j i k S a.0 b.0, out_both outer m p j i k S a.1 b.1)

pub join_marks : (early late : Mark) (inner outer : List SlabSize) (m : SweepOf) (p : List ℤ) (S levels n j : ℕ) → levels ≡ n + 1 → ¬ (late ≡ Removed)
    → IsMarkBetween early inner outer m p j (j + 2 ^ n) S → IsMarkBetween late inner outer m p (j + 2 ^ n) ((j + 2 ^ n) + 2 ^ n) S
    → IsMarkBetween (joined_mark early late) inner outer m p j (j + 2 ^ levels) S
join_marks early late inner outer m p S levels n j e not_late a b =
    let i = j + 2 ^ n in let end = (halved levels n j e).end in
    subst (λ k. IsMarkBetween (joined_mark early late) inner outer m p j k S) end
    (join_at early late inner outer m p j i (i + 2 ^ n) S (omega arith) (omega arith) not_late a b)

pub late_held : (late : Mark) (inner outer : List SlabSize) (m : SweepOf) (p : List ℤ) (S levels n j : ℕ) → levels ≡ n + 1 → late ≡ Removed
    → IsMarkBetween late inner outer m p (j + 2 ^ n) ((j + 2 ^ n) + 2 ^ n) S → IsMarkBetween Removed inner outer m p j (j + 2 ^ levels) S
late_held late inner outer m p S levels n j e is b =
    let i = j + 2 ^ n in let end = (halved levels n j e).end in
    subst (λ k. IsMarkBetween Removed inner outer m p j k S) end
    (held_late inner m p j i (i + 2 ^ n) S (omega arith) (subst (λ mark. IsMarkBetween mark inner outer m p i (i + 2 ^ n) S) is b))

pub removed_of : (mark : Mark) → is_removed_mark mark ≡ true → mark ≡ Removed
removed_of Removed e = refl
removed_of Possible e = cc
removed_of Clear e = cc

no_both : (b : Bool) → b ≡ false → b ≡ true → ⊥
no_both b e f = cc

pub not_removed : (mark : Mark) → is_removed_mark mark ≡ false → ¬ (mark ≡ Removed)
not_removed mark e is = let same = ap is_removed_mark is in no_both (is_removed_mark mark) e same

-- a search and a test of forms that are equal
pub searched_as : (inner outer : List SlabSize) (u n d u' n' d' : List ℤ) (m : SweepOf) (p : List ℤ) (S levels j : ℕ) → u ≡ u' → n ≡ n' → d ≡ d'
    → IsSearched inner outer u' n' d' m p S levels j → IsSearched inner outer u n d m p S levels j
searched_as inner outer u n d u' n' d' m p S levels j eu en ed s = record {
  some = s.some;
  forms = record { u_is = eu ∙ s.forms.u_is; n_is = en ∙ s.forms.n_is; d_is = ed ∙ s.forms.d_is };
  enclosed = s.enclosed;
  first_free = s.first_free;
  last_free = s.last_free;
}

pub held_as : (i : ℕ) (slabs : List SlabSize) (S : ℕ) (u n d u' n' d' : List ℤ) → u ≡ u' → n ≡ n' → d ≡ d' → is_held_with i slabs S u n d ≡ is_held_with i slabs S u' n' d'
held_as i slabs S u n d u' n' d' eu en ed =
    ap (λ l. is_held_with i slabs S l n d) eu ∙ ap (λ l. is_held_with i slabs S u' l d) en ∙ ap (λ l. is_held_with i slabs S u' n' l) ed

-- the whole move
pub some_cells : (n : ℕ) → 0 < 2 ^ n
some_cells n = let some : 2 ^ 0 ≤ 2 ^ n = pow_mono {i = 0} {j = n} (omega arith) in some

pub dropped_whole : (inner outer : List SlabSize) (u n d : List ℤ) (m : SweepOf) (p : List ℤ) (S depth : ℕ) → S ≡ 2 ^ depth → AreFormsBetween u n d m p 0 S S
    → ((i : ℕ) → some_holds inner m p i S ≡ true → some_holds outer m p i S ≡ true) → is_unexcluded_with outer S u n d ≡ false → IsMarkBetween Clear inner outer m p 0 S S
dropped_whole inner outer u n d m p S depth e forms enclosed none =
    let some = some_cells depth in
    let end : S ≡ 0 + 2 ^ depth = omega (arith, e) in
    subst (λ k. IsMarkBetween Clear inner outer m p 0 k S) (sym end)
    (dropped inner outer u n d m p S depth 0 (omega (arith, e, some)) (subst (λ k. AreFormsBetween u n d m p 0 k S) end forms) enclosed none)

pub last_held : (inner outer : List SlabSize) (u n d : List ℤ) (m : SweepOf) (p : List ℤ) (S : ℕ) → AreFormsBetween u n d m p 0 S S → is_held_with 2 inner S u n d ≡ true → IsMarkBetween Removed inner outer m p 0 S S
last_held inner outer u n d m p S forms held = record { sample = S; after = omega arith; before = omega arith; held = sym (held_last inner u n d m p 0 S S forms) ∙ held }

pub first_held : (inner outer : List SlabSize) (u n d : List ℤ) (m : SweepOf) (p : List ℤ) (S : ℕ) → AreFormsBetween u n d m p 0 S S → is_held_with 0 inner S u n d ≡ true → IsMarkBetween Removed inner outer m p 0 S S
first_held inner outer u n d m p S forms held = record { sample = 0; after = omega arith; before = omega arith; held = sym (held_first inner u n d m p 0 S S forms) ∙ held }

pub search_whole : (inner outer : List SlabSize) (u n d : List ℤ) (m : SweepOf) (p : List ℤ) (S depth : ℕ) → S ≡ 2 ^ depth → AreFormsBetween u n d m p 0 S S
    → ((i : ℕ) → some_holds inner m p i S ≡ true → some_holds outer m p i S ≡ true) → is_held_with 2 inner S u n d ≡ false → is_held_with 0 inner S u n d ≡ false
    → IsSearched inner outer u n d m p S depth 0
search_whole inner outer u n d m p S depth e forms enclosed last first =
    let some = some_cells depth in
    let end : S ≡ 0 + 2 ^ depth = omega (arith, e) in record {
      some = omega (arith, e, some);
      forms = subst (λ k. AreFormsBetween u n d m p 0 k S) end forms;
      enclosed = enclosed;
      first_free = sym (held_first inner u n d m p 0 S S forms) ∙ first;
      last_free = subst (λ k. some_holds inner m p k S ≡ false) end (sym (held_last inner u n d m p 0 S S forms) ∙ last);
    }

pub mark_of_all : (mark : Mark) (inner outer : List SlabSize) (m : SweepOf) (p : List ℤ) (S depth : ℕ) → S ≡ 2 ^ depth → IsMarkBetween mark inner outer m p 0 (0 + 2 ^ depth) S → IsMarkBetween mark inner outer m p 0 S S
mark_of_all mark inner outer m p S depth e marked =
    let end : 0 + 2 ^ depth ≡ S = omega (arith, e) in subst (λ k. IsMarkBetween mark inner outer m p 0 k S) end marked

pub left_whole : (outer : List SlabSize) (u n d : List ℤ) (m : SweepOf) (p : List ℤ) (S depth : ℕ) → S ≡ 2 ^ depth → AreFormsBetween u n d m p 0 S S
    → is_unexcluded_with outer S u n d ≡ true → is_unexcluded_between outer m p 0 (0 + 2 ^ depth) S ≡ true
left_whole outer u n d m p S depth e forms left =
    let end : S ≡ 0 + 2 ^ depth = omega (arith, e) in
    subst (λ k. is_unexcluded_between outer m p 0 k S ≡ true) end (sym (left_between outer u n d m p 0 S S forms) ∙ left)
