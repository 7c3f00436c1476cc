-- The marks of a stretch by the width: where it is dropped, where it is a cell, and from those of its halves.
use Rattle.std.proofs.Common.{◌≡◌, Bool, true, false, not, ℕ, ◌+◌, ◌^◌, List, get_or, ℤ, pos, ◌*ℤ◌, ◌-ℤ◌, arith, refl, subst, sym, ap, ◌∙◌, ⊎_elim}
use Rattle.std.proofs.lemmas.Bool.{cases_lt}
use Rattle.space.specs.Sweeps.{SweepOf}
use Rattle.space.specs.Vectors.{at}
use Rattle.bern_form.specs.Between.{d_between, n_between}
use Rattle.bern_form.specs.Forms.{all_negative, lifted, product22}
use Rattle.bern_form.specs.Marks.{some_holds}
use Rattle.bern_form.specs.Slab.{SlabSize}
use Rattle.bern_form.proofs.Halves.{n_of_first, n_of_last, u_of_first, u_of_last, whole_of_first, whole_of_last}
use Rattle.axis_cells.specs.declared.mark.Mark.TheVariants.{Clear, Possible, Removed}
use Rattle.box_bisect.specs.Between.{IsMarkBetween}
use Rattle.box_bisect.specs.SlabTests.{TurnsAt, TurnsBetween, is_below_by, is_unexcluded_by, is_unexcluded_with, no_slab, some_covers, width_of}
use Rattle.box_bisect.specs.Stretches.{AreFormsBetween}
use Rattle.box_bisect.proofs.Leaving.{none_ahead}
use Rattle.box_bisect.proofs.Raised.{left_is, left_of}
use Rattle.box_bisect.proofs.Searching.{at_cell, dropped, halved, held_first, held_last}
use Rattle.width_bisect.specs.Forms.{AreWidthForms}
use Rattle.width_bisect.specs.Halved.{first2, first4, last2, last4}
use Rattle.width_bisect.specs.Searches.{IsWidthSearch, is_not_below}
use Rattle.width_bisect.specs.Turns.{StopsAt}
use Rattle.width_bisect.proofs.Halving.{below_first, below_last, forms_of_first, forms_of_last, open_first, open_last}

-- with d, which is named by the definition
pub forms_by : (u n width : List ℤ) (m : SweepOf) (p : List ℤ) (j k S : ℕ) → AreWidthForms u n width m p j k S → AreFormsBetween u n (d_between m p j k S) m p j k S
forms_by u n width m p j k S f = record { u_is = f.u_is; n_is = f.n_is; d_is = refl }

pub width_by : (u n width : List ℤ) (m : SweepOf) (p : List ℤ) (j k S : ℕ) → AreWidthForms u n width m p j k S → width ≡ width_of u n (d_between m p j k S)
width_by u n width m p j k S f =
    let d = d_between m p j k S in
    f.width_is ∙ ap (λ l. width_of l (n_between m j k S) d) (sym f.u_is) ∙ ap (λ l. width_of u l d) (sym f.n_is)

pub search_forms : (inner outer : List SlabSize) (u n width : List ℤ) (m : SweepOf) (p : List ℤ) (S high levels j : ℕ) → IsWidthSearch inner outer u n width m p S high levels j
    → AreWidthForms u n width m p j (j + 2 ^ levels) S
search_forms inner outer u n width m p S high levels j s = record { u_is = s.searched.forms.u_is; n_is = s.searched.forms.n_is; width_is = s.width_is }

-- a walk downwards stops where the test turns, where it starts at a slab that fails it
pub turned : (test : SlabSize → Bool) (slabs : List SlabSize) (high j : ℕ) → StopsAt test slabs high j → TurnsBetween test slabs 0 high → TurnsAt test slabs j
turned test slabs high j stops turns =
    let at_most = stops.at_most in let within = turns.within in record {
      within = omega (arith, at_most, within);
      before = stops.before;
      after = λ l. ⊎_elim stops.after (λ most. let e : high ≡ j = omega arith in subst (λ k. test (get_or slabs k no_slab) ≡ false) e (turns.after (omega (arith, l, e)))) (cases_lt j high);
    }

-- tests by lists that are equal
pub test_as : (S kept : ℕ) (raised height u n : List ℤ) → kept ≡ S → raised ≡ lifted n → height ≡ product22 u u
    → (λ (s : SlabSize). not (is_below_by kept raised height s)) ≡ is_not_below S u n
test_as S kept raised height u n eS er eh =
    ap (λ z. λ (s : SlabSize). not (is_below_by z raised height s)) eS ∙ ap (λ z. λ (s : SlabSize). not (is_below_by S z height s)) er
    ∙ ap (λ z. λ (s : SlabSize). not (is_below_by S (lifted n) z s)) eh

-- where the point is behind the tip, or all outer slabs are excluded
pub behind_none : (slabs : List SlabSize) (S : ℕ) (u n d : List ℤ) → all_negative u ≡ true → is_unexcluded_with slabs S u n d ≡ false
behind_none slabs S u n d behind = sym (left_is slabs S u n d) ∙ none_ahead S (all_negative u) (lifted n) (product22 u u) (width_of u n d) slabs behind

pub left_by : (slabs : List SlabSize) (S kept : ℕ) (raised height width u n d : List ℤ) → kept ≡ S → all_negative u ≡ false → raised ≡ lifted n → height ≡ product22 u u
    → width ≡ width_of u n d → is_unexcluded_by kept false raised height width slabs ≡ is_unexcluded_with slabs S u n d
left_by slabs S kept raised height width u n d eS ahead er eh ew = left_of slabs S kept false raised height width u n d eS (sym ahead) er eh ew

pub search_dropped : (inner outer : List SlabSize) (u n width : List ℤ) (m : SweepOf) (p : List ℤ) (S high levels j : ℕ) → IsWidthSearch inner outer u n width m p S high levels j
    → is_unexcluded_with outer S u n (d_between m p j (j + 2 ^ levels) S) ≡ false → IsMarkBetween Clear inner outer m p j (j + 2 ^ levels) S
search_dropped inner outer u n width m p S high levels j s none =
    dropped inner outer u n (d_between m p j (j + 2 ^ levels) S) m p S levels j s.searched.some s.searched.forms s.searched.enclosed none

pub search_cell : (inner outer : List SlabSize) (u n width : List ℤ) (m : SweepOf) (p : List ℤ) (S high levels j : ℕ) → levels ≡ 0
    → IsWidthSearch inner outer u n width m p S high levels j → is_unexcluded_with outer S u n (d_between m p j (j + 2 ^ levels) S) ≡ true
    → IsMarkBetween Possible inner outer m p j (j + 2 ^ levels) S
search_cell inner outer u n width m p S high levels j e s left = at_cell inner outer u n (d_between m p j (j + 2 ^ levels) S) m p S levels j e s.searched left

-- the squared distance from the axis times n at a sample of a stretch, as the first and as the last
abbrev pub spread_at : ℕ → List ℤ → List ℤ → List ℤ → ℤ
spread_at i u n d = at d i *ℤ at n i -ℤ at u i *ℤ at u i

pub four_first : (u n width : List ℤ) (m : SweepOf) (p : List ℤ) (j k S : ℕ) → AreWidthForms u n width m p j k S
    → at width 0 ≡ pos 4 *ℤ spread_at 0 u n (d_between m p j k S)
four_first u n width m p j k S f = ap (λ l. at l 0) (width_by u n width m p j k S f)

pub four_last : (u n width : List ℤ) (m : SweepOf) (p : List ℤ) (j k S : ℕ) → AreWidthForms u n width m p j k S
    → at width 4 ≡ pos 4 *ℤ spread_at 2 u n (d_between m p j k S)
four_last u n width m p j k S f = ap (λ l. at l 4) (width_by u n width m p j k S f)

pub covers_first : (slabs : List SlabSize) (u n width : List ℤ) (m : SweepOf) (p : List ℤ) (j k S : ℕ) → AreWidthForms u n width m p j k S
    → some_covers (pos S) (at u 0) (at n 0) (spread_at 0 u n (d_between m p j k S)) slabs ≡ some_holds slabs m p j S
covers_first slabs u n width m p j k S f = held_first slabs u n (d_between m p j k S) m p j k S (forms_by u n width m p j k S f)

pub covers_last : (slabs : List SlabSize) (u n width : List ℤ) (m : SweepOf) (p : List ℤ) (j k S : ℕ) → AreWidthForms u n width m p j k S
    → some_covers (pos S) (at u 2) (at n 2) (spread_at 2 u n (d_between m p j k S)) slabs ≡ some_holds slabs m p k S
covers_last slabs u n width m p j k S f = held_last slabs u n (d_between m p j k S) m p j k S (forms_by u n width m p j k S f)

-- where a walk downwards stops, the same search starts
pub stopped_at : (inner outer : List SlabSize) (u n width : List ℤ) (m : SweepOf) (p : List ℤ) (S high reached levels j : ℕ) → TurnsAt (is_not_below S u n) outer reached
    → IsWidthSearch inner outer u n width m p S high levels j → IsWidthSearch inner outer u n width m p S reached levels j
stopped_at inner outer u n width m p S high reached levels j turns s = record {
  searched = s.searched;
  width_is = s.width_is;
  is_open = s.is_open;
  turns = record { within = turns.within; before = λ i e. absurd (omega (arith, e)); after = turns.after };
}

-- the halves of a stretch
pub first_forms : (inner outer : List SlabSize) (u n width : List ℤ) (m : SweepOf) (p : List ℤ) (S high levels k j : ℕ) → levels ≡ k + 1 → IsWidthSearch inner outer u n width m p S high levels j
    → AreWidthForms (first2 u) (first2 n) (first4 width) m p j (j + 2 ^ k) S
first_forms inner outer u n width m p S high levels k j e s =
    forms_of_first u n width m p j (j + 2 ^ k) (j + 2 ^ levels) S (halved levels k j e).middle (search_forms inner outer u n width m p S high levels j s)

last_forms : (inner outer : List SlabSize) (u n width : List ℤ) (m : SweepOf) (p : List ℤ) (S high levels k j : ℕ) → levels ≡ k + 1 → IsWidthSearch inner outer u n width m p S high levels j
    → AreWidthForms (last2 u) (last2 n) (last4 width) m p (j + 2 ^ k) ((j + 2 ^ k) + 2 ^ k) S
last_forms inner outer u n width m p S high levels k j e s =
    let i = j + 2 ^ k in
    subst (λ z. AreWidthForms (last2 u) (last2 n) (last4 width) m p i z S) (sym (halved levels k j e).end)
    (forms_of_last u n width m p j i (j + 2 ^ levels) S (halved levels k j e).middle (search_forms inner outer u n width m p S high levels j s))

-- a slab that the point is below on the whole it is below on a half
no_longer : (a b : Bool) → (a ≡ true → b ≡ true) → not a ≡ false → not b ≡ false
no_longer true b h e = ap not (h refl)
no_longer false b h e = cc

turns_on : (slabs : List SlabSize) (S reached : ℕ) (u n g h : List ℤ) → ((s : SlabSize) → is_below_by S (lifted n) (product22 u u) s ≡ true → is_below_by S (lifted h) (product22 g g) s ≡ true)
    → TurnsBetween (is_not_below S u n) slabs 0 reached → TurnsBetween (is_not_below S g h) slabs 0 reached
turns_on slabs S reached u n g h still turns = record {
  within = turns.within;
  before = λ i e. absurd (omega (arith, e));
  after = λ l. let s = get_or slabs reached no_slab in no_longer (is_below_by S (lifted n) (product22 u u) s) (is_below_by S (lifted h) (product22 g g) s) (still s) (turns.after l);
}

pub search_first : (inner outer : List SlabSize) (u n width : List ℤ) (m : SweepOf) (p : List ℤ) (S high levels k j : ℕ) → levels ≡ k + 1 → IsWidthSearch inner outer u n width m p S high levels j
    → some_holds inner m p (j + 2 ^ k) S ≡ false → IsWidthSearch inner outer (first2 u) (first2 n) (first4 width) m p S high k j
search_first inner outer u n width m p S high levels k j e s free =
    let i = j + 2 ^ k in let h = (halved levels k j e).middle in let f = first_forms inner outer u n width m p S high levels k j e s in
    let uw : u ≡ whole_of_first (first2 u) = s.searched.forms.u_is ∙ u_of_first m p j i (j + 2 ^ levels) S h ∙ ap whole_of_first (sym f.u_is) in
    let nw : n ≡ whole_of_first (first2 n) = s.searched.forms.n_is ∙ n_of_first m j i (j + 2 ^ levels) S h ∙ ap whole_of_first (sym f.n_is) in record {
      searched = record {
        some = s.searched.some;
        forms = forms_by (first2 u) (first2 n) (first4 width) m p j i S f;
        enclosed = s.searched.enclosed;
        first_free = s.searched.first_free;
        last_free = free;
      };
      width_is = f.width_is;
      is_open = open_first n (first2 n) nw s.is_open;
      turns = turns_on outer S high u n (first2 u) (first2 n) (λ t. below_first S u n (first2 u) (first2 n) t uw nw) s.turns;
    }

pub search_last : (inner outer : List SlabSize) (u n width : List ℤ) (m : SweepOf) (p : List ℤ) (S high levels k j : ℕ) → levels ≡ k + 1 → IsWidthSearch inner outer u n width m p S high levels j
    → some_holds inner m p (j + 2 ^ k) S ≡ false → IsWidthSearch inner outer (last2 u) (last2 n) (last4 width) m p S high k (j + 2 ^ k)
search_last inner outer u n width m p S high levels k j e s free =
    let i = j + 2 ^ k in let h = (halved levels k j e).middle in let end = (halved levels k j e).end in let f = last_forms inner outer u n width m p S high levels k j e s in
    let whole = forms_of_last u n width m p j i (j + 2 ^ levels) S h (search_forms inner outer u n width m p S high levels j s) in
    let uw : u ≡ whole_of_last (last2 u) = s.searched.forms.u_is ∙ u_of_last m p j i (j + 2 ^ levels) S h ∙ ap whole_of_last (sym whole.u_is) in
    let nw : n ≡ whole_of_last (last2 n) = s.searched.forms.n_is ∙ n_of_last m j i (j + 2 ^ levels) S h ∙ ap whole_of_last (sym whole.n_is) in record {
      searched = record {
        some = s.searched.some;
        forms = forms_by (last2 u) (last2 n) (last4 width) m p i (i + 2 ^ k) S f;
        enclosed = s.searched.enclosed;
        first_free = free;
        last_free = subst (λ z. some_holds inner m p z S ≡ false) (sym end) s.searched.last_free;
      };
      width_is = f.width_is;
      is_open = open_last n (last2 n) nw s.is_open;
      turns = turns_on outer S high u n (last2 u) (last2 n) (λ t. below_last S u n (last2 u) (last2 n) t uw nw) s.turns;
    }

-- where an inner slab holds the point at the sample in the middle
pub middle_held : (inner outer : List SlabSize) (m : SweepOf) (p : List ℤ) (S levels k j : ℕ) → levels ≡ k + 1 → some_holds inner m p (j + 2 ^ k) S ≡ true
    → IsMarkBetween Removed inner outer m p j (j + 2 ^ levels) S
middle_held inner outer m p S levels k j e held =
    let end = (halved levels k j e).end in record { sample = j + 2 ^ k; after = omega arith; before = omega (arith, end); held = held }

-- a search of forms that are equal
pub searched_as : (inner outer : List SlabSize) (u n width u' n' width' : List ℤ) (m : SweepOf) (p : List ℤ) (S high levels j : ℕ) → u ≡ u' → n ≡ n' → width ≡ width'
    → IsWidthSearch inner outer u' n' width' m p S high levels j → IsWidthSearch inner outer u n width m p S high levels j
searched_as inner outer u n width u' n' width' m p S high levels j eu en ew s =
    subst (λ l. IsWidthSearch inner outer l n width m p S high levels j) (sym eu)
    (subst (λ l. IsWidthSearch inner outer u' l width m p S high levels j) (sym en)
    (subst (λ l. IsWidthSearch inner outer u' n' l m p S high levels j) (sym ew) s))

-- the place at a sample, by numbers that are equal
pub covers_as : (slabs : List SlabSize) (scale S : ℕ) (u n w x y : ℤ) → scale ≡ S → u ≡ x → n ≡ y → some_covers (pos scale) u n w slabs ≡ some_covers (pos S) x y w slabs
covers_as slabs scale S u n w x y eS eu en =
    ap (λ z. some_covers (pos z) u n w slabs) eS ∙ ap (λ z. some_covers (pos S) z n w slabs) eu ∙ ap (λ z. some_covers (pos S) x z w slabs) en

-- a walk's answer and that of the lists' tests, by the forms
pub turns_by : (slabs : List SlabSize) (S kept high reached : ℕ) (raised height u n : List ℤ) → kept ≡ S → raised ≡ lifted n → height ≡ product22 u u
    → StopsAt (λ s. not (is_below_by kept raised height s)) slabs high reached → TurnsBetween (is_not_below S u n) slabs 0 high → TurnsAt (is_not_below S u n) slabs reached
turns_by slabs S kept high reached raised height u n eS er eh stops turns =
    turned (is_not_below S u n) slabs high reached (subst (λ (t : SlabSize → Bool). StopsAt t slabs high reached) (test_as S kept raised height u n eS er eh) stops) turns
