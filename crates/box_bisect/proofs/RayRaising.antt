-- The marks of a box's points: where it is decided, where it is one point on one cell, and from those of its parts.
use Rattle.std.proofs.Common.{◌≡◌, Bool, true, false, not, ℕ, ◌+◌, ◌-◌, ◌^◌, ◌≤◌, ◌<◌, inl, inr, List, length, ℤ, set, if◌then◌else◌, arith, refl, subst, sym, ap, ⊎_elim, ◌∙◌}
use Rattle.std.specs.List.{list_any}
use Rattle.std.proofs.lemmas.Bool.{cases_Bool, cases_lt}
use Rattle.std.proofs.lemmas.List.{get_or-set_other, get_or-set_same}
use Rattle.space.specs.Sweeps.{SweepOf}
use Rattle.bern_form.specs.Between.{is_unexcluded_between, n_between, u_between, d_between}
use Rattle.bern_form.specs.Marks.{is_unexcluded_on, some_holds}
use Rattle.bern_form.specs.Slab.{SlabSize}
use Rattle.axis_cells.specs.declared.mark.Mark.{Mark}
use Rattle.axis_cells.specs.declared.mark.Mark.TheVariants.{Clear, Possible, Removed}
use Rattle.box_bisect.specs.Between.{IsFreeBetween, IsHeldBetween, IsMarkBetween, IsUnexcludedWithin}
use Rattle.ray_boxes.specs.Boxes.{is_excluded_in_box}
use Rattle.box_bisect.specs.RayBoxes.{is_undecided}
use Rattle.box_bisect.specs.RayMarks.{AreRaised, IsRaised, greater_mark, mark_at, mark_by_samples}
use Rattle.box_bisect.specs.Stretches.{AreFormsBetween}
use Rattle.box_bisect.proofs.Searching.{dropped, free_both, held_early, held_late, left_early, left_late, out_both, two_samples}
use Rattle.ray_boxes.proofs.Excluded.{none_left_alone}
use Rattle.ray_boxes.proofs.Lines.{IsLine}
use Rattle.box_bisect.proofs.RayLines.{decided_at}

-- the greater mark
pub greater_clear : (x : Mark) → x ≡ greater_mark x Clear
greater_clear Removed = refl
greater_clear Possible = refl
greater_clear Clear = refl

greater_twice : (x y z : Mark) → greater_mark (greater_mark x y) z ≡ greater_mark x (greater_mark y z)
greater_twice Removed y z = refl
greater_twice Possible Removed z = refl
greater_twice Possible Possible Removed = refl
greater_twice Possible Possible Possible = refl
greater_twice Possible Possible Clear = refl
greater_twice Possible Clear Removed = refl
greater_twice Possible Clear Possible = refl
greater_twice Possible Clear Clear = refl
greater_twice Clear y z = refl

-- the mark between the samples j and k from those between j and i, and i and k
pub both_marks : (early late : Mark) (inner outer : List SlabSize) (m : SweepOf) (p : List ℤ) (j i k S : ℕ) → j ≤ i → i ≤ k
    → IsMarkBetween early inner outer m p j i S → IsMarkBetween late inner outer m p i k S → IsMarkBetween (greater_mark early late) inner outer m p j k S
both_marks Removed late inner outer m p j i k S l h a b = held_early inner m p j i k S h a
both_marks Possible Removed inner outer m p j i k S l h a b = held_late inner m p j i k S l b
both_marks Possible Possible inner outer m p j i k S l h a b = (free_both inner m p j i k S a.0 b.0, left_early outer m p j i k S h a.1)
both_marks Possible Clear inner outer m p j i k S l h a b = (free_both inner m p j i k S a.0 b.0, left_early outer m p j i k S h a.1)
both_marks Clear Removed inner outer m p j i k S l h a b = held_late inner m p j i k S l b
both_marks Clear Possible inner outer m p j i k S l h a b = (free_both inner m p j i k S a.0 b.0, left_late outer m p j i k S l b.1)
both_marks Clear Clear inner outer m p j i k S l h a b = (free_both inner m p j i k S a.0 b.0, out_both outer m p j i k S a.1 b.1)

-- where the box is decided
pub raised_none : (inner outer : List SlabSize) (m : SweepOf) (point : ℕ → List ℤ) (S n j a b : ℕ) (marks : List Mark) → IsLine point → 0 < S
    → ((p : List ℤ) (i : ℕ) → some_holds inner m p i S ≡ true → some_holds outer m p i S ≡ true) → is_undecided outer m point S n j a b ≡ false
    → AreRaised inner outer m point S j (j + 2 ^ n) a b marks marks
raised_none inner outer m point S n j a b marks line some enclosed decided = record {
  inside = λ l after before.
      let p = point l in let k = j + 2 ^ n in
      let forms : AreFormsBetween (u_between m p j k S) (n_between m j k S) (d_between m p j k S) m p j k S = record { u_is = refl; n_is = refl; d_is = refl } in
      record {
        found = Clear;
        between = dropped inner outer (u_between m p j k S) (n_between m j k S) (d_between m p j k S) m p S n j some forms (enclosed p) (decided_at outer m point S n j a b l line after before decided);
        raised = greater_clear (mark_at marks l);
      };
  outside = λ l apart. refl;
}

-- where it is one point on one cell that is left
no_both : (b : Bool) → b ≡ false → b ≡ true → ⊥
no_both b e f = cc

chosen : (b : Bool) (x y : Mark) → b ≡ true → (if b then x else y) ≡ x
chosen b x y h = cc

other : (b : Bool) (x y : Mark) → b ≡ false → (if b then x else y) ≡ y
other b x y h = cc

left_alone : (outer : List SlabSize) (m : SweepOf) (point : ℕ → List ℤ) (S j a : ℕ) → is_undecided outer m point S 0 j a (a + 1) ≡ true → is_unexcluded_on outer m (point a) j S ≡ true
left_alone outer m point S j a undecided =
    let last : (a + 1) - 1 ≡ a = omega arith in
    ⊎_elim (λ left. left)
    (λ out. absurd (no_both (is_undecided outer m point S 0 j a (a + 1)) (subst (λ q. list_any (λ s. not (is_excluded_in_box m (point a) (point q) j (j + 1) S s)) outer ≡ false) (sym last) (none_left_alone outer m (point a) j (j + 1) S out)) undecided))
    (cases_Bool (is_unexcluded_between outer m (point a) j (j + 1) S))

sample_mark : (inner outer : List SlabSize) (m : SweepOf) (p : List ℤ) (S j : ℕ) → is_unexcluded_on outer m p j S ≡ true → IsMarkBetween (mark_by_samples inner m p j (j + 1) S) inner outer m p j (j + 1) S
sample_mark inner outer m p S j left =
    let last = some_holds inner m p (j + 1) S in let first = some_holds inner m p j S in
    let held = λ (i : ℕ) (after : j ≤ i) (before : i ≤ j + 1) (h : some_holds inner m p i S ≡ true). let found : IsHeldBetween inner m p j (j + 1) S = record { sample = i; after = after; before = before; held = h } in found in
    ⊎_elim
    (λ late. subst (λ x. IsMarkBetween x inner outer m p j (j + 1) S) (sym (chosen last Removed (if first then Removed else Possible) late)) (held (j + 1) (omega arith) (omega arith) late))
    (λ none. subst (λ x. IsMarkBetween x inner outer m p j (j + 1) S) (sym (other last Removed (if first then Removed else Possible) none))
    (⊎_elim
    (λ early. subst (λ x. IsMarkBetween x inner outer m p j (j + 1) S) (sym (chosen first Removed Possible early)) (held j (omega arith) (omega arith) early))
    (λ neither. subst (λ x. IsMarkBetween x inner outer m p j (j + 1) S) (sym (other first Removed Possible neither))
    (let free : IsFreeBetween inner m p j (j + 1) S = record { none = λ i after before. two_samples (λ i. some_holds inner m p i S ≡ false) j i neither none after before } in
    let cell : IsUnexcludedWithin outer m p j (j + 1) S = record { cell = j; after = omega arith; before = omega arith; left = left } in
    (free, cell)))
    (cases_Bool first)))
    (cases_Bool last)

raised_alone : (inner outer : List SlabSize) (m : SweepOf) (point : ℕ → List ℤ) (S j a : ℕ) (marks : List Mark) (mark : Mark) → a < length marks
    → is_undecided outer m point S 0 j a (a + 1) ≡ true → mark ≡ mark_by_samples inner m (point a) j (j + 1) S
    → AreRaised inner outer m point S j (j + 1) a (a + 1) marks (set marks a (greater_mark (mark_at marks a) mark))
raised_alone inner outer m point S j a marks mark within undecided e = record {
  inside = λ l after before.
      let here : a ≡ l = omega arith in
      subst (λ i. IsRaised inner outer m (point i) S j (j + 1) (mark_at marks i) (mark_at (set marks a (greater_mark (mark_at marks a) mark)) i)) here
      record {
        found = mark;
        between = subst (λ x. IsMarkBetween x inner outer m (point a) j (j + 1) S) (sym e) (sample_mark inner outer m (point a) S j (left_alone outer m point S j a undecided));
        raised = get_or-set_same marks a (greater_mark (mark_at marks a) mark) Clear within;
      };
  outside = λ l apart. get_or-set_other marks a l (greater_mark (mark_at marks a) mark) Clear (λ e. ⊎_elim (λ before. omega (arith, before, e)) (λ after. omega (arith, after, e)) apart);
}

pub raised_cell : (inner outer : List SlabSize) (m : SweepOf) (point : ℕ → List ℤ) (S n j a b : ℕ) (marks : List Mark) (mark : Mark) → n ≡ 0 → b ≡ a + 1 → a < length marks
    → is_undecided outer m point S n j a b ≡ true → mark ≡ mark_by_samples inner m (point a) j (j + 2 ^ n) S
    → AreRaised inner outer m point S j (j + 2 ^ n) a b marks (set marks a (greater_mark (mark_at marks a) mark))
raised_cell inner outer m point S n j a b marks mark en eb within undecided e =
    let new = set marks a (greater_mark (mark_at marks a) mark) in
    subst (λ i. AreRaised inner outer m point S j (j + 2 ^ n) a i marks new) (sym eb)
    (subst (λ i. AreRaised inner outer m point S j (j + 2 ^ i) a (a + 1) marks new) (sym en)
    (raised_alone inner outer m point S j a marks mark within (subst (λ i. is_undecided outer m point S i j a (a + 1) ≡ true) en (subst (λ i. is_undecided outer m point S n j a i ≡ true) eb undecided))
    (subst (λ i. mark ≡ mark_by_samples inner m (point a) j (j + 2 ^ i) S) en e)))

-- two parts next to each other along the ray
pub raised_beside : (inner outer : List SlabSize) (m : SweepOf) (point : ℕ → List ℤ) (S j k a c b : ℕ) (old between new : List Mark) → a ≤ c → c ≤ b
    → AreRaised inner outer m point S j k a c old between → AreRaised inner outer m point S j k c b between new → AreRaised inner outer m point S j k a b old new
raised_beside inner outer m point S j k a c b old between new h g one two = record {
  inside = λ l after before.
      ⊎_elim
      (λ low. subst (λ x. IsRaised inner outer m (point l) S j k (mark_at old l) x) (sym (two.outside l (inl low))) (one.inside l after low))
      (λ high. subst (λ x. IsRaised inner outer m (point l) S j k x (mark_at new l)) (one.outside l (inr high)) (two.inside l high before))
      (cases_lt l c);
  outside = λ l apart.
      ⊎_elim (λ low. two.outside l (inl (omega (arith, low))) ∙ one.outside l (inl low)) (λ high. two.outside l (inr high) ∙ one.outside l (inr (omega (arith, high)))) apart;
}

-- and one after the other in time
raised_twice : (inner outer : List SlabSize) (m : SweepOf) (p : List ℤ) (S j i k : ℕ) (old between new : Mark) → j ≤ i → i ≤ k
    → IsRaised inner outer m p S j i old between → IsRaised inner outer m p S i k between new → IsRaised inner outer m p S j k old new
raised_twice inner outer m p S j i k old between new h g one two = record {
  found = greater_mark one.found two.found;
  between = both_marks one.found two.found inner outer m p j i k S h g one.between two.between;
  raised = two.raised ∙ ap (λ x. greater_mark x two.found) one.raised ∙ greater_twice old one.found two.found;
}

pub raised_after : (inner outer : List SlabSize) (m : SweepOf) (point : ℕ → List ℤ) (S j i k a b : ℕ) (old between new : List Mark) → j ≤ i → i ≤ k
    → AreRaised inner outer m point S j i a b old between → AreRaised inner outer m point S i k a b between new → AreRaised inner outer m point S j k a b old new
raised_after inner outer m point S j i k a b old between new h g one two = record {
  inside = λ l after before. raised_twice inner outer m (point l) S j i k (mark_at old l) (mark_at between l) (mark_at new l) h g (one.inside l after before) (two.inside l after before);
  outside = λ l apart. two.outside l apart ∙ one.outside l apart;
}
