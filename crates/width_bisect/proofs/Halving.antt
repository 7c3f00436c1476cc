-- The forms of a point on a stretch give those of its halves: the shifts lose nothing, since the samples are whole.
use Rattle.std.proofs.Common.{◌≡◌, true, ℕ, ◌+◌, ◌*◌, [], ◌∷◌, List, ℤ, pos, ◌+ℤ◌, ◌*ℤ◌, ◌-ℤ◌, arith, ap, refl, sym, subst, ◌∙◌}
use Rattle.std.proofs.lemmas.Int.{ints}
use Rattle.space.specs.Sweeps.{SweepOf}
use Rattle.space.specs.Vectors.{at}
use Rattle.bern_form.specs.Between.{d_between, height_less, n_between, u_between}
use Rattle.bern_form.specs.Cells.{scaled_square}
use Rattle.bern_form.specs.Forms.{all_negative, all_positive, difference4, lifted, product22}
use Rattle.bern_form.specs.Sizes.{IsBounded2}
use Rattle.bern_form.specs.Slab.{SlabSize}
use Rattle.bern_form.proofs.Decided.{decides_negative, decides_positive}
use Rattle.bern_form.proofs.Halves.{d_of_first, d_of_last, n_of_first, n_of_last, u_of_first, u_of_last, whole_of_first, whole_of_last}
use Rattle.bern_form.proofs.HalfSigns.{IsFirstOf, IsLastOf, first_negative4, first_positive4, five, height_first, height_last, last_negative4, last_positive4, three}
use Rattle.box_bisect.specs.SlabTests.{is_below_by, width_of}
use Rattle.ray_boxes.proofs.Raised.{raised_is}
use Rattle.width_bisect.specs.Forms.{AreWidthForms}
use Rattle.width_bisect.specs.Halved.{first2, first4, last2, last4}
use Rattle.width_bisect.specs.Sizes.{IsWeighted4}
use Rattle.width_bisect.proofs.Same.{same3, same5}
use Rattle.width_bisect.proofs.Shifting.{fourth4_small, middle2_small, middle4_small, second2_small, second4_small, shifted1, shifted2, shifted3, shifted4, third4_small}
use Rattle.width_bisect.proofs.Terms4.{raised_of_first, raised_of_last, width_of_first, width_of_last}

-- degree 2
first_second : (a b : ℤ) → pos 2 *ℤ a +ℤ (pos 2 *ℤ b -ℤ pos 2 *ℤ a) ≡ pos 2 *ℤ b
first_second a b = omega (arith, ints)

first_middle : (a b c : ℤ) → (a +ℤ (pos 2 *ℤ b -ℤ pos 2 *ℤ a)) +ℤ ((a -ℤ pos 2 *ℤ b) +ℤ pos 4 *ℤ c) ≡ pos 4 *ℤ c
first_middle a b c = omega (arith, ints)

last_second : (b c : ℤ) → pos 2 *ℤ c +ℤ (pos 2 *ℤ b -ℤ pos 2 *ℤ c) ≡ pos 2 *ℤ b
last_second b c = omega (arith, ints)

last_middle : (a b c : ℤ) → (((pos 4 *ℤ a -ℤ pos 2 *ℤ b) +ℤ c) +ℤ (pos 2 *ℤ b -ℤ pos 2 *ℤ c)) +ℤ c ≡ pos 4 *ℤ a
last_middle a b c = omega (arith, ints)

halved_first : (h : List ℤ) → first2 (whole_of_first h) ≡ three h
halved_first h =
    let a = at h 0 in let b = at h 1 in let c = at h 2 in
    same3 _ _ _ _ _ _ refl (shifted1 _ b (first_second a b)) (shifted2 _ c (first_middle a b c))

halved_last : (h : List ℤ) → last2 (whole_of_last h) ≡ three h
halved_last h =
    let a = at h 0 in let b = at h 1 in let c = at h 2 in
    same3 _ _ _ _ _ _ (shifted2 _ a (last_middle a b c)) (shifted1 _ b (last_second b c)) refl

-- degree 4
first_of_five : (c0 c1 c2 c3 c4 x0 x1 x2 x3 x4 : ℤ) → IsFirstOf (c0 ∷ c1 ∷ c2 ∷ c3 ∷ c4 ∷ []) (x0 ∷ x1 ∷ x2 ∷ x3 ∷ x4 ∷ [])
    → first4 (c0 ∷ c1 ∷ c2 ∷ c3 ∷ c4 ∷ []) ≡ x0 ∷ x1 ∷ x2 ∷ x3 ∷ x4 ∷ []
first_of_five c0 c1 c2 c3 c4 x0 x1 x2 x3 x4 i =
    same5 _ _ _ _ _ _ _ _ _ _ (omega (arith, ints, i.e0)) (shifted1 _ x1 (omega (arith, ints, i.e1))) (shifted2 _ x2 (omega (arith, ints, i.e2))) (shifted3 _ x3 (omega (arith, ints, i.e3)))
    (shifted4 _ x4 (sym i.e4))

last_of_five : (c0 c1 c2 c3 c4 x0 x1 x2 x3 x4 : ℤ) → IsLastOf (c0 ∷ c1 ∷ c2 ∷ c3 ∷ c4 ∷ []) (x0 ∷ x1 ∷ x2 ∷ x3 ∷ x4 ∷ [])
    → last4 (c0 ∷ c1 ∷ c2 ∷ c3 ∷ c4 ∷ []) ≡ x0 ∷ x1 ∷ x2 ∷ x3 ∷ x4 ∷ []
last_of_five c0 c1 c2 c3 c4 x0 x1 x2 x3 x4 i =
    same5 _ _ _ _ _ _ _ _ _ _ (shifted4 _ x0 (sym i.e0)) (shifted3 _ x1 (omega (arith, ints, i.e1))) (shifted2 _ x2 (omega (arith, ints, i.e2))) (shifted1 _ x3 (omega (arith, ints, i.e3)))
    (omega (arith, ints, i.e4))

halved_first4 : (c x : List ℤ) → IsFirstOf c x → first4 c ≡ five x
halved_first4 c x i =
    first_of_five (at c 0) (at c 1) (at c 2) (at c 3) (at c 4) (at x 0) (at x 1) (at x 2) (at x 3) (at x 4)
    record { e0 = i.e0; e1 = i.e1; e2 = i.e2; e3 = i.e3; e4 = i.e4 }

halved_last4 : (c x : List ℤ) → IsLastOf c x → last4 c ≡ five x
halved_last4 c x i =
    last_of_five (at c 0) (at c 1) (at c 2) (at c 3) (at c 4) (at x 0) (at x 1) (at x 2) (at x 3) (at x 4)
    record { e0 = i.e0; e1 = i.e1; e2 = i.e2; e3 = i.e3; e4 = i.e4 }

-- the forms of a point on a half
width_as : (u n d u' n' d' : List ℤ) → u ≡ u' → n ≡ n' → d ≡ d' → width_of u n d ≡ width_of u' n' d'
width_as u n d u' n' d' eu en ed = ap (λ l. width_of l n d) eu ∙ ap (λ l. width_of u' l d) en ∙ ap (λ l. width_of u' n' l) ed

pub forms_of_first : (u n width : List ℤ) (m : SweepOf) (p : List ℤ) (j i k S : ℕ) → j + k ≡ 2 * i → AreWidthForms u n width m p j k S
    → AreWidthForms (first2 u) (first2 n) (first4 width) m p j i S
forms_of_first u n width m p j i k S h f =
    let u' = u_between m p j i S in let n' = n_between m j i S in let d' = d_between m p j i S in record {
      u_is = ap first2 (f.u_is ∙ u_of_first m p j i k S h) ∙ halved_first u';
      n_is = ap first2 (f.n_is ∙ n_of_first m j i k S h) ∙ halved_first n';
      width_is =
          ap first4 (f.width_is ∙ width_as _ _ _ _ _ _ (u_of_first m p j i k S h) (n_of_first m j i k S h) (d_of_first m p j i k S h))
          ∙ halved_first4 (width_of (whole_of_first u') (whole_of_first n') (whole_of_first d')) (width_of u' n' d') (width_of_first u' n' d');
    }

pub forms_of_last : (u n width : List ℤ) (m : SweepOf) (p : List ℤ) (j i k S : ℕ) → j + k ≡ 2 * i → AreWidthForms u n width m p j k S
    → AreWidthForms (last2 u) (last2 n) (last4 width) m p i k S
forms_of_last u n width m p j i k S h f =
    let u' = u_between m p i k S in let n' = n_between m i k S in let d' = d_between m p i k S in record {
      u_is = ap last2 (f.u_is ∙ u_of_last m p j i k S h) ∙ halved_last u';
      n_is = ap last2 (f.n_is ∙ n_of_last m j i k S h) ∙ halved_last n';
      width_is =
          ap last4 (f.width_is ∙ width_as _ _ _ _ _ _ (u_of_last m p j i k S h) (n_of_last m j i k S h) (d_of_last m p j i k S h))
          ∙ halved_last4 (width_of (whole_of_last u') (whole_of_last n') (whole_of_last d')) (width_of u' n' d') (width_of_last u' n' d');
    }

-- halves are no larger
pub first2_small : (c : List ℤ) (m : ℕ) → IsBounded2 m c → IsBounded2 m (first2 c)
first2_small c m h = record {
  first = h.first;
  middle = second2_small (at c 0) (at c 1) m h.first h.middle;
  last = middle2_small (at c 0) (at c 1) (at c 2) m h.first h.middle h.last;
}

pub last2_small : (c : List ℤ) (m : ℕ) → IsBounded2 m c → IsBounded2 m (last2 c)
last2_small c m h = record {
  first = middle2_small (at c 0) (at c 1) (at c 2) m h.first h.middle h.last;
  middle = second2_small (at c 2) (at c 1) m h.last h.middle;
  last = h.last;
}

pub first4_small : (c : List ℤ) (m : ℕ) → IsWeighted4 m c → IsWeighted4 m (first4 c)
first4_small c m h = record {
  c0 = h.c0;
  c1 = second4_small (at c 0) (at c 1) m h.c0 h.c1;
  c2 = third4_small (at c 0) (at c 1) (at c 2) m h.c0 h.c1 h.c2;
  c3 = fourth4_small (at c 0) (at c 1) (at c 2) (at c 3) m h.c0 h.c1 h.c2 h.c3;
  c4 = middle4_small (at c 0) (at c 1) (at c 2) (at c 3) (at c 4) m h.c0 h.c1 h.c2 h.c3 h.c4;
}

pub last4_small : (c : List ℤ) (m : ℕ) → IsWeighted4 m c → IsWeighted4 m (last4 c)
last4_small c m h = record {
  c0 = middle4_small (at c 0) (at c 1) (at c 2) (at c 3) (at c 4) m h.c0 h.c1 h.c2 h.c3 h.c4;
  c1 = fourth4_small (at c 4) (at c 3) (at c 2) (at c 1) m h.c4 h.c3 h.c2 h.c1;
  c2 = third4_small (at c 4) (at c 3) (at c 2) m h.c4 h.c3 h.c2;
  c3 = second4_small (at c 4) (at c 3) m h.c4 h.c3;
  c4 = h.c4;
}

-- n above 0 by its raised coefficients is so on both halves
pub open_first : (n h : List ℤ) → n ≡ whole_of_first h → all_positive (lifted n) ≡ true → all_positive (lifted h) ≡ true
open_first n h e above =
    (decides_positive (lifted h)).1
    (first_positive4 (lifted (whole_of_first h)) (lifted h) (omega arith) (raised_of_first h) ((decides_positive (lifted (whole_of_first h))).0 (subst (λ l. all_positive (lifted l) ≡ true) e above)))

pub open_last : (n h : List ℤ) → n ≡ whole_of_last h → all_positive (lifted n) ≡ true → all_positive (lifted h) ≡ true
open_last n h e above =
    (decides_positive (lifted h)).1
    (last_positive4 (lifted (whole_of_last h)) (lifted h) (omega arith) (raised_of_last h) ((decides_positive (lifted (whole_of_last h))).0 (subst (λ l. all_positive (lifted l) ≡ true) e above)))

-- a slab that the point is below throughout it is below on both halves
limit_form : (S : ℕ) (u n : List ℤ) (s : SlabSize) → is_below_by S (lifted n) (product22 u u) s ≡ all_negative (height_less (scaled_square S s.lo) u n)
limit_form S u n s = ap (λ l. all_negative (difference4 (product22 u u) l)) (raised_is (scaled_square S s.lo) n)

pub below_first : (S : ℕ) (u n g h : List ℤ) (s : SlabSize) → u ≡ whole_of_first g → n ≡ whole_of_first h → is_below_by S (lifted n) (product22 u u) s ≡ true
    → is_below_by S (lifted h) (product22 g g) s ≡ true
below_first S u n g h s eu en below =
    let f = scaled_square S s.lo in
    let whole = subst (λ l. all_negative (height_less f (whole_of_first g) l) ≡ true) en (subst (λ l. all_negative (height_less f l n) ≡ true) eu (sym (limit_form S u n s) ∙ below)) in
    limit_form S g h s
    ∙ (decides_negative (height_less f g h)).1 (first_negative4 (height_less f (whole_of_first g) (whole_of_first h)) (height_less f g h) (omega arith) (height_first f g h)
    ((decides_negative (height_less f (whole_of_first g) (whole_of_first h))).0 whole))

pub below_last : (S : ℕ) (u n g h : List ℤ) (s : SlabSize) → u ≡ whole_of_last g → n ≡ whole_of_last h → is_below_by S (lifted n) (product22 u u) s ≡ true
    → is_below_by S (lifted h) (product22 g g) s ≡ true
below_last S u n g h s eu en below =
    let f = scaled_square S s.lo in
    let whole = subst (λ l. all_negative (height_less f (whole_of_last g) l) ≡ true) en (subst (λ l. all_negative (height_less f l n) ≡ true) eu (sym (limit_form S u n s) ∙ below)) in
    limit_form S g h s
    ∙ (decides_negative (height_less f g h)).1 (last_negative4 (height_less f (whole_of_last g) (whole_of_last h)) (height_less f g h) (omega arith) (height_last f g h)
    ((decides_negative (height_less f (whole_of_last g) (whole_of_last h))).0 whole))
