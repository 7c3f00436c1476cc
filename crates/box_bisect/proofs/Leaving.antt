-- The cell rule goes up a rising stack where n is above 0 by its coefficients.
use Rattle.std.proofs.Common.{◌≡◌, Bool, true, false, not, ◌||◌, ℕ, ◌≤◌, ◌<◌, List, length, ℤ, pos, negsuc, ◌*ℤ◌, ◌<ℤ◌, ◌≤ℤ◌, arith, refl, ap, ⊎_elim}
use Rattle.std.proofs.Math.Nat.{mul-le-mul, mul-le-mul_left, mul-le-mul_right}
use Rattle.std.proofs.lemmas.Bool.{cases_lt}
use Rattle.std.proofs.lemmas.Int.{ints}
use Rattle.std.proofs.lemmas.List.{get_or_past}
use Rattle.std.proofs.lemmas.List.Folds.{list_any_none}
use Rattle.space.specs.Vectors.{at}
use Rattle.space.proofs.Naturals.{square_not_negative}
use Rattle.bern_form.specs.Cells.{scaled_square}
use Rattle.bern_form.specs.Forms.{all_negative, all_positive, difference4, scaled4}
use Rattle.bern_form.specs.Slab.{SlabSize}
use Rattle.bern_form.proofs.Decided.{decides_positive}
use Rattle.box_bisect.specs.SlabTests.{is_below_by, is_excluded_by, is_past_by, is_unexcluded_by}
use Rattle.box_bisect.proofs.Deciding.{GoesUp}
use Rattle.box_bisect.proofs.Raised.{all_over, all_under, less_or_not, not_over, not_under}

-- a limit rises with its length, and its products with it
square_rises : (S : ℕ) (x y : ℤ) → pos 0 ≤ℤ x → x ≤ℤ y → scaled_square S x ≤ℤ scaled_square S y
square_rises S (pos x) (pos y) h k =
    let l : x ≤ y = omega (arith, ints, k) in let m = mul-le-mul_left S l in let e = mul-le-mul m m in omega (arith, ints, e)
square_rises S (pos x) (negsuc y) h k = absurd (omega (arith, ints, k))
square_rises S (negsuc x) y h k = absurd (omega (arith, ints, h))

product_rises : (f g r : ℤ) → pos 0 ≤ℤ f → f ≤ℤ g → pos 0 ≤ℤ r → (f *ℤ r) ≤ℤ (g *ℤ r)
product_rises (pos f) (pos g) (pos r) h k l = let m : f ≤ g = omega (arith, ints, k) in let e = mul-le-mul_right r m in omega (arith, ints, e)
product_rises (pos f) (negsuc g) r h k l = absurd (omega (arith, ints, k))
product_rises (negsuc f) g r h k l = absurd (omega (arith, ints, h))
product_rises (pos f) (pos g) (negsuc r) h k l = absurd (omega (arith, ints, l))

-- a coefficient of a form of which all are above 0
not_negative : (r : List ℤ) (k : ℕ) → all_positive r ≡ true → pos 0 ≤ℤ at r k
not_negative r k above =
    ⊎_elim (λ l. let e = (decides_positive r).0 above k (pos 0) l in omega (arith, ints, e)) (λ l. let e : at r k ≡ pos 0 = get_or_past r k (pos 0) l in omega (arith, ints, e)) (cases_lt k (length r))

-- what the comparisons with a limit say of each coefficient
both_ways : (b : Bool) → b ≡ true → b ≡ false → ⊥
both_ways b e f = cc

each_under : (c r : List ℤ) (f : ℤ) → all_negative (difference4 c (scaled4 f r)) ≡ true → (k : ℕ) → k < 5 → at c k <ℤ (f *ℤ at r k)
each_under c r f under k l = ⊎_elim (λ less. less) (λ out. absurd (both_ways _ under (not_under c r f k l out))) (less_or_not (at c k) (f *ℤ at r k))

each_over : (c r : List ℤ) (f : ℤ) → all_positive (difference4 c (scaled4 f r)) ≡ true → (k : ℕ) → k < 5 → (f *ℤ at r k) <ℤ at c k
each_over c r f over k l = ⊎_elim (λ more. more) (λ out. absurd (both_ways _ over (not_over c r f k l out))) (less_or_not (f *ℤ at r k) (at c k))

less_then : (a b c : ℤ) → a <ℤ b → b ≤ℤ c → a <ℤ c
less_then a b c h k = omega (arith, ints)

up_to_less : (a b c : ℤ) → a ≤ℤ b → b <ℤ c → a <ℤ c
up_to_less a b c h k = omega (arith, ints)

-- below a length is below a greater one, above it is above a lesser one
still_under : (S : ℕ) (c r : List ℤ) (x y : ℤ) → all_positive r ≡ true → pos 0 ≤ℤ x → x ≤ℤ y
    → all_negative (difference4 c (scaled4 (scaled_square S x) r)) ≡ true → all_negative (difference4 c (scaled4 (scaled_square S y) r)) ≡ true
still_under S c r x y above h k under =
    let f = scaled_square S x in let g = scaled_square S y in
    all_under c r g (λ i l. less_then (at c i) (f *ℤ at r i) (g *ℤ at r i) (each_under c r f under i l)
    (product_rises f g (at r i) (square_not_negative (pos S *ℤ x)) (square_rises S x y h k) (not_negative r i above)))

still_over : (S : ℕ) (c r : List ℤ) (x y : ℤ) → all_positive r ≡ true → pos 0 ≤ℤ x → x ≤ℤ y
    → all_positive (difference4 c (scaled4 (scaled_square S y) r)) ≡ true → all_positive (difference4 c (scaled4 (scaled_square S x) r)) ≡ true
still_over S c r x y above h k over =
    let f = scaled_square S x in let g = scaled_square S y in
    all_over c r f (λ i l. up_to_less (f *ℤ at r i) (g *ℤ at r i) (at c i)
    (product_rises f g (at r i) (square_not_negative (pos S *ℤ x)) (square_rises S x y h k) (not_negative r i above)) (each_over c r g over i l))

-- the tests as yes and no
below_needed : (b x p : Bool) → not x ≡ false → not (b || (x || p)) ≡ false
below_needed true x p e = refl
below_needed false true p e = refl
below_needed false false p e = cc

not_lower : (x y : Bool) → (x ≡ true → y ≡ true) → not y ≡ true → not x ≡ true
not_lower true y h e = let f = h refl in cc
not_lower false y h e = refl

left_up : (b x h w x' h' w' : Bool) → not x' ≡ true → (h' ≡ true → h ≡ true) → (w' ≡ true → w ≡ true) → not (b || (x || (h || w))) ≡ true → not (b || (x' || (h' || w'))) ≡ true
left_up true x h w x' h' w' out up side left = cc
left_up false true h w x' h' w' out up side left = cc
left_up false false true w x' h' w' out up side left = cc
left_up false false false true x' h' w' out up side left = cc
left_up false false false false true h' w' out up side left = cc
left_up false false false false false true w' out up side left = let e = up refl in cc
left_up false false false false false false true out up side left = let e = side refl in cc
left_up false false false false false false false out up side left = refl

pub cell_goes_up : (S : ℕ) (behind : Bool) (raised height width : List ℤ) → all_positive raised ≡ true
    → GoesUp (λ s. not (is_excluded_by S behind raised height width s)) (λ s. not (is_below_by S raised height s))
cell_goes_up S behind raised height width above = record {
  needed = λ s out. below_needed behind (is_below_by S raised height s) (is_past_by S raised height width s) out;
  lower = λ s t vs vt on met.
      not_lower (is_below_by S raised height s) (is_below_by S raised height t) (still_under S height raised s.lo t.lo above vs.above_tip (omega (arith, ints))) met;
  carried = λ s t vs vt on met left.
      left_up behind (is_below_by S raised height s) _ _ (is_below_by S raised height t) _ _ met
      (still_over S height raised s.hi t.hi above (omega (arith, ints)) (omega (arith, ints))) (still_over S width raised s.dia t.dia above vs.thick on.wider) left;
}

-- of a slab that is reached, ahead of the tip
pub past_alone : (b x p r : Bool) → b ≡ false → not x ≡ true → r ≡ p → not r ≡ not (b || (x || p))
past_alone true x p r e f g = cc
past_alone false true p r e f g = cc
past_alone false false p r e f g = ap not g

behind_one : (b p : Bool) → b ≡ true → not (b || p) ≡ false
behind_one true p e = refl
behind_one false p e = cc

-- behind the tip none is left
pub none_ahead : (S : ℕ) (behind : Bool) (raised height width : List ℤ) (slabs : List SlabSize) → behind ≡ true → is_unexcluded_by S behind raised height width slabs ≡ false
none_ahead S behind raised height width slabs e = list_any_none _ slabs (λ k d l. behind_one behind _ e)
