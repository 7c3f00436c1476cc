-- The rule of a box goes up a rising stack where n is above 0 by its coefficients.
use Rattle.std.proofs.Common.{◌≡◌, Bool, true, false, ◌&&◌, ◌||◌, ℕ, ◌≤◌, List, length, ℤ, pos, negsuc, ◌*ℤ◌, ◌-ℤ◌, ◌<ℤ◌, ◌≤ℤ◌, int_lt, arith, refl, ⊎_elim}
use Rattle.std.proofs.Math.Nat.{mul-le-mul, mul-le-mul_left, mul-le-mul_right}
use Rattle.std.proofs.lemmas.Bool.{and_from, cases_lt}
use Rattle.std.proofs.lemmas.Int.{ints}
use Rattle.std.proofs.lemmas.List.{get_or_past}
use Rattle.space.specs.Vectors.{at}
use Rattle.space.proofs.Naturals.{square_not_negative}
use Rattle.space.proofs.Tests.{decides_lt}
use Rattle.bern_form.specs.Cells.{scaled_square}
use Rattle.bern_form.specs.Forms.{all_positive}
use Rattle.bern_form.specs.Grids.{rows_negative, rows_positive}
use Rattle.bern_form.proofs.Decided.{decides_positive}
use Rattle.ray_boxes.specs.Boxes.{grid_less, is_excluded_by_grids}
use Rattle.cert_boxes.specs.Sides.{is_row_on}
use Rattle.cert_boxes.specs.declared.side.Side.TheVariants.{Above, Below}
use Rattle.cert_boxes.specs.SlabOrder.{is_above_by_grid, is_below_by_grid, is_beside_by_grid}
use Rattle.cert_boxes.proofs.Turning.{GoesUp}

-- a limit rises with its length, and its products with it
square_rises : (S : ℕ) (x y : ℤ) → pos 0 ≤ℤ x → x ≤ℤ y → scaled_square S x ≤ℤ scaled_square S y
square_rises S (pos x) (pos y) h k =
    let l : x ≤ y = omega (arith, ints, k) in let m = mul-le-mul_left S l in let e = mul-le-mul m m in omega (arith, ints, e)
square_rises S (pos x) (negsuc y) h k = absurd (omega (arith, ints, k))
square_rises S (negsuc x) y h k = absurd (omega (arith, ints, h))

product_rises : (f g r : ℤ) → pos 0 ≤ℤ f → f ≤ℤ g → pos 0 ≤ℤ r → (f *ℤ r) ≤ℤ (g *ℤ r)
product_rises (pos f) (pos g) (pos r) h k l = let m : f ≤ g = omega (arith, ints, k) in let e = mul-le-mul_right r m in omega (arith, ints, e)
product_rises (pos f) (negsuc g) r h k l = absurd (omega (arith, ints, k))
product_rises (negsuc f) g r h k l = absurd (omega (arith, ints, h))
product_rises (pos f) (pos g) (negsuc r) h k l = absurd (omega (arith, ints, l))

-- a coefficient of a form of which all are above 0
not_negative : (r : List ℤ) (k : ℕ) → all_positive r ≡ true → pos 0 ≤ℤ at r k
not_negative r k above =
    ⊎_elim (λ l. let e = (decides_positive r).0 above k (pos 0) l in omega (arith, ints, e)) (λ l. let e : at r k ≡ pos 0 = get_or_past r k (pos 0) l in omega (arith, ints, e)) (cases_lt k (length r))

-- a number that is less than a limit is less than a greater one, and one that is more is more than a lesser one
lesser : (a d e : ℤ) → d ≤ℤ e → (a -ℤ d) <ℤ pos 0 → (a -ℤ e) <ℤ pos 0
lesser a d e h k = omega (arith, ints)

greater : (a d e : ℤ) → d ≤ℤ e → pos 0 <ℤ (a -ℤ e) → pos 0 <ℤ (a -ℤ d)
greater a d e h k = omega (arith, ints)

twice : (d e : ℤ) → d ≤ℤ e → (pos 2 *ℤ d) ≤ℤ (pos 2 *ℤ e)
twice d e h = omega (arith, ints)

tested_lesser : (a d e : ℤ) → d ≤ℤ e → int_lt (a -ℤ d) (pos 0) ≡ true → int_lt (a -ℤ e) (pos 0) ≡ true
tested_lesser a d e h k = (decides_lt (a -ℤ e) (pos 0)).1 (lesser a d e h ((decides_lt (a -ℤ d) (pos 0)).0 k))

tested_greater : (a d e : ℤ) → d ≤ℤ e → int_lt (pos 0) (a -ℤ e) ≡ true → int_lt (pos 0) (a -ℤ d) ≡ true
tested_greater a d e h k = (decides_lt (pos 0) (a -ℤ d)).1 (greater a d e h ((decides_lt (pos 0) (a -ℤ e)).0 k))

-- what each of two parts gives both give
both : (x r x' r' : Bool) → (x ≡ true → x' ≡ true) → (r ≡ true → r' ≡ true) → (x && r) ≡ true → (x' && r') ≡ true
both true r x' r' f g k = and_from x' r' (f refl) (g k)
both false r x' r' f g k = cc

both5 : (a b c d e a' b' c' d' e' : Bool) → (a ≡ true → a' ≡ true) → (b ≡ true → b' ≡ true) → (c ≡ true → c' ≡ true) → (d ≡ true → d' ≡ true) → (e ≡ true → e' ≡ true)
    → (a && (b && (c && (d && (e && true))))) ≡ true → (a' && (b' && (c' && (d' && (e' && true))))) ≡ true
both5 a b c d e a' b' c' d' e' fa fb fc fd fe =
    both a (b && (c && (d && (e && true)))) a' (b' && (c' && (d' && (e' && true)))) fa
    (both b (c && (d && (e && true))) b' (c' && (d' && (e' && true))) fb
    (both c (d && (e && true)) c' (d' && (e' && true)) fc (both d (e && true) d' (e' && true) fd (both e true e' true fe (λ k. k)))))

row_under : (a b c d e : ℤ) → d ≤ℤ e → is_row_on Below a b c d ≡ true → is_row_on Below a b c e ≡ true
row_under a b c d e h =
    let m = int_lt (b -ℤ pos 2 *ℤ d) (pos 0) in let m' = int_lt (b -ℤ pos 2 *ℤ e) (pos 0) in
    let l = int_lt (c -ℤ d) (pos 0) in let l' = int_lt (c -ℤ e) (pos 0) in
    both (int_lt (a -ℤ d) (pos 0)) (m && (l && true)) (int_lt (a -ℤ e) (pos 0)) (m' && (l' && true)) (tested_lesser a d e h)
    (both m (l && true) m' (l' && true) (tested_lesser b (pos 2 *ℤ d) (pos 2 *ℤ e) (twice d e h)) (both l true l' true (tested_lesser c d e h) (λ k. k)))

row_over : (a b c d e : ℤ) → d ≤ℤ e → is_row_on Above a b c e ≡ true → is_row_on Above a b c d ≡ true
row_over a b c d e h =
    let m = int_lt (pos 0) (b -ℤ pos 2 *ℤ e) in let m' = int_lt (pos 0) (b -ℤ pos 2 *ℤ d) in
    let l = int_lt (pos 0) (c -ℤ e) in let l' = int_lt (pos 0) (c -ℤ d) in
    both (int_lt (pos 0) (a -ℤ e)) (m && (l && true)) (int_lt (pos 0) (a -ℤ d)) (m' && (l' && true)) (tested_greater a d e h)
    (both m (l && true) m' (l' && true) (tested_greater b (pos 2 *ℤ d) (pos 2 *ℤ e) (twice d e h)) (both l true l' true (tested_greater c d e h) (λ k. k)))

-- below a length is below a greater one, above it is above a lesser one
abbrev under : List ℤ → List ℤ → List ℤ → List ℤ → ℤ → ℕ → Bool
under a b c r f k = is_row_on Below (at a k) (at b k) (at c k) (f *ℤ at r k)

abbrev over : List ℤ → List ℤ → List ℤ → List ℤ → ℤ → ℕ → Bool
over a b c r f k = is_row_on Above (at a k) (at b k) (at c k) (f *ℤ at r k)

still_under : (S : ℕ) (r a b c : List ℤ) (x y : ℤ) → all_positive r ≡ true → pos 0 ≤ℤ x → x ≤ℤ y
    → rows_negative (grid_less r (scaled_square S x) a b c) ≡ true → rows_negative (grid_less r (scaled_square S y) a b c) ≡ true
still_under S r a b c x y above h k =
    let f = scaled_square S x in let g = scaled_square S y in
    let one = λ (i : ℕ). row_under (at a i) (at b i) (at c i) (f *ℤ at r i) (g *ℤ at r i)
    (product_rises f g (at r i) (square_not_negative (pos S *ℤ x)) (square_rises S x y h k) (not_negative r i above)) in
    both5 (under a b c r f 0) (under a b c r f 1) (under a b c r f 2) (under a b c r f 3) (under a b c r f 4)
    (under a b c r g 0) (under a b c r g 1) (under a b c r g 2) (under a b c r g 3) (under a b c r g 4) (one 0) (one 1) (one 2) (one 3) (one 4)

still_over : (S : ℕ) (r a b c : List ℤ) (x y : ℤ) → all_positive r ≡ true → pos 0 ≤ℤ x → x ≤ℤ y
    → rows_positive (grid_less r (scaled_square S y) a b c) ≡ true → rows_positive (grid_less r (scaled_square S x) a b c) ≡ true
still_over S r a b c x y above h k =
    let f = scaled_square S x in let g = scaled_square S y in
    let one = λ (i : ℕ). row_over (at a i) (at b i) (at c i) (f *ℤ at r i) (g *ℤ at r i)
    (product_rises f g (at r i) (square_not_negative (pos S *ℤ x)) (square_rises S x y h k) (not_negative r i above)) in
    both5 (over a b c r g 0) (over a b c r g 1) (over a b c r g 2) (over a b c r g 3) (over a b c r g 4)
    (over a b c r f 0) (over a b c r f 1) (over a b c r f 2) (over a b c r f 3) (over a b c r f 4) (one 0) (one 1) (one 2) (one 3) (one 4)

-- the tests as yes and no
below_out : (x p : Bool) → x ≡ true → (x || p) ≡ true
below_out true p e = refl
below_out false p e = cc

out_below : (x' h' w' x h w : Bool) → x' ≡ false → (h' ≡ true → h ≡ true) → (w' ≡ true → w ≡ true) → (x' || (h' || w')) ≡ true → (x || (h || w)) ≡ true
out_below true h' w' x h w e up side is = cc
out_below false h' w' true h w e up side is = refl
out_below false true w' false true w e up side is = refl
out_below false true w' false false w e up side is = let p = up refl in cc
out_below false false true false true w e up side is = refl
out_below false false true false false true e up side is = refl
out_below false false true false false false e up side is = let p = side refl in cc
out_below false false false false h w e up side is = cc

pub box_goes_up : (S : ℕ) (raised h0 h1 h2 w0 w1 w2 : List ℤ) → all_positive raised ≡ true
    → GoesUp (is_excluded_by_grids S false raised h0 h1 h2 w0 w1 w2) (is_below_by_grid S raised h0 h1 h2)
box_goes_up S raised h0 h1 h2 w0 w1 w2 positive = record {
  needed = λ s is. below_out (is_below_by_grid S raised h0 h1 h2 s) (is_above_by_grid S raised h0 h1 h2 s || is_beside_by_grid S raised w0 w1 w2 s) is;
  higher = λ s t vs vt on is. still_under S raised h0 h1 h2 s.lo t.lo positive vs.above_tip (omega (arith, ints)) is;
  carried = λ s t vs vt on reached is.
      out_below (is_below_by_grid S raised h0 h1 h2 t) (is_above_by_grid S raised h0 h1 h2 t) (is_beside_by_grid S raised w0 w1 w2 t)
      (is_below_by_grid S raised h0 h1 h2 s) (is_above_by_grid S raised h0 h1 h2 s) (is_beside_by_grid S raised w0 w1 w2 s) reached
      (still_over S raised h0 h1 h2 s.hi t.hi positive (omega (arith, ints)) (omega (arith, ints))) (still_over S raised w0 w1 w2 s.dia t.dia positive vs.thick on.wider) is;
}
