-- What is excluded on a box is excluded for each of its points in the box's time; on a box of one point it is the same.
use Rattle.std.proofs.Common.{◌≡◌, true, false, not, ◌||◌, Bool, ℕ, zero, suc, ◌+◌, ◌*◌, ◌≤◌, ◌<◌, [], ◌∷◌, List, length, ℤ, pos, negsuc, ◌+ℤ◌, ◌*ℤ◌, ◌-ℤ◌, ◌<ℤ◌, ◌⊎◌, inl, inr, arith, refl, subst, sym, ap, ⊎_elim}
use Rattle.std.proofs.lemmas.Int.{ints}
use Rattle.std.specs.Bool.{Decides}
use Rattle.std.specs.List.{All, list_any}
use Rattle.std.proofs.lemmas.Bool.Decides.{Decides-or}
use Rattle.space.specs.Sweeps.{SweepOf}
use Rattle.space.specs.Vectors.{at}
use Rattle.bern_form.specs.Between.{d_between, is_excluded_between, is_unexcluded_between, n_between, u_between}
use Rattle.bern_form.specs.Cells.{scaled_square}
use Rattle.bern_form.specs.Forms.{IsPlace, difference4, lifted, product22, scaled2, scaled4, value1, value2}
use Rattle.bern_form.specs.Grids.{columns21}
use Rattle.bern_form.specs.Slab.{SlabSize}
use Rattle.bern_form.proofs.Finer.{ExcludedBetween, ExcludedWith, decides_with}
use Rattle.bern_form.proofs.HalfSigns.{all_five, all_three}
use Rattle.bern_form.proofs.Relations.{AllNegative, AllPositive}
use Rattle.bern_form.proofs.Signs.{negative1, negative2, positive2}
use Rattle.bern_form.proofs.Squares.{decides_rows_negative, decides_rows_positive}
use Rattle.ray_boxes.specs.Boxes.{grid_less, height_column, is_excluded_across, is_excluded_in_box, product_between, width_column}
use Rattle.ray_boxes.proofs.Raised.{raised_is}
use Rattle.ray_boxes.proofs.Mixed.{IsAlong, blended, both_along, d_mixed, mixed, row_height, row_width, squares_along, u_mixed}

-- the grids of u, of u^2 - f n and of 4 (d n - u^2) - f n
abbrev pub height_grid : ℤ → List ℤ → List ℤ → List ℤ → List (List ℤ)
height_grid f u v n = grid_less (lifted n) f (product22 u u) (height_column (pos 2) u v) (product22 v v)

abbrev pub width_grid : ℤ → List ℤ → List ℤ → List ℤ → List ℤ → List ℤ → List ℤ → List (List ℤ)
width_grid f u v n d e g = grid_less (lifted n) f (width_column (pos 4) d n u u) (width_column (pos 8) e n u v) (width_column (pos 4) g n v v)

abbrev pub ExcludedAcross : SlabSize → ℕ → List ℤ → List ℤ → List ℤ → List ℤ → List ℤ → List ℤ → Type 0
ExcludedAcross s S u v n d e g =
    All AllNegative (columns21 u v)
    ⊎ (All AllNegative (height_grid (scaled_square S s.lo) u v n)
    ⊎ (All AllPositive (height_grid (scaled_square S s.hi) u v n) ⊎ All AllPositive (width_grid (scaled_square S s.dia) u v n d e g)))

pub decides_across : (s : SlabSize) (S : ℕ) (u v n d e g : List ℤ) → Decides (is_excluded_across S u v n d e g s) (ExcludedAcross s S u v n d e g)
decides_across s S u v n d e g =
    Decides-or _ _ (decides_rows_negative (columns21 u v))
    (Decides-or _ _ (decides_rows_negative (height_grid (scaled_square S s.lo) u v n))
    (Decides-or _ _ (decides_rows_positive (height_grid (scaled_square S s.hi) u v n)) (decides_rows_positive (width_grid (scaled_square S s.dia) u v n d e g))))

-- a number whose product with a natural one is above 0, or below 0, is so itself
positive_part : (s : ℕ) (z : ℤ) → pos 0 <ℤ (pos s *ℤ z) → pos 0 <ℤ z
positive_part s (pos zero) h = absurd (omega (arith, ints))
positive_part s (pos (suc n)) h = omega (arith, ints)
positive_part s (negsuc n) h = absurd (omega (arith, ints))

negative_part : (s : ℕ) (z : ℤ) → (pos s *ℤ z) <ℤ pos 0 → z <ℤ pos 0
negative_part s (pos n) h = absurd (omega (arith, ints))
negative_part s (negsuc n) h = omega (arith, ints)

-- a row gives the sign of the point's coefficient
row_below : (a b c z : ℤ) (w v : ℕ) → IsPlace v w → AllNegative (a ∷ b ∷ c ∷ []) → ((pos w +ℤ pos v) *ℤ (pos w +ℤ pos v)) *ℤ z ≡ value2 (a ∷ b ∷ c ∷ []) (pos v) (pos w) → z <ℤ pos 0
row_below a b c z w v place p e =
    negative_part ((w + v) * (w + v)) z (subst (λ x. x <ℤ pos 0) (sym e) (negative2 (a ∷ b ∷ c ∷ []) v w (omega arith) p place))

row_above : (a b c z : ℤ) (w v : ℕ) → IsPlace v w → AllPositive (a ∷ b ∷ c ∷ []) → ((pos w +ℤ pos v) *ℤ (pos w +ℤ pos v)) *ℤ z ≡ value2 (a ∷ b ∷ c ∷ []) (pos v) (pos w) → pos 0 <ℤ z
row_above a b c z w v place p e =
    positive_part ((w + v) * (w + v)) z (subst (λ x. pos 0 <ℤ x) (sym e) (positive2 (a ∷ b ∷ c ∷ []) v w (omega arith) p place))

ahead_below : (a b z : ℤ) (w v : ℕ) → IsPlace v w → AllNegative (a ∷ b ∷ []) → (pos w +ℤ pos v) *ℤ z ≡ pos w *ℤ a +ℤ pos v *ℤ b → z <ℤ pos 0
ahead_below a b z w v place p e =
    let whole : value1 (a ∷ b ∷ []) (pos v) (pos w) ≡ (pos w +ℤ pos v) *ℤ z = omega (arith, ints, e) in
    negative_part (w + v) z (subst (λ x. x <ℤ pos 0) whole (negative1 (a ∷ b ∷ []) v w (omega arith) p place))

five_negative : (c : List ℤ) → ((k : ℕ) → k < 5 → at c k <ℤ pos 0) → AllNegative (at c 0 ∷ at c 1 ∷ at c 2 ∷ at c 3 ∷ at c 4 ∷ [])
five_negative c h = all_five (λ z. z <ℤ pos 0) (at c 0) (at c 1) (at c 2) (at c 3) (at c 4) (h 0 (omega arith)) (h 1 (omega arith)) (h 2 (omega arith)) (h 3 (omega arith)) (h 4 (omega arith))

five_positive : (c : List ℤ) → ((k : ℕ) → k < 5 → pos 0 <ℤ at c k) → AllPositive (at c 0 ∷ at c 1 ∷ at c 2 ∷ at c 3 ∷ at c 4 ∷ [])
five_positive c h = all_five (λ z. pos 0 <ℤ z) (at c 0) (at c 1) (at c 2) (at c 3) (at c 4) (h 0 (omega arith)) (h 1 (omega arith)) (h 2 (omega arith)) (h 3 (omega arith)) (h 4 (omega arith))

-- the coefficients of a difference, and of n raised to degree 4
abbrev less_at : List ℤ → List ℤ → ℕ → ℤ
less_at a b k = at a k -ℤ at b k

-- the point's quantity of degree 4, less f n, at each place: its rows
pub record RowsOf (f : ℤ) (a b c x : List ℤ) (r : List ℤ) (w v : ℕ) : Type 0 where
  pub each : (k : ℕ) → k < 5 → ((pos w +ℤ pos v) *ℤ (pos w +ℤ pos v)) *ℤ (at x k -ℤ f *ℤ at r k)
      ≡ value2 ((at a k -ℤ f *ℤ at r k) ∷ (at b k -ℤ pos 2 *ℤ (f *ℤ at r k)) ∷ (at c k -ℤ f *ℤ at r k) ∷ []) (pos v) (pos w)

rows_below : (f : ℤ) (a b c x r : List ℤ) (w v : ℕ) → IsPlace v w → RowsOf f a b c x r w v → All AllNegative (grid_less r f a b c) → AllNegative (difference4 x (scaled4 f r))
rows_below f a b c x r w v place rows p =
    let each = λ (k : ℕ) (l : k < 5) (n : AllNegative ((at a k -ℤ f *ℤ at r k) ∷ (at b k -ℤ pos 2 *ℤ (f *ℤ at r k)) ∷ (at c k -ℤ f *ℤ at r k) ∷ [])).
    row_below (at a k -ℤ f *ℤ at r k) (at b k -ℤ pos 2 *ℤ (f *ℤ at r k)) (at c k -ℤ f *ℤ at r k) (at x k -ℤ f *ℤ at r k) w v place n (rows.each k l) in
    all_five (λ z. z <ℤ pos 0) (at x 0 -ℤ f *ℤ at r 0) (at x 1 -ℤ f *ℤ at r 1) (at x 2 -ℤ f *ℤ at r 2) (at x 3 -ℤ f *ℤ at r 3) (at x 4 -ℤ f *ℤ at r 4)
    (each 0 (omega arith) (p 0 [] (omega arith))) (each 1 (omega arith) (p 1 [] (omega arith))) (each 2 (omega arith) (p 2 [] (omega arith))) (each 3 (omega arith) (p 3 [] (omega arith))) (each 4 (omega arith) (p 4 [] (omega arith)))

rows_above : (f : ℤ) (a b c x r : List ℤ) (w v : ℕ) → IsPlace v w → RowsOf f a b c x r w v → All AllPositive (grid_less r f a b c) → AllPositive (difference4 x (scaled4 f r))
rows_above f a b c x r w v place rows p =
    let each = λ (k : ℕ) (l : k < 5) (n : AllPositive ((at a k -ℤ f *ℤ at r k) ∷ (at b k -ℤ pos 2 *ℤ (f *ℤ at r k)) ∷ (at c k -ℤ f *ℤ at r k) ∷ [])).
    row_above (at a k -ℤ f *ℤ at r k) (at b k -ℤ pos 2 *ℤ (f *ℤ at r k)) (at c k -ℤ f *ℤ at r k) (at x k -ℤ f *ℤ at r k) w v place n (rows.each k l) in
    all_five (λ z. pos 0 <ℤ z) (at x 0 -ℤ f *ℤ at r 0) (at x 1 -ℤ f *ℤ at r 1) (at x 2 -ℤ f *ℤ at r 2) (at x 3 -ℤ f *ℤ at r 3) (at x 4 -ℤ f *ℤ at r 4)
    (each 0 (omega arith) (p 0 [] (omega arith))) (each 1 (omega arith) (p 1 [] (omega arith))) (each 2 (omega arith) (p 2 [] (omega arith))) (each 3 (omega arith) (p 3 [] (omega arith))) (each 4 (omega arith) (p 4 [] (omega arith)))

height_row : (f : ℤ) (u u' r n : List ℤ) (w v : ℕ) → scaled2 (pos w +ℤ pos v) r ≡ mixed u u' (pos w) (pos v) → (k : ℕ) → k < 5
    → ((pos w +ℤ pos v) *ℤ (pos w +ℤ pos v)) *ℤ (at (product22 r r) k -ℤ f *ℤ at (lifted n) k)
    ≡ value2 ((at (product22 u u) k -ℤ f *ℤ at (lifted n) k) ∷ (at (height_column (pos 2) u u') k -ℤ pos 2 *ℤ (f *ℤ at (lifted n) k)) ∷ (at (product22 u' u') k -ℤ f *ℤ at (lifted n) k) ∷ []) (pos v) (pos w)
height_row f u u' r n w v e zero l = row_height (pos w) (pos v) (at (product22 u u) 0) (at (product22 u u') 0) (at (product22 u' u') 0) (f *ℤ at (lifted n) 0) (at (product22 r r) 0) (squares_along (pos w) (pos v) u u' r 0 l e)
height_row f u u' r n w v e (suc zero) l = row_height (pos w) (pos v) (at (product22 u u) 1) (at (product22 u u') 1) (at (product22 u' u') 1) (f *ℤ at (lifted n) 1) (at (product22 r r) 1) (squares_along (pos w) (pos v) u u' r 1 l e)
height_row f u u' r n w v e (suc (suc zero)) l = row_height (pos w) (pos v) (at (product22 u u) 2) (at (product22 u u') 2) (at (product22 u' u') 2) (f *ℤ at (lifted n) 2) (at (product22 r r) 2) (squares_along (pos w) (pos v) u u' r 2 l e)
height_row f u u' r n w v e (suc (suc (suc zero))) l = row_height (pos w) (pos v) (at (product22 u u) 3) (at (product22 u u') 3) (at (product22 u' u') 3) (f *ℤ at (lifted n) 3) (at (product22 r r) 3) (squares_along (pos w) (pos v) u u' r 3 l e)
height_row f u u' r n w v e (suc (suc (suc (suc zero)))) l = row_height (pos w) (pos v) (at (product22 u u) 4) (at (product22 u u') 4) (at (product22 u' u') 4) (f *ℤ at (lifted n) 4) (at (product22 r r) 4) (squares_along (pos w) (pos v) u u' r 4 l e)
height_row f u u' r n w v e (suc (suc (suc (suc (suc k))))) l = absurd (omega arith)

height_rows : (f : ℤ) (u u' r n : List ℤ) (w v : ℕ) → scaled2 (pos w +ℤ pos v) r ≡ mixed u u' (pos w) (pos v) → RowsOf f (product22 u u) (height_column (pos 2) u u') (product22 u' u') (product22 r r) (lifted n) w v
height_rows f u u' r n w v e = record { each = height_row f u u' r n w v e }

width_row : (f : ℤ) (u u' r n d e g q : List ℤ) (w v : ℕ) → scaled2 (pos w +ℤ pos v) r ≡ mixed u u' (pos w) (pos v) → scaled2 ((pos w +ℤ pos v) *ℤ (pos w +ℤ pos v)) q ≡ blended (pos w) (pos v) d e g → (k : ℕ) → k < 5
    → ((pos w +ℤ pos v) *ℤ (pos w +ℤ pos v)) *ℤ (at (width_column (pos 4) q n r r) k -ℤ f *ℤ at (lifted n) k)
    ≡ value2 ((at (width_column (pos 4) d n u u) k -ℤ f *ℤ at (lifted n) k) ∷ (at (width_column (pos 8) e n u u') k -ℤ pos 2 *ℤ (f *ℤ at (lifted n) k)) ∷ (at (width_column (pos 4) g n u' u') k -ℤ f *ℤ at (lifted n) k) ∷ []) (pos v) (pos w)
width_row f u u' r n d e g q w v eu ed zero l =
    row_width (pos w) (pos v) (at (product22 d n) 0) (at (product22 e n) 0) (at (product22 g n) 0) (at (product22 u u) 0) (at (product22 u u') 0) (at (product22 u' u') 0) (f *ℤ at (lifted n) 0) (at (product22 q n) 0) (at (product22 r r) 0)
    (both_along (pos w) (pos v) d e g q n 0 l ed) (squares_along (pos w) (pos v) u u' r 0 l eu)
width_row f u u' r n d e g q w v eu ed (suc zero) l =
    row_width (pos w) (pos v) (at (product22 d n) 1) (at (product22 e n) 1) (at (product22 g n) 1) (at (product22 u u) 1) (at (product22 u u') 1) (at (product22 u' u') 1) (f *ℤ at (lifted n) 1) (at (product22 q n) 1) (at (product22 r r) 1)
    (both_along (pos w) (pos v) d e g q n 1 l ed) (squares_along (pos w) (pos v) u u' r 1 l eu)
width_row f u u' r n d e g q w v eu ed (suc (suc zero)) l =
    row_width (pos w) (pos v) (at (product22 d n) 2) (at (product22 e n) 2) (at (product22 g n) 2) (at (product22 u u) 2) (at (product22 u u') 2) (at (product22 u' u') 2) (f *ℤ at (lifted n) 2) (at (product22 q n) 2) (at (product22 r r) 2)
    (both_along (pos w) (pos v) d e g q n 2 l ed) (squares_along (pos w) (pos v) u u' r 2 l eu)
width_row f u u' r n d e g q w v eu ed (suc (suc (suc zero))) l =
    row_width (pos w) (pos v) (at (product22 d n) 3) (at (product22 e n) 3) (at (product22 g n) 3) (at (product22 u u) 3) (at (product22 u u') 3) (at (product22 u' u') 3) (f *ℤ at (lifted n) 3) (at (product22 q n) 3) (at (product22 r r) 3)
    (both_along (pos w) (pos v) d e g q n 3 l ed) (squares_along (pos w) (pos v) u u' r 3 l eu)
width_row f u u' r n d e g q w v eu ed (suc (suc (suc (suc zero)))) l =
    row_width (pos w) (pos v) (at (product22 d n) 4) (at (product22 e n) 4) (at (product22 g n) 4) (at (product22 u u) 4) (at (product22 u u') 4) (at (product22 u' u') 4) (f *ℤ at (lifted n) 4) (at (product22 q n) 4) (at (product22 r r) 4)
    (both_along (pos w) (pos v) d e g q n 4 l ed) (squares_along (pos w) (pos v) u u' r 4 l eu)
width_row f u u' r n d e g q w v eu ed (suc (suc (suc (suc (suc k))))) l = absurd (omega arith)

width_rows : (f : ℤ) (u u' r n d e g q : List ℤ) (w v : ℕ) → scaled2 (pos w +ℤ pos v) r ≡ mixed u u' (pos w) (pos v) → scaled2 ((pos w +ℤ pos v) *ℤ (pos w +ℤ pos v)) q ≡ blended (pos w) (pos v) d e g
    → RowsOf f (width_column (pos 4) d n u u) (width_column (pos 8) e n u u') (width_column (pos 4) g n u' u') (width_column (pos 4) q n r r) (lifted n) w v
width_rows f u u' r n d e g q w v eu ed = record { each = width_row f u u' r n d e g q w v eu ed }

ahead_at : (u u' r : List ℤ) (w v : ℕ) → scaled2 (pos w +ℤ pos v) r ≡ mixed u u' (pos w) (pos v) → (k : ℕ) → k < 3 → (pos w +ℤ pos v) *ℤ at r k ≡ pos w *ℤ at u k +ℤ pos v *ℤ at u' k
ahead_at u u' r w v e zero l = ap (λ x. at x 0) e
ahead_at u u' r w v e (suc zero) l = ap (λ x. at x 1) e
ahead_at u u' r w v e (suc (suc zero)) l = ap (λ x. at x 2) e
ahead_at u u' r w v e (suc (suc (suc k))) l = absurd (omega arith)

-- the slab is excluded for the point
across_between : (s : SlabSize) (m : SweepOf) (p q r : List ℤ) (w v j k S : ℕ) → IsAlong p q r w v → is_excluded_in_box m p q j k S s ≡ true → ExcludedBetween s m r j k S
across_between s m p q r w v j k S along test =
    let u = u_between m p j k S in let u' = u_between m q j k S in let n = n_between m j k S in let d = d_between m p j k S in let e = product_between m p q j k S in let g = d_between m q j k S in
    let x = u_between m r j k S in let y = d_between m r j k S in
    let lo = scaled_square S s.lo in let hi = scaled_square S s.hi in let dia = scaled_square S s.dia in
    let eu : scaled2 (pos w +ℤ pos v) x ≡ mixed u u' (pos w) (pos v) = u_mixed m p q r w v j k S along in
    let ed : scaled2 ((pos w +ℤ pos v) *ℤ (pos w +ℤ pos v)) y ≡ blended (pos w) (pos v) d e g = d_mixed m p q r w v j k S along in
    let place = along.place in
    ⊎_elim
    (λ c. inl (all_three (λ z. z <ℤ pos 0) (at x 0) (at x 1) (at x 2)
    (ahead_below (at u 0) (at u' 0) (at x 0) w v place (c 0 [] (omega arith)) (ahead_at u u' x w v eu 0 (omega arith)))
    (ahead_below (at u 1) (at u' 1) (at x 1) w v place (c 1 [] (omega arith)) (ahead_at u u' x w v eu 1 (omega arith)))
    (ahead_below (at u 2) (at u' 2) (at x 2) w v place (c 2 [] (omega arith)) (ahead_at u u' x w v eu 2 (omega arith)))))
    (λ c. ⊎_elim
    (λ c. inr (inl (subst (λ l. AllNegative (difference4 (product22 x x) l)) (raised_is lo n)
    (rows_below lo (product22 u u) (height_column (pos 2) u u') (product22 u' u') (product22 x x) (lifted n) w v place (height_rows lo u u' x n w v eu) c))))
    (λ c. ⊎_elim
    (λ c. inr (inr (inl (subst (λ l. AllPositive (difference4 (product22 x x) l)) (raised_is hi n)
    (rows_above hi (product22 u u) (height_column (pos 2) u u') (product22 u' u') (product22 x x) (lifted n) w v place (height_rows hi u u' x n w v eu) c)))))
    (λ c. inr (inr (inr (subst (λ l. AllPositive (difference4 (width_column (pos 4) y n x x) l)) (raised_is dia n)
    (rows_above dia (width_column (pos 4) d n u u) (width_column (pos 8) e n u u') (width_column (pos 4) g n u' u') (width_column (pos 4) y n x x) (lifted n) w v place (width_rows dia u u' x n d e g y w v eu ed) c)))))
    c)
    c)
    ((decides_across s S u u' n d e g).0 test)

-- tests of lists
neither_first : (p q : Bool) → (p || q) ≡ false → p ≡ false
neither_first true q h = cc
neither_first false q h = refl

neither_last : (p q : Bool) → (p || q) ≡ false → q ≡ false
neither_last true q h = cc
neither_last false q h = h

neither : (p q : Bool) → p ≡ false → q ≡ false → (p || q) ≡ false
neither true q h k = cc
neither false q h k = k

double : (b : Bool) → not b ≡ false → b ≡ true
double true h = refl
double false h = cc

denied : (b : Bool) → b ≡ true → not b ≡ false
denied true h = refl
denied false h = cc

-- where no slab is left on a box none is left for its points
pub none_left : (slabs : List SlabSize) (m : SweepOf) (p q r : List ℤ) (w v j k S : ℕ) → IsAlong p q r w v → list_any (λ s. not (is_excluded_in_box m p q j k S s)) slabs ≡ false → is_unexcluded_between slabs m r j k S ≡ false
none_left [] m p q r w v j k S along h = refl
none_left (s ∷ slabs) m p q r w v j k S along h =
    let later : Bool = list_any (λ s. not (is_excluded_in_box m p q j k S s)) slabs in
    let here = double (is_excluded_in_box m p q j k S s) (neither_first (not (is_excluded_in_box m p q j k S s)) later h) in
    neither (not (is_excluded_between s m r j k S)) (is_unexcluded_between slabs m r j k S)
    (denied (is_excluded_between s m r j k S) ((decides_with s S (u_between m r j k S) (n_between m j k S) (d_between m r j k S)).1 (across_between s m p q r w v j k S along here)))
    (none_left slabs m p q r w v j k S along (neither_last (not (is_excluded_in_box m p q j k S s)) later h))

-- a box of one point: each row has the point's coefficient, twice itself in the middle
pair_of : (P : ℤ → Type 0) (a b : ℤ) → P a → P b → All P (a ∷ b ∷ [])
pair_of P a b h0 h1 zero d l = h0
pair_of P a b h0 h1 (suc zero) d l = h1
pair_of P a b h0 h1 (suc (suc k)) d l = absurd (omega arith)

rows_of_three : (P : List ℤ → Type 0) (a b c : List ℤ) → P a → P b → P c → All P (a ∷ b ∷ c ∷ [])
rows_of_three P a b c h0 h1 h2 zero d l = h0
rows_of_three P a b c h0 h1 h2 (suc zero) d l = h1
rows_of_three P a b c h0 h1 h2 (suc (suc zero)) d l = h2
rows_of_three P a b c h0 h1 h2 (suc (suc (suc k))) d l = absurd (omega arith)

rows_of_five : (P : List ℤ → Type 0) (a b c e f : List ℤ) → P a → P b → P c → P e → P f → All P (a ∷ b ∷ c ∷ e ∷ f ∷ [])
rows_of_five P a b c e f h0 h1 h2 h3 h4 zero d l = h0
rows_of_five P a b c e f h0 h1 h2 h3 h4 (suc zero) d l = h1
rows_of_five P a b c e f h0 h1 h2 h3 h4 (suc (suc zero)) d l = h2
rows_of_five P a b c e f h0 h1 h2 h3 h4 (suc (suc (suc zero))) d l = h3
rows_of_five P a b c e f h0 h1 h2 h3 h4 (suc (suc (suc (suc zero)))) d l = h4
rows_of_five P a b c e f h0 h1 h2 h3 h4 (suc (suc (suc (suc (suc k))))) d l = absurd (omega arith)

alone_below : (x y f : ℤ) → y ≡ pos 2 *ℤ x → (x -ℤ f) <ℤ pos 0 → AllNegative ((x -ℤ f) ∷ (y -ℤ pos 2 *ℤ f) ∷ (x -ℤ f) ∷ [])
alone_below x y f e h = all_three (λ z. z <ℤ pos 0) (x -ℤ f) (y -ℤ pos 2 *ℤ f) (x -ℤ f) h (omega (arith, ints, e, h)) h

alone_above : (x y f : ℤ) → y ≡ pos 2 *ℤ x → pos 0 <ℤ (x -ℤ f) → AllPositive ((x -ℤ f) ∷ (y -ℤ pos 2 *ℤ f) ∷ (x -ℤ f) ∷ [])
alone_above x y f e h = all_three (λ z. pos 0 <ℤ z) (x -ℤ f) (y -ℤ pos 2 *ℤ f) (x -ℤ f) h (omega (arith, ints, e, h)) h

grid_below : (r : List ℤ) (f : ℤ) (x y : List ℤ) → ((k : ℕ) → k < 5 → at y k ≡ pos 2 *ℤ at x k) → AllNegative (difference4 x (scaled4 f r)) → All AllNegative (grid_less r f x y x)
grid_below r f x y e p =
    rows_of_five AllNegative _ _ _ _ _
    (alone_below (at x 0) (at y 0) (f *ℤ at r 0) (e 0 (omega arith)) (p 0 (pos 0) (omega arith))) (alone_below (at x 1) (at y 1) (f *ℤ at r 1) (e 1 (omega arith)) (p 1 (pos 0) (omega arith)))
    (alone_below (at x 2) (at y 2) (f *ℤ at r 2) (e 2 (omega arith)) (p 2 (pos 0) (omega arith))) (alone_below (at x 3) (at y 3) (f *ℤ at r 3) (e 3 (omega arith)) (p 3 (pos 0) (omega arith)))
    (alone_below (at x 4) (at y 4) (f *ℤ at r 4) (e 4 (omega arith)) (p 4 (pos 0) (omega arith)))

grid_above : (r : List ℤ) (f : ℤ) (x y : List ℤ) → ((k : ℕ) → k < 5 → at y k ≡ pos 2 *ℤ at x k) → AllPositive (difference4 x (scaled4 f r)) → All AllPositive (grid_less r f x y x)
grid_above r f x y e p =
    rows_of_five AllPositive _ _ _ _ _
    (alone_above (at x 0) (at y 0) (f *ℤ at r 0) (e 0 (omega arith)) (p 0 (pos 0) (omega arith))) (alone_above (at x 1) (at y 1) (f *ℤ at r 1) (e 1 (omega arith)) (p 1 (pos 0) (omega arith)))
    (alone_above (at x 2) (at y 2) (f *ℤ at r 2) (e 2 (omega arith)) (p 2 (pos 0) (omega arith))) (alone_above (at x 3) (at y 3) (f *ℤ at r 3) (e 3 (omega arith)) (p 3 (pos 0) (omega arith)))
    (alone_above (at x 4) (at y 4) (f *ℤ at r 4) (e 4 (omega arith)) (p 4 (pos 0) (omega arith)))

twice_at : (x : List ℤ) (k : ℕ) → k < 5 → at (scaled4 (pos 2) x) k ≡ pos 2 *ℤ at x k
twice_at x zero l = refl
twice_at x (suc zero) l = refl
twice_at x (suc (suc zero)) l = refl
twice_at x (suc (suc (suc zero))) l = refl
twice_at x (suc (suc (suc (suc zero)))) l = refl
twice_at x (suc (suc (suc (suc (suc k))))) l = absurd (omega arith)

eightfold : (z : ℤ) → pos 8 *ℤ z ≡ pos 2 *ℤ (pos 4 *ℤ z)
eightfold z = omega (arith, ints)

eight_at : (x : List ℤ) (k : ℕ) → k < 5 → at (scaled4 (pos 8) x) k ≡ pos 2 *ℤ at (scaled4 (pos 4) x) k
eight_at x zero l = eightfold (at x 0)
eight_at x (suc zero) l = eightfold (at x 1)
eight_at x (suc (suc zero)) l = eightfold (at x 2)
eight_at x (suc (suc (suc zero))) l = eightfold (at x 3)
eight_at x (suc (suc (suc (suc zero)))) l = eightfold (at x 4)
eight_at x (suc (suc (suc (suc (suc k))))) l = absurd (omega arith)

below_at : (u : List ℤ) (k : ℕ) → AllNegative u → k < length u → at u k <ℤ pos 0
below_at u k c l = c k (pos 0) l

across_alone : (s : SlabSize) (S : ℕ) (u n d : List ℤ) → 3 ≤ length u → ExcludedWith s S u n d → ExcludedAcross s S u u n d d d
across_alone s S u n d long x =
    let lo = scaled_square S s.lo in let hi = scaled_square S s.hi in let dia = scaled_square S s.dia in
    let U = product22 u u in let W = difference4 (product22 d n) U in
    ⊎_elim
    (λ c. inl (rows_of_three AllNegative _ _ _
    (pair_of (λ z. z <ℤ pos 0) (at u 0) (at u 0) (below_at u 0 c (omega arith)) (below_at u 0 c (omega arith))) (pair_of (λ z. z <ℤ pos 0) (at u 1) (at u 1) (below_at u 1 c (omega arith)) (below_at u 1 c (omega arith))) (pair_of (λ z. z <ℤ pos 0) (at u 2) (at u 2) (below_at u 2 c (omega arith)) (below_at u 2 c (omega arith)))))
    (λ y. ⊎_elim (λ c. inr (inl (grid_below (lifted n) lo U (scaled4 (pos 2) U) (twice_at U) (subst (λ l. AllNegative (difference4 U l)) (sym (raised_is lo n)) c))))
    (λ z. ⊎_elim (λ c. inr (inr (inl (grid_above (lifted n) hi U (scaled4 (pos 2) U) (twice_at U) (subst (λ l. AllPositive (difference4 U l)) (sym (raised_is hi n)) c)))))
    (λ c. inr (inr (inr (grid_above (lifted n) dia (scaled4 (pos 4) W) (scaled4 (pos 8) W) (eight_at W) (subst (λ l. AllPositive (difference4 (scaled4 (pos 4) W) l)) (sym (raised_is dia n)) c))))) z) y) x

-- where no slab is left for a point none is left on the box that has no other point
pub none_left_alone : (slabs : List SlabSize) (m : SweepOf) (p : List ℤ) (j k S : ℕ) → is_unexcluded_between slabs m p j k S ≡ false → list_any (λ s. not (is_excluded_in_box m p p j k S s)) slabs ≡ false
none_left_alone [] m p j k S h = refl
none_left_alone (s ∷ slabs) m p j k S h =
    let u = u_between m p j k S in let n = n_between m j k S in let d = d_between m p j k S in
    let here = double (is_excluded_between s m p j k S) (neither_first (not (is_excluded_between s m p j k S)) (is_unexcluded_between slabs m p j k S) h) in
    neither (not (is_excluded_in_box m p p j k S s)) (list_any (λ s. not (is_excluded_in_box m p p j k S s)) slabs)
    (denied (is_excluded_in_box m p p j k S s) ((decides_across s S u u n d d d).1 (across_alone s S u n d (omega arith) ((decides_with s S u n d).0 here))))
    (none_left_alone slabs m p j k S (neither_last (not (is_excluded_between s m p j k S)) (is_unexcluded_between slabs m p j k S) h))
