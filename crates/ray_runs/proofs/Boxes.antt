-- What is apart is excluded on the box of the stretch and the points, for every slab that is no wider.
use Rattle.std.proofs.Common.{◌≡◌, Bool, true, false, not, ℕ, zero, suc, ◌+◌, ◌-◌, ◌^◌, ◌<◌, [], ◌∷◌, List, get_or, ℤ, pos, ◌+ℤ◌, ◌*ℤ◌, ◌-ℤ◌, ◌≤ℤ◌, ◌<ℤ◌, inl, inr, arith, refl, subst, sym, ⊎_elim}
use Rattle.std.specs.List.{All, list_any}
use Rattle.std.proofs.lemmas.Int.{ints}
use Rattle.std.proofs.lemmas.List.Folds.{list_any_none}
use Rattle.space.specs.Sweeps.{SweepOf, axis_at, offset_at}
use Rattle.space.specs.Vectors.{at, dot}
use Rattle.space.proofs.Solver.{var, mul, ring}
use Rattle.space.proofs.Terms.{sub, from}
use Rattle.bern_form.specs.Between.{d_between, is_unexcluded_between, n_between, u_between}
use Rattle.bern_form.specs.Cells.{dot_on_cell, scaled_square}
use Rattle.bern_form.specs.Forms.{lifted}
use Rattle.bern_form.specs.Grids.{columns21}
use Rattle.bern_form.specs.Marks.{some_holds}
use Rattle.bern_form.specs.Slab.{SlabSize}
use Rattle.bern_form.proofs.HalfSigns.{all_three}
use Rattle.bern_form.proofs.Relations.{AllNegative, AllPositive}
use Rattle.box_bisect.specs.Between.{IsOutWithin}
use Rattle.ray_boxes.specs.Boxes.{grid_less, is_excluded_across, is_excluded_in_box, width_column}
use Rattle.box_bisect.specs.RayBoxes.{is_undecided}
use Rattle.box_bisect.specs.Stretches.{AreFormsBetween}
use Rattle.ray_boxes.proofs.Excluded.{decides_across}
use Rattle.ray_boxes.proofs.Lines.{IsLine}
use Rattle.box_bisect.proofs.RayLines.{decided_at}
use Rattle.box_bisect.proofs.Searching.{dropped}
use Rattle.ray_runs.specs.Missed.{AreAbove, AreBeside, AreMissed, AreOutBeside, IsBehind, IsNoWider}
use Rattle.moment_forms.specs.Moments.{moment_product}
use Rattle.ray_runs.proofs.Convex.{product_natural, squares_rise}
use Rattle.moment_forms.proofs.Fives.{each_of_five}
use Rattle.moment_forms.proofs.Lagrange.{lagrange_at, less_squares}
use Rattle.moment_forms.proofs.Middle.{middle_is}

-- rows
pair_of : (P : ℤ → Type 0) (a b : ℤ) → P a → P b → All P (a ∷ b ∷ [])
pair_of P a b h0 h1 zero d l = h0
pair_of P a b h0 h1 (suc zero) d l = h1
pair_of P a b h0 h1 (suc (suc k)) d l = absurd (omega arith)

rows_of_three : (P : List ℤ → Type 0) (a b c : List ℤ) → P a → P b → P c → All P (a ∷ b ∷ c ∷ [])
rows_of_three P a b c h0 h1 h2 zero d l = h0
rows_of_three P a b c h0 h1 h2 (suc zero) d l = h1
rows_of_three P a b c h0 h1 h2 (suc (suc zero)) d l = h2
rows_of_three P a b c h0 h1 h2 (suc (suc (suc k))) d l = absurd (omega arith)

rows_of_five : (P : List ℤ → Type 0) (a b c e f : List ℤ) → P a → P b → P c → P e → P f → All P (a ∷ b ∷ c ∷ e ∷ f ∷ [])
rows_of_five P a b c e f h0 h1 h2 h3 h4 k d l = each_of_five (λ i. P (get_or (a ∷ b ∷ c ∷ e ∷ f ∷ []) i d)) h0 h1 h2 h3 h4 k l

-- a lesser length has a lesser limit
times_rise : (f x y : ℤ) → pos 0 ≤ℤ f → x ≤ℤ y → (f *ℤ x) ≤ℤ (f *ℤ y)
times_rise f x y h k =
    let more = product_natural f (y -ℤ x) h (omega (arith, ints, k)) in
    let e : f *ℤ (y -ℤ x) ≡ f *ℤ y -ℤ f *ℤ x = ring (f ∷ x ∷ y ∷ []) (mul (var 0) (sub (var 2) (var 1))) (sub (mul (var 0) (var 2)) (mul (var 0) (var 1))) refl in
    let left = subst (λ z. pos 0 ≤ℤ z) e more in omega (arith, ints, left)

square_rises : (S : ℕ) (x y : ℤ) → pos 0 ≤ℤ x → x ≤ℤ y → scaled_square S x ≤ℤ scaled_square S y
square_rises S x y h k =
    squares_rise (pos S *ℤ x) (pos S *ℤ y) (product_natural (pos S) x (omega (arith, ints)) h) (times_rise (pos S) x y (omega (arith, ints)) k)

limit_rises : (f g r : ℤ) → f ≤ℤ g → pos 0 ≤ℤ r → (f *ℤ r) ≤ℤ (g *ℤ r)
limit_rises f g r h k =
    let swap = λ (x : ℤ). ring (x ∷ r ∷ []) (mul (var 1) (var 0)) (mul (var 0) (var 1)) refl in
    subst (λ z. z ≤ℤ (g *ℤ r)) (swap f) (subst (λ z. (r *ℤ f) ≤ℤ z) (swap g) (times_rise r f g k h))

once_above : (X x fr gr : ℤ) → X ≡ x → fr ≤ℤ gr → gr <ℤ (pos 4 *ℤ x) → pos 0 <ℤ (pos 4 *ℤ X -ℤ fr)
once_above X x fr gr e h k = omega (arith, ints, e, h, k)

twice_above : (X x fr gr : ℤ) → X ≡ x → fr ≤ℤ gr → gr <ℤ (pos 4 *ℤ x) → pos 0 <ℤ (pos 8 *ℤ X -ℤ pos 2 *ℤ fr)
twice_above X x fr gr e h k = omega (arith, ints, e, h, k)

row_above : (f g r X Y Z x y z : ℤ) → f ≤ℤ g → X ≡ x → Y ≡ y → Z ≡ z → AreAbove g r x y z
    → AllPositive ((pos 4 *ℤ X -ℤ f *ℤ r) ∷ (pos 8 *ℤ Y -ℤ pos 2 *ℤ (f *ℤ r)) ∷ (pos 4 *ℤ Z -ℤ f *ℤ r) ∷ [])
row_above f g r X Y Z x y z h ex ey ez above =
    let rise = limit_rises f g r h above.not_below in
    all_three (λ z. pos 0 <ℤ z) (pos 4 *ℤ X -ℤ f *ℤ r) (pos 8 *ℤ Y -ℤ pos 2 *ℤ (f *ℤ r)) (pos 4 *ℤ Z -ℤ f *ℤ r)
    (once_above X x (f *ℤ r) (g *ℤ r) ex rise above.first) (twice_above Y y (f *ℤ r) (g *ℤ r) ey rise above.between) (once_above Z z (f *ℤ r) (g *ℤ r) ez rise above.last)

-- beside the greatest diameter, so beside each
abbrev width_rows : ℤ → List ℤ → List ℤ → List ℤ → List ℤ → List ℤ → List ℤ → List (List ℤ)
width_rows f p p' q q' a c =
    let n = dot_on_cell a c a c in let u = dot_on_cell p p' a c in let v = dot_on_cell q q' a c in
    grid_less (lifted n) f (width_column (pos 4) (dot_on_cell p p' p p') n u u) (width_column (pos 8) (dot_on_cell p p' q q') n u v) (width_column (pos 4) (dot_on_cell q q' q q') n v v)

rows_beside : (f g : ℤ) (p p' q q' a c : List ℤ) → f ≤ℤ g → AreBeside g p p' q q' a c → All AllPositive (width_rows f p p' q q' a c)
rows_beside f g p p' q q' a c h beside =
    let row = λ (k : ℕ) (l : k < 5). row_above f g (at (lifted (dot_on_cell a c a c)) k)
    (at (less_squares p p' p p' a c) k) (at (less_squares p p' q q' a c) k) (at (less_squares q q' q q' a c) k)
    (at (moment_product p p' p p' a c) k) (at (moment_product p p' q q' a c) k) (at (moment_product q q' q q' a c) k) h
    (lagrange_at p p' p p' a c k l) (lagrange_at p p' q q' a c k l) (lagrange_at q q' q q' a c k l) (beside k l) in
    rows_of_five AllPositive _ _ _ _ _ (row 0 (omega arith)) (row 1 (omega arith)) (row 2 (omega arith)) (row 3 (omega arith)) (row 4 (omega arith))

rows_behind : (p p' q q' a c : List ℤ) → IsBehind p p' a c → IsBehind q q' a c → All AllNegative (columns21 (dot_on_cell p p' a c) (dot_on_cell q q' a c))
rows_behind p p' q q' a c x y =
    let P = λ (z : ℤ). z <ℤ pos 0 in
    rows_of_three AllNegative _ _ _ (pair_of P (dot p a) (dot q a) x.0 y.0)
    (pair_of P (at (dot_on_cell p p' a c) 1) (at (dot_on_cell q q' a c) 1) (subst P (sym (middle_is p p' a c)) x.1) (subst P (sym (middle_is q q' a c)) y.1))
    (pair_of P (dot p' c) (dot q' c) x.2 y.2)

-- as tests
denied : (b : Bool) → b ≡ true → not b ≡ false
denied true h = refl
denied false h = cc

excluded_apart : (S : ℕ) (f most : ℤ) (p p' q q' a c : List ℤ) (s : SlabSize) → f ≡ scaled_square S most → IsNoWider most s → AreMissed f p p' q q' a c
    → is_excluded_across S (dot_on_cell p p' a c) (dot_on_cell q q' a c) (dot_on_cell a c a c) (dot_on_cell p p' p p') (dot_on_cell p p' q q') (dot_on_cell q q' q q') s ≡ true
excluded_apart S f most p p' q q' a c s e narrow apart =
    let decides = decides_across s S (dot_on_cell p p' a c) (dot_on_cell q q' a c) (dot_on_cell a c a c) (dot_on_cell p p' p p') (dot_on_cell p p' q q') (dot_on_cell q q' q q') in
    ⊎_elim
    (λ behind. decides.1 (inl (rows_behind p p' q q' a c behind.0 behind.1)))
    (λ beside.
    let rise : scaled_square S s.dia ≤ℤ f = subst (λ z. scaled_square S s.dia ≤ℤ z) (sym e) (square_rises S s.dia most narrow.thick narrow.narrow) in
    decides.1 (inr (inr (inr (rows_beside (scaled_square S s.dia) f p p' q q' a c rise beside)))))
    apart

-- so none is left for the points between
none_undecided : (m : SweepOf) (point : ℕ → List ℤ) (S from to j k : ℕ) (f most : ℤ) (slabs : List SlabSize) → f ≡ scaled_square S most → All (IsNoWider most) slabs
    → AreMissed f (offset_at m (point from) (pos j) (pos S)) (offset_at m (point from) (pos k) (pos S)) (offset_at m (point to) (pos j) (pos S)) (offset_at m (point to) (pos k) (pos S)) (axis_at m (pos j) (pos S)) (axis_at m (pos k) (pos S))
    → list_any (λ s. not (is_excluded_in_box m (point from) (point to) j k S s)) slabs ≡ false
none_undecided m point S from to j k f most slabs e narrow apart =
    let at_j = λ (p : List ℤ). offset_at m p (pos j) (pos S) in let at_k = λ (p : List ℤ). offset_at m p (pos k) (pos S) in
    let excluded = λ (s : SlabSize) (h : IsNoWider most s). excluded_apart S f most (at_j (point from)) (at_k (point from)) (at_j (point to)) (at_k (point to)) (axis_at m (pos j) (pos S)) (axis_at m (pos k) (pos S)) s e h apart in
    list_any_none (λ s. not (is_excluded_in_box m (point from) (point to) j k S s)) slabs
    (λ i d l. denied (is_excluded_in_box m (point from) (point to) j k S (get_or slabs i d)) (excluded (get_or slabs i d) (narrow i d l)))

holds_none : (m : SweepOf) (p : List ℤ) (i S : ℕ) (slabs : List SlabSize) → some_holds [] m p i S ≡ true → some_holds slabs m p i S ≡ true
holds_none m p i S slabs h = cc

out_between : (m : SweepOf) (p : List ℤ) (S levels j : ℕ) (slabs : List SlabSize) → 0 < S → is_unexcluded_between slabs m p j (j + 2 ^ levels) S ≡ false → IsOutWithin slabs m p j (j + 2 ^ levels) S
out_between m p S levels j slabs some left =
    let k = j + 2 ^ levels in
    let forms : AreFormsBetween (u_between m p j k S) (n_between m j k S) (d_between m p j k S) m p j k S = record { u_is = refl; n_is = refl; d_is = refl } in
    (dropped [] slabs (u_between m p j k S) (n_between m j k S) (d_between m p j k S) m p S levels j some forms (λ i h. holds_none m p i S slabs h) left).1

pub apart_at : (m : SweepOf) (point : ℕ → List ℤ) (S from to j levels : ℕ) (f : ℤ) → IsLine point → 0 < S
    → (let k = j + 2 ^ levels in AreMissed f (offset_at m (point from) (pos j) (pos S)) (offset_at m (point from) (pos k) (pos S)) (offset_at m (point to) (pos j) (pos S)) (offset_at m (point to) (pos k) (pos S)) (axis_at m (pos j) (pos S)) (axis_at m (pos k) (pos S)))
    → AreOutBeside f m point S from to j (j + 2 ^ levels)
apart_at m point S from to j levels f line some apart slabs most e narrow l after before =
    let k = j + 2 ^ levels in
    let none = none_undecided m point S from to j k f most slabs e narrow apart in
    let last : (to + 1) - 1 ≡ to = omega arith in
    let undecided : is_undecided slabs m point S levels j from (to + 1) ≡ false =
    subst (λ i. list_any (λ s. not (is_excluded_in_box m (point from) (point i) j k S s)) slabs ≡ false) (sym last) none in
    out_between m (point l) S levels j slabs some (decided_at slabs m point S levels j from (to + 1) l line after (omega (arith, before)) undecided)

pub apart_same : (f : ℤ) (p p' q q' a c P P' Q Q' A C : List ℤ) → p ≡ P → p' ≡ P' → q ≡ Q → q' ≡ Q' → a ≡ A → c ≡ C → AreMissed f p p' q q' a c → AreMissed f P P' Q Q' A C
apart_same f p p' q q' a c P P' Q Q' A C e1 e2 e3 e4 e5 e6 h =
    subst (λ z. AreMissed f P P' Q Q' A z) e6 (subst (λ z. AreMissed f P P' Q Q' z c) e5
    (subst (λ z. AreMissed f P P' Q z a c) e4 (subst (λ z. AreMissed f P P' z q' a c) e3 (subst (λ z. AreMissed f P z q q' a c) e2 (subst (λ z. AreMissed f z p' q q' a c) e1 h)))))
