-- A turned plane holds just what lay in the plane, and its numbers are small.
use Rattle.std.proofs.Common.{◌≡◌, ℕ, ◌+◌, ◌≤◌, ℤ, ◌+ℤ◌, ◌-ℤ◌, ◌*ℤ◌, int_le, unsigned_abs, FitsSigned, w64, to_z, of_z, Bool, true, false, ◌&&◌, ◌||◌, cond, eqb, IsTrue, List, [], ◌∷◌, map, arith, refl, sym, ap, ap₂, ◌∙◌, subst}
use Rattle.std.proofs.lemmas.Int.{ints, to_z-of_z}
use borrow.Author.Differences.{abs_is as size_is}
use Rattle.space.proofs.Solver.{var, add, mul, neg, ring}
use Rattle.space.proofs.Tests.{decides_le}
use Rattle.space.specs.Vectors.{at}
use Rattle.ray_grid.specs.declared.turn.Turn.{Turn}
use Rattle.ray_grid.specs.Turns.{back, back_at, is_negated, is_turn, negated_if}
use Rattle.ray_grid.proofs.Turned.{by_order}
use Rattle.ray_shapes.specs.declared.plane.Plane.{Plane}
use Rattle.ray_shapes.specs.Planes.{in_bodies, in_body, plane_holds, value_at}
use Rattle.ray_shapes.specs.Turned.{side_rise, normal_of, turned_bodies, turned_plane}

-- a coefficient times a coordinate that is moved back
term_back : (b : Bool) (k u s : ℤ) → (k *ℤ negated_if b (u -ℤ s)) ≡ (negated_if b k *ℤ u) -ℤ (negated_if b k *ℤ s)
term_back true k u s =
    ring (k ∷ u ∷ s ∷ []) (mul (var 0) (neg (add (var 1) (neg (var 2))))) (add (mul (neg (var 0)) (var 1)) (neg (mul (neg (var 0)) (var 2)))) refl
term_back false k u s =
    ring (k ∷ u ∷ s ∷ []) (mul (var 0) (add (var 1) (neg (var 2)))) (add (mul (var 0) (var 1)) (neg (mul (var 0) (var 2)))) refl

-- three terms, in whatever order they are added
abbrev sum_of : ℤ → ℤ → ℤ → ℤ
sum_of x y z = (x +ℤ y) +ℤ z

abbrev new_from : ℕ → ℕ → ℕ → ℕ
new_from a b old = cond (eqb a old) 0 (cond (eqb b old) 1 2)

turned_left : (x y z : ℤ) → sum_of x y z ≡ sum_of y z x
turned_left x y z = omega (arith, ints)

turned_right : (x y z : ℤ) → sum_of x y z ≡ sum_of z x y
turned_right x y z = omega (arith, ints)

last_two : (x y z : ℤ) → sum_of x y z ≡ sum_of x z y
last_two x y z = omega (arith, ints)

first_two : (x y z : ℤ) → sum_of x y z ≡ sum_of y x z
first_two x y z = omega (arith, ints)

both_ends : (x y z : ℤ) → sum_of x y z ≡ sum_of z y x
both_ends x y z = omega (arith, ints)

three_terms : (x y z p q r u v w : ℤ) → x ≡ p -ℤ u → y ≡ q -ℤ v → z ≡ r -ℤ w → sum_of x y z ≡ (sum_of p q r -ℤ sum_of u v w)
three_terms x y z p q r u v w a b c = omega (arith, ints)

-- the left side where a point lay is that of the turned plane at the point, less what the right side rises by
value_back : (turn : Turn) (plane : Plane) (point : List ℤ) → IsTrue (is_turn turn)
    → value_at plane (back turn point) ≡ (value_at (turned_plane turn plane) point -ℤ side_rise turn (normal_of plane))
value_back turn plane point test =
    let normal = normal_of plane in
    let lay : ℕ → ℤ = back_at turn point in
    let turned : ℕ → ℕ → ℤ = λ n old. negated_if (is_negated turn n) (at normal old) in
    let one : (n old : ℕ) → (at normal old *ℤ lay n) ≡ (turned n old *ℤ at point n) -ℤ (turned n old *ℤ at turn.shift n) =
    λ n old. term_back (is_negated turn n) (at normal old) (at point n) (at turn.shift n) in
    let line : (i j k a b c : ℕ)
    → sum_of (turned i 0 *ℤ at point i) (turned j 1 *ℤ at point j) (turned k 2 *ℤ at point k)
    ≡ sum_of (turned 0 a *ℤ at point 0) (turned 1 b *ℤ at point 1) (turned 2 c *ℤ at point 2)
    → sum_of (turned i 0 *ℤ at turn.shift i) (turned j 1 *ℤ at turn.shift j) (turned k 2 *ℤ at turn.shift k)
    ≡ sum_of (turned 0 a *ℤ at turn.shift 0) (turned 1 b *ℤ at turn.shift 1) (turned 2 c *ℤ at turn.shift 2)
    → sum_of (at normal 0 *ℤ lay i) (at normal 1 *ℤ lay j) (at normal 2 *ℤ lay k)
    ≡ (sum_of (turned 0 a *ℤ at point 0) (turned 1 b *ℤ at point 1) (turned 2 c *ℤ at point 2)
    -ℤ sum_of (turned 0 a *ℤ at turn.shift 0) (turned 1 b *ℤ at turn.shift 1) (turned 2 c *ℤ at turn.shift 2)) =
    λ i j k a b c values lifts.
    three_terms (at normal 0 *ℤ lay i) (at normal 1 *ℤ lay j) (at normal 2 *ℤ lay k)
    (turned i 0 *ℤ at point i) (turned j 1 *ℤ at point j) (turned k 2 *ℤ at point k)
    (turned i 0 *ℤ at turn.shift i) (turned j 1 *ℤ at turn.shift j) (turned k 2 *ℤ at turn.shift k) (one i 0) (one j 1) (one k 2) ∙ ap₂ (λ x y. x -ℤ y) values lifts in
    by_order
    (λ a b c. value_at plane (lay (new_from a b 0) ∷ lay (new_from a b 1) ∷ lay (new_from a b 2) ∷ [])
    ≡ (sum_of (turned 0 a *ℤ at point 0) (turned 1 b *ℤ at point 1) (turned 2 c *ℤ at point 2)
    -ℤ sum_of (turned 0 a *ℤ at turn.shift 0) (turned 1 b *ℤ at turn.shift 1) (turned 2 c *ℤ at turn.shift 2)))
    turn
    (line 0 1 2 0 1 2 refl refl)
    (line 2 0 1 1 2 0 (turned_left (turned 2 0 *ℤ at point 2) (turned 0 1 *ℤ at point 0) (turned 1 2 *ℤ at point 1))
    (turned_left (turned 2 0 *ℤ at turn.shift 2) (turned 0 1 *ℤ at turn.shift 0) (turned 1 2 *ℤ at turn.shift 1)))
    (line 1 2 0 2 0 1 (turned_right (turned 1 0 *ℤ at point 1) (turned 2 1 *ℤ at point 2) (turned 0 2 *ℤ at point 0))
    (turned_right (turned 1 0 *ℤ at turn.shift 1) (turned 2 1 *ℤ at turn.shift 2) (turned 0 2 *ℤ at turn.shift 0)))
    (line 0 2 1 0 2 1 (last_two (turned 0 0 *ℤ at point 0) (turned 2 1 *ℤ at point 2) (turned 1 2 *ℤ at point 1))
    (last_two (turned 0 0 *ℤ at turn.shift 0) (turned 2 1 *ℤ at turn.shift 2) (turned 1 2 *ℤ at turn.shift 1)))
    (line 1 0 2 1 0 2 (first_two (turned 1 0 *ℤ at point 1) (turned 0 1 *ℤ at point 0) (turned 2 2 *ℤ at point 2))
    (first_two (turned 1 0 *ℤ at turn.shift 1) (turned 0 1 *ℤ at turn.shift 0) (turned 2 2 *ℤ at turn.shift 2)))
    (line 2 1 0 2 1 0 (both_ends (turned 2 0 *ℤ at point 2) (turned 1 1 *ℤ at point 1) (turned 0 2 *ℤ at point 0))
    (both_ends (turned 2 0 *ℤ at turn.shift 2) (turned 1 1 *ℤ at turn.shift 1) (turned 0 2 *ℤ at turn.shift 0)))
    test

-- two tests that say yes together are one
same_tests : (a b : Bool) → (a ≡ true → b ≡ true) → (b ≡ true → a ≡ true) → a ≡ b
same_tests true b to from = sym (to refl)
same_tests false true to from = from refl
same_tests false false to from = refl

le_moved : (v d s : ℤ) → int_le v (d +ℤ s) ≡ int_le (v -ℤ s) d
le_moved v d s =
    same_tests (int_le v (d +ℤ s)) (int_le (v -ℤ s) d)
    (λ h. (decides_le (v -ℤ s) d).1 (let le = (decides_le v (d +ℤ s)).0 h in omega (arith, ints)))
    (λ h. (decides_le v (d +ℤ s)).1 (let le = (decides_le (v -ℤ s) d).0 h in omega (arith, ints)))

pub turned_holds : (turn : Turn) (plane : Plane) (point : List ℤ) → IsTrue (is_turn turn)
    → plane_holds (turned_plane turn plane) point ≡ plane_holds plane (back turn point)
turned_holds turn plane point test =
    le_moved (value_at (turned_plane turn plane) point) plane.d (side_rise turn (normal_of plane))
    ∙ ap (λ z. int_le z plane.d) (sym (value_back turn plane point test))

turned_body : (turn : Turn) (planes : List Plane) (point : List ℤ) → IsTrue (is_turn turn)
    → in_body (map (turned_plane turn) planes) point ≡ in_body planes (back turn point)
turned_body turn [] point test = refl
turned_body turn (plane ∷ planes) point test = ap₂ (λ a b. a && b) (turned_holds turn plane point test) (turned_body turn planes point test)

-- turned bodies hold just the points that lay in the bodies
pub turned_in : (turn : Turn) (bodies : List (List Plane)) (point : List ℤ) → IsTrue (is_turn turn)
    → in_bodies (turned_bodies turn bodies) point ≡ in_bodies bodies (back turn point)
turned_in turn [] point test = refl
turned_in turn (body ∷ bodies) point test = ap₂ (λ a b. a || b) (turned_body turn body point test) (turned_in turn bodies point test)

-- sums far below 64 bits are what is computed
small_fits : (z : ℤ) → unsigned_abs z ≤ 2000000000000000000 → FitsSigned w64 z
small_fits z small = let size = size_is z in omega (arith, ints)

pub small_read : (z : ℤ) → unsigned_abs z ≤ 2000000000000000000 → to_z w64 (of_z w64 z) ≡ z
small_read z small = to_z-of_z w64 z (small_fits z small)

sum_size : (x y : ℤ) (m n : ℕ) → unsigned_abs x ≤ m → unsigned_abs y ≤ n → unsigned_abs (x +ℤ y) ≤ m + n
sum_size x y m n a b = let p = size_is x in let q = size_is y in let r = size_is (x +ℤ y) in omega (arith, ints)

abbrev read : ℤ → ℤ
read z = to_z w64 (of_z w64 z)

pub record IsLifted (d x y z : ℤ) : Type 0 where
  pub two : FitsSigned w64 (read x +ℤ read y)
  pub three : FitsSigned w64 (read (read x +ℤ read y) +ℤ read z)
  pub all : FitsSigned w64 (read d +ℤ read (read (read x +ℤ read y) +ℤ read z))
  pub is_read : read (read d +ℤ read (read (read x +ℤ read y) +ℤ read z)) ≡ d +ℤ ((x +ℤ y) +ℤ z)

pub is_lifted : (d x y z : ℤ) → unsigned_abs d ≤ 1000000000000000000 → unsigned_abs x ≤ 2000000000000000 → unsigned_abs y ≤ 2000000000000000
    → unsigned_abs z ≤ 2000000000000000 → IsLifted d x y z
is_lifted d x y z fd fx fy fz =
    let two : (read x +ℤ read y) ≡ x +ℤ y = ap₂ (λ a b. a +ℤ b) (small_read x (omega arith)) (small_read y (omega arith)) in
    let size_two : unsigned_abs (x +ℤ y) ≤ 4000000000000000 = sum_size x y 2000000000000000 2000000000000000 fx fy in
    let read_two : read (read x +ℤ read y) ≡ x +ℤ y = ap read two ∙ small_read (x +ℤ y) (omega arith) in
    let three : (read (read x +ℤ read y) +ℤ read z) ≡ (x +ℤ y) +ℤ z = ap₂ (λ a b. a +ℤ b) read_two (small_read z (omega arith)) in
    let size_three : unsigned_abs ((x +ℤ y) +ℤ z) ≤ 6000000000000000 = sum_size (x +ℤ y) z 4000000000000000 2000000000000000 size_two fz in
    let read_three : read (read (read x +ℤ read y) +ℤ read z) ≡ (x +ℤ y) +ℤ z = ap read three ∙ small_read ((x +ℤ y) +ℤ z) (omega arith) in
    let all : (read d +ℤ read (read (read x +ℤ read y) +ℤ read z)) ≡ d +ℤ ((x +ℤ y) +ℤ z) = ap₂ (λ a b. a +ℤ b) (small_read d (omega arith)) read_three in
    let size : unsigned_abs (d +ℤ ((x +ℤ y) +ℤ z)) ≤ 1006000000000000000 = sum_size d ((x +ℤ y) +ℤ z) 1000000000000000000 6000000000000000 fd size_three in
    record {
      two = subst (FitsSigned w64) (sym two) (small_fits (x +ℤ y) (omega arith));
      three = subst (FitsSigned w64) (sym three) (small_fits ((x +ℤ y) +ℤ z) (omega arith));
      all = subst (FitsSigned w64) (sym all) (small_fits (d +ℤ ((x +ℤ y) +ℤ z)) (omega arith));
      is_read = ap read all ∙ small_read (d +ℤ ((x +ℤ y) +ℤ z)) (omega arith);
    }
