-- What is so of every turn.
use Rattle.std.proofs.Common.{◌≡◌, ℕ, suc, zero, ◌<◌, ◌≤◌, ℤ, negsuc, neg_ℤ, ◌+ℤ◌, ◌-ℤ◌, ◌*ℤ◌, unsigned_abs, Bool, true, false, ◌&&◌, ◌||◌, not, cond, eqb, IsTrue, List, [], ◌∷◌, arith, refl, sym, ap, ap₂, ◌∙◌, subst, ⊎_elim}
use Rattle.std.proofs.lemmas.Bool.{and_parts, or_cases, eqb-true}
use Rattle.std.proofs.lemmas.Int.{ints}
use Rattle.std.proofs.Math.IntN.{neg_ℤ-neg_ℤ}
use borrow.Author.Differences.{abs_is as size_is}
use Rattle.space.proofs.Ring.{mul_pairs_ℤ}
use Rattle.space.specs.Vectors.{at}
use Rattle.space.specs.Ranges.{IsWithin}
use Rattle.ray_grid.specs.declared.turn.Turn.{Turn}
use Rattle.ray_grid.specs.Turns.{back, back_at, forth, has_axes, is_even_order, is_mirrored, is_negated, is_odd_order, is_turn, old_axis, negated_if}
use Rattle.ray_grid.specs.TurnLaws.{distance_square}

-- the axes in an order
axes_are : (P : ℕ → ℕ → ℕ → Type 0) (a b c x y z : ℕ) → P x y z → (eqb a x && (eqb b y && eqb c z)) ≡ true → P a b c
axes_are P a b c x y z so test =
    let first = and_parts (eqb a x) (eqb b y && eqb c z) test in
    let others = and_parts (eqb b y) (eqb c z) first.1 in
    subst (λ k. P k b c) (sym (eqb-true a x first.0))
    (subst (λ k. P x k c) (sym (eqb-true b y others.0)) (subst (λ k. P x y k) (sym (eqb-true c z others.1)) so))

one_of_three : (P : ℕ → ℕ → ℕ → Type 0) (turn : Turn) (x y z u v w k l m : ℕ) → P x y z → P u v w → P k l m
    → (has_axes turn x y z || (has_axes turn u v w || has_axes turn k l m)) ≡ true → P (old_axis turn 0) (old_axis turn 1) (old_axis turn 2)
one_of_three P turn x y z u v w k l m first second third test =
    ⊎_elim
    (λ a. axes_are P (old_axis turn 0) (old_axis turn 1) (old_axis turn 2) x y z first a)
    (λ rest. ⊎_elim
    (λ b. axes_are P (old_axis turn 0) (old_axis turn 1) (old_axis turn 2) u v w second b)
    (λ c. axes_are P (old_axis turn 0) (old_axis turn 1) (old_axis turn 2) k l m third c)
    (or_cases (has_axes turn u v w) (has_axes turn k l m) rest))
    (or_cases (has_axes turn x y z) (has_axes turn u v w || has_axes turn k l m) test)

-- what is so of the six orders of the axes is so of the axes of a turn
pub by_order : (P : ℕ → ℕ → ℕ → Type 0) (turn : Turn) → P 0 1 2 → P 1 2 0 → P 2 0 1 → P 0 2 1 → P 1 0 2 → P 2 1 0 → IsTrue (is_turn turn)
    → P (old_axis turn 0) (old_axis turn 1) (old_axis turn 2)
by_order P turn a b c d e f test =
    ⊎_elim
    (λ even. one_of_three P turn 0 1 2 1 2 0 2 0 1 a b c (and_parts (is_even_order turn) (not (is_mirrored turn)) even).0)
    (λ odd. one_of_three P turn 0 2 1 1 0 2 2 1 0 d e f (and_parts (is_odd_order turn) (is_mirrored turn) odd).0)
    (or_cases (is_even_order turn && not (is_mirrored turn)) (is_odd_order turn && is_mirrored turn) test)

-- a turn's old axes are axes
pub record AreAxes (a b c : ℕ) : Type 0 where
  pub first : a < 3
  pub second : b < 3
  pub third : c < 3

axes_below : (a b c : ℕ) → a < 3 → b < 3 → c < 3 → AreAxes a b c
axes_below a b c x y z = record { first = x; second = y; third = z }

are_axes : (turn : Turn) → IsTrue (is_turn turn) → AreAxes (old_axis turn 0) (old_axis turn 1) (old_axis turn 2)
are_axes turn test =
    by_order AreAxes turn (axes_below 0 1 2 (omega arith) (omega arith) (omega arith)) (axes_below 1 2 0 (omega arith) (omega arith) (omega arith))
    (axes_below 2 0 1 (omega arith) (omega arith) (omega arith)) (axes_below 0 2 1 (omega arith) (omega arith) (omega arith))
    (axes_below 1 0 2 (omega arith) (omega arith) (omega arith)) (axes_below 2 1 0 (omega arith) (omega arith) (omega arith)) test

pub old_below : (turn : Turn) (n : ℕ) → IsTrue (is_turn turn) → n < 3 → old_axis turn n < 3
old_below turn zero test lt = (are_axes turn test).first
old_below turn (suc zero) test lt = (are_axes turn test).second
old_below turn (suc (suc zero)) test lt = (are_axes turn test).third
old_below turn (suc (suc (suc n))) test lt = absurd (omega arith)

-- a component of a vector within a limit
pub component : (limit : ℕ) (v : List ℤ) (n : ℕ) → IsWithin limit v → n < 3 → unsigned_abs (at v n) ≤ limit
component limit v zero within lt = within.0
component limit v (suc zero) within lt = within.1
component limit v (suc (suc zero)) within lt = within.2
component limit v (suc (suc (suc n))) within lt = absurd (omega arith)

pub size_of_signed : (b : Bool) (z : ℤ) → unsigned_abs (negated_if b z) ≡ unsigned_abs z
size_of_signed true z = let p = size_is z in let q = size_is (neg_ℤ z) in omega (arith, ints)
size_of_signed false z = refl

-- moved and moved back, and the other way
forth_back : (b : Bool) (z s : ℤ) → negated_if b ((negated_if b z +ℤ s) -ℤ s) ≡ z
forth_back true z s = ap neg_ℤ (let q : (neg_ℤ z +ℤ s) -ℤ s ≡ neg_ℤ z = omega (arith, ints) in q) ∙ neg_ℤ-neg_ℤ z
forth_back false z s = omega (arith, ints)

back_forth : (b : Bool) (z s : ℤ) → (negated_if b (negated_if b (z -ℤ s)) +ℤ s) ≡ z
back_forth true z s = ap (λ k. k +ℤ s) (neg_ℤ-neg_ℤ (z -ℤ s)) ∙ (let q : (z -ℤ s) +ℤ s ≡ z = omega (arith, ints) in q)
back_forth false z s = omega (arith, ints)

-- a point turned and turned back, with the old axes by their numbers
abbrev new_from : ℕ → ℕ → ℕ → ℕ
new_from a b old = cond (eqb a old) 0 (cond (eqb b old) 1 2)

pub back_undoes : (turn : Turn) (x y z : ℤ) → IsTrue (is_turn turn) → back turn (forth turn (x ∷ y ∷ z ∷ [])) ≡ x ∷ y ∷ z ∷ []
back_undoes turn x y z test =
    let put : ℕ → ℕ → ℤ = λ n old. negated_if (is_negated turn n) (at (x ∷ y ∷ z ∷ []) old) +ℤ at turn.shift n in
    let same : (n : ℕ) (w : ℤ) → negated_if (is_negated turn n) ((negated_if (is_negated turn n) w +ℤ at turn.shift n) -ℤ at turn.shift n) ≡ w =
    λ n w. forth_back (is_negated turn n) w (at turn.shift n) in
    by_order
    (λ a b c. let there = put 0 a ∷ put 1 b ∷ put 2 c ∷ [] in
    back_at turn there (new_from a b 0) ∷ back_at turn there (new_from a b 1) ∷ back_at turn there (new_from a b 2) ∷ [] ≡ x ∷ y ∷ z ∷ [])
    turn
    (λ i. same 0 x i ∷ same 1 y i ∷ same 2 z i ∷ [])
    (λ i. same 2 x i ∷ same 0 y i ∷ same 1 z i ∷ [])
    (λ i. same 1 x i ∷ same 2 y i ∷ same 0 z i ∷ [])
    (λ i. same 0 x i ∷ same 2 y i ∷ same 1 z i ∷ [])
    (λ i. same 1 x i ∷ same 0 y i ∷ same 2 z i ∷ [])
    (λ i. same 2 x i ∷ same 1 y i ∷ same 0 z i ∷ [])
    test

pub forth_undoes : (turn : Turn) (x y z : ℤ) → IsTrue (is_turn turn) → forth turn (back turn (x ∷ y ∷ z ∷ [])) ≡ x ∷ y ∷ z ∷ []
forth_undoes turn x y z test =
    let from : ℕ → ℤ = back_at turn (x ∷ y ∷ z ∷ []) in
    let same : (n : ℕ) (w : ℤ) → (negated_if (is_negated turn n) (negated_if (is_negated turn n) (w -ℤ at turn.shift n)) +ℤ at turn.shift n) ≡ w =
    λ n w. back_forth (is_negated turn n) w (at turn.shift n) in
    by_order
    (λ a b c. let lay = from (new_from a b 0) ∷ from (new_from a b 1) ∷ from (new_from a b 2) ∷ [] in
    (negated_if (is_negated turn 0) (at lay a) +ℤ at turn.shift 0) ∷ (negated_if (is_negated turn 1) (at lay b) +ℤ at turn.shift 1)
    ∷ (negated_if (is_negated turn 2) (at lay c) +ℤ at turn.shift 2) ∷ [] ≡ x ∷ y ∷ z ∷ [])
    turn
    (λ i. same 0 x i ∷ same 1 y i ∷ same 2 z i ∷ [])
    (λ i. same 0 x i ∷ same 1 y i ∷ same 2 z i ∷ [])
    (λ i. same 0 x i ∷ same 1 y i ∷ same 2 z i ∷ [])
    (λ i. same 0 x i ∷ same 1 y i ∷ same 2 z i ∷ [])
    (λ i. same 0 x i ∷ same 1 y i ∷ same 2 z i ∷ [])
    (λ i. same 0 x i ∷ same 1 y i ∷ same 2 z i ∷ [])
    test

-- a difference that is negated has the same square
minus_one : (w : ℤ) → neg_ℤ w ≡ negsuc 0 *ℤ w
minus_one w = omega (arith, ints)

negated_square : (w : ℤ) → (neg_ℤ w *ℤ neg_ℤ w) ≡ w *ℤ w
negated_square w = ap₂ (λ a b. a *ℤ b) (minus_one w) (minus_one w) ∙ mul_pairs_ℤ (negsuc 0) w (negsuc 0) w ∙ omega (arith, ints)

square_kept : (b : Bool) (u v s : ℤ)
    → (((negated_if b v +ℤ s) -ℤ (negated_if b u +ℤ s)) *ℤ ((negated_if b v +ℤ s) -ℤ (negated_if b u +ℤ s))) ≡ (v -ℤ u) *ℤ (v -ℤ u)
square_kept true u v s =
    ap (λ k. k *ℤ k) (let q : ((neg_ℤ v +ℤ s) -ℤ (neg_ℤ u +ℤ s)) ≡ neg_ℤ (v -ℤ u) = omega (arith, ints) in q) ∙ negated_square (v -ℤ u)
square_kept false u v s = ap (λ k. k *ℤ k) (let q : ((v +ℤ s) -ℤ (u +ℤ s)) ≡ v -ℤ u = omega (arith, ints) in q)

-- three squares, in whatever order they are added
sum_of : (a b c x y z d : ℤ) → a ≡ x → b ≡ y → c ≡ z → ((x +ℤ y) +ℤ z) ≡ d → ((a +ℤ b) +ℤ c) ≡ d
sum_of a b c x y z d p q r sum = omega (arith, ints)

pub distances_kept : (turn : Turn) (p q : List ℤ) → IsTrue (is_turn turn) → distance_square (forth turn p) (forth turn q) ≡ distance_square p q
distances_kept turn p q test =
    let put : List ℤ → ℕ → ℕ → ℤ = λ v n old. negated_if (is_negated turn n) (at v old) +ℤ at turn.shift n in
    let square : ℕ → ℤ = λ n. (at q n -ℤ at p n) *ℤ (at q n -ℤ at p n) in
    let kept : (n old : ℕ) → ((put q n old -ℤ put p n old) *ℤ (put q n old -ℤ put p n old)) ≡ square old =
    λ n old. square_kept (is_negated turn n) (at p old) (at q old) (at turn.shift n) in
    let all : ℤ = (square 0 +ℤ square 1) +ℤ square 2 in
    let sum : (a b c : ℕ) → ((square a +ℤ square b) +ℤ square c) ≡ all
    → distance_square (put p 0 a ∷ put p 1 b ∷ put p 2 c ∷ []) (put q 0 a ∷ put q 1 b ∷ put q 2 c ∷ []) ≡ all =
    λ a b c order. sum_of _ _ _ (square a) (square b) (square c) all (kept 0 a) (kept 1 b) (kept 2 c) order in
    by_order (λ a b c. distance_square (put p 0 a ∷ put p 1 b ∷ put p 2 c ∷ []) (put q 0 a ∷ put q 1 b ∷ put q 2 c ∷ []) ≡ distance_square p q)
    turn
    (sum 0 1 2 (omega (arith, ints))) (sum 1 2 0 (omega (arith, ints))) (sum 2 0 1 (omega (arith, ints)))
    (sum 0 2 1 (omega (arith, ints))) (sum 1 0 2 (omega (arith, ints))) (sum 2 1 0 (omega (arith, ints)))
    test
