-- Equations between polynomials over the whole numbers, decided by computation.
-- `ring e t u refl` proves that the terms t and u have the same value at the numbers e.
use Rattle.std.proofs.Common.{◌≡◌, ℕ, Bool, true, false, cond, ltb, eqb, ◌&&◌, List, [], ◌∷◌, ℤ, pos, negsuc, ◌+ℤ◌, ◌*ℤ◌, neg_ℤ, arith, ap, refl, sym, ◌∙◌, slice_index_or}
use Rattle.std.proofs.lemmas.Bool.{cond_both, eqb-true, and_parts}
use Rattle.std.proofs.lemmas.Int.{ints}
use Rattle.space.proofs.Ring.{mul_assoc_ℤ, mul_add_ℤ, add_mul_ℤ, mul_swap_ℤ, mul_pairs_ℤ}

pub data Term : Type 0 where
  var : ℕ → Term
  num : ℤ → Term
  add : Term → Term → Term
  mul : Term → Term → Term
  neg : Term → Term

abbrev pub eval : List ℤ → Term → ℤ
eval e (var i) = slice_index_or e i (pos 0)
eval e (num z) = z
eval e (add t u) = eval e t +ℤ eval e u
eval e (mul t u) = eval e t *ℤ eval e u
eval e (neg t) = neg_ℤ (eval e t)

-- a monomial is the list of its variables, ascending
abbrev mono : List ℤ → List ℕ → ℤ
mono e [] = pos 1
mono e (i ∷ m) = slice_index_or e i (pos 0) *ℤ mono e m

abbrev poly : List ℤ → List (ℤ × List ℕ) → ℤ
poly e [] = pos 0
poly e (t ∷ p) = t.0 *ℤ mono e t.1 +ℤ poly e p

abbrev insert : ℕ → List ℕ → List ℕ
insert i [] = i ∷ []
insert i (j ∷ m) = cond (ltb i j) (i ∷ j ∷ m) (j ∷ insert i m)

insert_is : (e : List ℤ) (i : ℕ) (m : List ℕ) → mono e (insert i m) ≡ slice_index_or e i (pos 0) *ℤ mono e m
insert_is e i [] = refl
insert_is e i (j ∷ m) =
    cond_both (ltb i j) (i ∷ j ∷ m) (j ∷ insert i m) (λ l. mono e l ≡ slice_index_or e i (pos 0) *ℤ mono e (j ∷ m)) (λ _. refl)
    (λ _. ap (λ z. slice_index_or e j (pos 0) *ℤ z) (insert_is e i m) ∙ mul_swap_ℤ (slice_index_or e j (pos 0)) (slice_index_or e i (pos 0)) (mono e m))

abbrev join : List ℕ → List ℕ → List ℕ
join [] n = n
join (i ∷ m) n = insert i (join m n)

one_mul : (z : ℤ) → pos 1 *ℤ z ≡ z
one_mul z = omega (arith, ints)

join_is : (e : List ℤ) (m n : List ℕ) → mono e (join m n) ≡ mono e m *ℤ mono e n
join_is e [] n = sym (one_mul (mono e n))
join_is e (i ∷ m) n =
    insert_is e i (join m n) ∙ ap (λ z. slice_index_or e i (pos 0) *ℤ z) (join_is e m n)
    ∙ sym (mul_assoc_ℤ (slice_index_or e i (pos 0)) (mono e m) (mono e n))

abbrev same : List ℕ → List ℕ → Bool
same [] [] = true
same [] (j ∷ n) = false
same (i ∷ m) [] = false
same (i ∷ m) (j ∷ n) = eqb i j && same m n

same_is : (m n : List ℕ) → same m n ≡ true → m ≡ n
same_is [] [] h = refl
same_is [] (j ∷ n) h = cc
same_is (i ∷ m) [] h = cc
same_is (i ∷ m) (j ∷ n) h =
    let p = and_parts (eqb i j) (same m n) h in
    let q : i ≡ j = eqb-true i j p.0 in
    let r : m ≡ n = same_is m n p.1 in cc

abbrev add_term : ℤ → List ℕ → List (ℤ × List ℕ) → List (ℤ × List ℕ)
add_term c m [] = (c, m) ∷ []
add_term c m (t ∷ p) = cond (same m t.1) ((c +ℤ t.0, m) ∷ p) (t ∷ add_term c m p)

here_is : (c d x rest : ℤ) → (c +ℤ d) *ℤ x +ℤ rest ≡ c *ℤ x +ℤ (d *ℤ x +ℤ rest)
here_is c d x rest = omega (arith, ints, add_mul_ℤ c d x)

swap_sum : (a b c : ℤ) → a +ℤ (b +ℤ c) ≡ b +ℤ (a +ℤ c)
swap_sum a b c = omega (arith, ints)

add_term_is : (e : List ℤ) (c : ℤ) (m : List ℕ) (p : List (ℤ × List ℕ)) → poly e (add_term c m p) ≡ c *ℤ mono e m +ℤ poly e p
add_term_is e c m [] = refl
add_term_is e c m (t ∷ p) =
    cond_both (same m t.1) ((c +ℤ t.0, m) ∷ p) (t ∷ add_term c m p) (λ l. poly e l ≡ c *ℤ mono e m +ℤ (t.0 *ℤ mono e t.1 +ℤ poly e p))
    (λ h. here_is c t.0 (mono e m) (poly e p) ∙ ap (λ n. c *ℤ mono e m +ℤ (t.0 *ℤ mono e n +ℤ poly e p)) (same_is m t.1 h))
    (λ _. ap (λ z. t.0 *ℤ mono e t.1 +ℤ z) (add_term_is e c m p) ∙ swap_sum (t.0 *ℤ mono e t.1) (c *ℤ mono e m) (poly e p))

abbrev sum : List (ℤ × List ℕ) → List (ℤ × List ℕ) → List (ℤ × List ℕ)
sum [] q = q
sum (t ∷ p) q = add_term t.0 t.1 (sum p q)

zero_add : (z : ℤ) → z ≡ pos 0 +ℤ z
zero_add z = omega (arith, ints)

assoc_sum : (a b c : ℤ) → a +ℤ (b +ℤ c) ≡ (a +ℤ b) +ℤ c
assoc_sum a b c = omega (arith, ints)

sum_is : (e : List ℤ) (p q : List (ℤ × List ℕ)) → poly e (sum p q) ≡ poly e p +ℤ poly e q
sum_is e [] q = zero_add (poly e q)
sum_is e (t ∷ p) q =
    add_term_is e t.0 t.1 (sum p q) ∙ ap (λ z. t.0 *ℤ mono e t.1 +ℤ z) (sum_is e p q) ∙ assoc_sum (t.0 *ℤ mono e t.1) (poly e p) (poly e q)

abbrev scale : ℤ → List ℕ → List (ℤ × List ℕ) → List (ℤ × List ℕ)
scale c m [] = []
scale c m (t ∷ p) = add_term (c *ℤ t.0) (join m t.1) (scale c m p)

mul_zero : (z : ℤ) → pos 0 ≡ z *ℤ pos 0
mul_zero z = omega (arith, ints)

scale_is : (e : List ℤ) (c : ℤ) (m : List ℕ) (p : List (ℤ × List ℕ)) → poly e (scale c m p) ≡ (c *ℤ mono e m) *ℤ poly e p
scale_is e c m [] = mul_zero (c *ℤ mono e m)
scale_is e c m (t ∷ p) =
    add_term_is e (c *ℤ t.0) (join m t.1) (scale c m p)
    ∙ ap (λ z. (c *ℤ t.0) *ℤ z +ℤ poly e (scale c m p)) (join_is e m t.1)
    ∙ ap (λ z. (c *ℤ t.0) *ℤ (mono e m *ℤ mono e t.1) +ℤ z) (scale_is e c m p)
    ∙ ap (λ z. z +ℤ (c *ℤ mono e m) *ℤ poly e p) (mul_pairs_ℤ c t.0 (mono e m) (mono e t.1))
    ∙ sym (mul_add_ℤ (c *ℤ mono e m) (t.0 *ℤ mono e t.1) (poly e p))

abbrev product : List (ℤ × List ℕ) → List (ℤ × List ℕ) → List (ℤ × List ℕ)
product [] q = []
product (t ∷ p) q = sum (scale t.0 t.1 q) (product p q)

zero_mul : (z : ℤ) → pos 0 ≡ pos 0 *ℤ z
zero_mul z = omega (arith, ints)

product_is_of : (e : List ℤ) (p q : List (ℤ × List ℕ)) → poly e (product p q) ≡ poly e p *ℤ poly e q
product_is_of e [] q = zero_mul (poly e q)
product_is_of e (t ∷ p) q =
    sum_is e (scale t.0 t.1 q) (product p q)
    ∙ ap (λ z. z +ℤ poly e (product p q)) (scale_is e t.0 t.1 q)
    ∙ ap (λ z. (t.0 *ℤ mono e t.1) *ℤ poly e q +ℤ z) (product_is_of e p q)
    ∙ sym (add_mul_ℤ (t.0 *ℤ mono e t.1) (poly e p) (poly e q))

abbrev norm : Term → List (ℤ × List ℕ)
norm (var i) = (pos 1, i ∷ []) ∷ []
norm (num z) = (z, []) ∷ []
norm (add t u) = sum (norm t) (norm u)
norm (mul t u) = product (norm t) (norm u)
norm (neg t) = scale (negsuc 0) [] (norm t)

var_is : (z : ℤ) → pos 1 *ℤ (z *ℤ pos 1) +ℤ pos 0 ≡ z
var_is z = omega (arith, ints)

num_is : (z : ℤ) → z *ℤ pos 1 +ℤ pos 0 ≡ z
num_is z = omega (arith, ints)

neg_is_of : (z : ℤ) → (negsuc 0 *ℤ pos 1) *ℤ z ≡ neg_ℤ z
neg_is_of z = omega (arith, ints)

norm_is : (e : List ℤ) (t : Term) → poly e (norm t) ≡ eval e t
norm_is e (var i) = var_is (slice_index_or e i (pos 0))
norm_is e (num z) = num_is z
norm_is e (add t u) = sum_is e (norm t) (norm u) ∙ ap (λ z. z +ℤ poly e (norm u)) (norm_is e t) ∙ ap (λ z. eval e t +ℤ z) (norm_is e u)
norm_is e (mul t u) = product_is_of e (norm t) (norm u) ∙ ap (λ z. z *ℤ poly e (norm u)) (norm_is e t) ∙ ap (λ z. eval e t *ℤ z) (norm_is e u)
norm_is e (neg t) = scale_is e (negsuc 0) [] (norm t) ∙ neg_is_of (poly e (norm t)) ∙ ap neg_ℤ (norm_is e t)

abbrev is_zero : ℤ → Bool
is_zero (pos n) = eqb n 0
is_zero (negsuc n) = false

abbrev all_zero : List (ℤ × List ℕ) → Bool
all_zero [] = true
all_zero (t ∷ p) = is_zero t.0 && all_zero p

is_zero_is : (z : ℤ) → is_zero z ≡ true → z ≡ pos 0
is_zero_is (pos n) h = ap pos (eqb-true n 0 h)
is_zero_is (negsuc n) h = cc

vanishes : (c x rest : ℤ) → c ≡ pos 0 → rest ≡ pos 0 → c *ℤ x +ℤ rest ≡ pos 0
vanishes c x rest h k = ap (λ z. z *ℤ x +ℤ rest) h ∙ ap (λ z. pos 0 *ℤ x +ℤ z) k ∙ ap (λ z. z +ℤ pos 0) (sym (zero_mul x))

all_zero_is : (e : List ℤ) (p : List (ℤ × List ℕ)) → all_zero p ≡ true → poly e p ≡ pos 0
all_zero_is e [] h = refl
all_zero_is e (t ∷ p) h =
    let s = and_parts (is_zero t.0) (all_zero p) h in
    vanishes t.0 (mono e t.1) (poly e p) (is_zero_is t.0 s.0) (all_zero_is e p s.1)

apart : (a b : ℤ) → a +ℤ neg_ℤ b ≡ pos 0 → a ≡ b
apart a b h = omega (arith, ints)

pub ring : (e : List ℤ) (t u : Term) → all_zero (norm (add t (neg u))) ≡ true → eval e t ≡ eval e u
ring e t u h = apart (eval e t) (eval e u) (sym (norm_is e (add t (neg u))) ∙ all_zero_is e (norm (add t (neg u))) h)
