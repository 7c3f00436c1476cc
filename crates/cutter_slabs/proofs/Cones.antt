-- The cone rule over natural numbers, that it follows from a slab's diameter, and that a slab's diameter follows from it.
use Rattle.std.proofs.Common.{◌≡◌, ℕ, ◌+◌, ◌*◌, ◌^◌, ◌-◌, ◌≤◌, ◌<◌, ℤ, pos, negsuc, ◌*ℤ◌, ◌≤ℤ◌, arith, refl, sym, subst, ◌⊎◌, inl, inr, ⊎_elim}
use Rattle.std.proofs.Math.Nat.{le_of_mul-le-mul_left, mul-le-mul, mul-le-mul_left, mul-le-mul_right}
use Rattle.std.proofs.lemmas.Bool.{cases_lt}
use Rattle.std.proofs.lemmas.Int.{ints}
use Rattle.bern_form.proofs.Roots.{root_le}
use Rattle.cutter_slabs.specs.Cone.{ConeRule, cone_excess}

-- The cone rule, with u the component along the axis times its length, N the axis' square, W the square of the distance from the
-- axis times N, T the tangent in parts of K: where m is 4 K^2 W - K^2 D^2 N - 4 T^2 u^2, m^2 is at most 16 K^2 T^2 D^2 u^2 N. Where
-- that number is below 0 there is no m.
abbrev pub ConeBy : ℕ → ℕ → ℕ → ℕ → ℕ → ℕ → Type 0
ConeBy K T D u N W =
    (m : ℕ) → K * K * (D * D) * N + 4 * (T * T) * (u * u) + m ≡ 4 * (K * K) * W → m * m ≤ 16 * (K * K) * (T * T) * (D * D) * ((u * u) * N)

-- in millionths
abbrev pub Cone : ℕ → ℕ → ℕ → ℕ → ℕ → Type 0
Cone T D u N W = ConeBy 1000000 T D u N W

-- a cone of diameter D at the tip and height h holds the place
pub record InCone (T D h u N W : ℕ) : Type 0 where
  pub height : u * u ≤ (h * h) * N
  pub cone : Cone T D u N W

-- the widening S of a slab that begins at the height L, which is at most the place's: S <= L T / K
narrow : (K T S L u N : ℕ) → S * K ≤ L * T → (L * L) * N ≤ u * u → S * S * (K * K) * N ≤ T * T * (u * u)
narrow K T S L u N k low =
    let a = mul-le-mul_right N (mul-le-mul k k) in
    let b = mul-le-mul_left (T * T) low in
    omega arith

beside : (K T D S u N W m : ℕ) → S * S * (K * K) * N ≤ T * T * (u * u) → 4 * W ≤ ((D + 2 * S) * (D + 2 * S)) * N
    → K * K * (D * D) * N + 4 * (T * T) * (u * u) + m ≡ 4 * (K * K) * W → m ≤ 4 * (K * K) * D * S * N
beside K T D S u N W m tops near e = let a = mul-le-mul_left (K * K) near in omega arith

squared : (K T D S u N m : ℕ) → S * S * (K * K) * N ≤ T * T * (u * u) → m ≤ 4 * (K * K) * D * S * N → m * m ≤ 16 * (K * K) * (T * T) * (D * D) * ((u * u) * N)
squared K T D S u N m tops l =
    let a = mul-le-mul l l in
    let b = mul-le-mul_left (16 * (K * K) * (D * D) * N) tops in
    omega arith

-- a place as far from the axis as a slab that begins below it is within the cone
pub cone_of_slab : (K T D S L u N W : ℕ) → S * K ≤ L * T → (L * L) * N ≤ u * u → 4 * W ≤ ((D + 2 * S) * (D + 2 * S)) * N → ConeBy K T D u N W
cone_of_slab K T D S L u N W k low near = λ m e.
    let tops = narrow K T S L u N k low in
    squared K T D S u N m tops (beside K T D S u N W m tops near e)

-- the widening S of a slab that ends at the height H, which is at least the place's: H T / K <= S
wide : (K T S H u N : ℕ) → H * T ≤ S * K → u * u ≤ (H * H) * N → T * T * (u * u) ≤ S * S * (K * K) * N
wide K T S H u N k high =
    let a = mul-le-mul_right N (mul-le-mul k k) in
    let b = mul-le-mul_left (T * T) high in
    omega arith

root_of : (K T D S u N m : ℕ) → T * T * (u * u) ≤ S * S * (K * K) * N → m * m ≤ 16 * (K * K) * (T * T) * (D * D) * ((u * u) * N) → m ≤ 4 * (K * K) * D * S * N
root_of K T D S u N m tops h =
    let b = mul-le-mul_left (16 * (K * K) * (D * D) * N) tops in
    root_le m (4 * (K * K) * D * S * N) (omega arith)

scaled_near : (K T D S u N W : ℕ) → ConeBy K T D u N W → T * T * (u * u) ≤ S * S * (K * K) * N → K * K * (4 * W) ≤ K * K * (((D + 2 * S) * (D + 2 * S)) * N)
scaled_near K T D S u N W rule tops =
    ⊎_elim (λ l. omega arith)
    (λ g.
    let m = 4 * (K * K) * W - (K * K * (D * D) * N + 4 * (T * T) * (u * u)) in
    let e : K * K * (D * D) * N + 4 * (T * T) * (u * u) + m ≡ 4 * (K * K) * W = omega arith in
    let r = root_of K T D S u N m tops (rule m e) in
    omega arith)
    (cases_lt (4 * (K * K) * W) (K * K * (D * D) * N + 4 * (T * T) * (u * u)))

-- a place within the cone is as near to the axis as a slab that ends above it
pub slab_of_cone : (K T D S H u N W : ℕ) → 0 < K → ConeBy K T D u N W → H * T ≤ S * K → u * u ≤ (H * H) * N → 4 * W ≤ ((D + 2 * S) * (D + 2 * S)) * N
slab_of_cone K T D S H u N W some rule k high =
    le_of_mul-le-mul_left {k = K * K} (scaled_near K T D S u N W rule (wide K T S H u N k high)) (let s = mul-le-mul some some in omega (arith, s))

-- a greater tangent makes a wider cone
less : (K T V D u N W m x : ℕ) → T * T ≤ V * V → K * K * (D * D) * N + 4 * (V * V) * (u * u) + m ≡ 4 * (K * K) * W
    → (u * u) * (T * T) + x ≡ (u * u) * (V * V) → K * K * (D * D) * N + 4 * (T * T) * (u * u) + (m + 4 * x) ≡ 4 * (K * K) * W
less K T V D u N W m x h e f = omega arith

pub cone_more : (K T V D u N W : ℕ) → T ≤ V → ConeBy K T D u N W → ConeBy K V D u N W
cone_more K T V D u N W h rule = λ m e.
    let tv = mul-le-mul h h in
    let uu = mul-le-mul_left (u * u) tv in
    let x = (u * u) * (V * V) - (u * u) * (T * T) in
    let s = rule (m + 4 * x) (less K T V D u N W m x tv e (omega arith)) in
    let w = mul-le-mul_left (16 * (K * K) * (D * D) * N) uu in
    let q : m ≤ m + 4 * x = omega arith in
    let mm = mul-le-mul q q in
    omega arith

-- the cone rule over whole numbers, both ways
excess_is : (T D u N W m : ℕ) → 1000000 * 1000000 * (D * D) * N + 4 * (T * T) * (u * u) + m ≡ 4 * (1000000 * 1000000) * W → cone_excess T D (pos u) (pos N) (pos W) ≡ pos m
excess_is T D u N W m e = omega (arith, ints)

squares : (T D u N : ℕ) (z : ℤ) (m : ℕ) → z ≡ pos m → (z *ℤ z) ≤ℤ (pos (16 * 10 ^ 12 * (T * T) * (D * D)) *ℤ ((pos u *ℤ pos u) *ℤ pos N))
    → m * m ≤ 16 * (1000000 * 1000000) * (T * T) * (D * D) * ((u * u) * N)
squares T D u N z m e h = let k = subst (λ (x : ℤ). (x *ℤ x) ≤ℤ (pos (16 * 10 ^ 12 * (T * T) * (D * D)) *ℤ ((pos u *ℤ pos u) *ℤ pos N))) e h in omega (arith, ints, k)

nothing : (z : ℤ) (m : ℕ) → z ≡ pos m → z ≤ℤ pos 0 → m ≡ 0
nothing z m e h = omega (arith, ints)

pub cone_down : (T D u N W : ℕ) → ConeRule T D (pos u) (pos N) (pos W) → Cone T D u N W
cone_down T D u N W rule = λ m e.
    let is = excess_is T D u N W m e in
    ⊎_elim
    (λ l. subst (λ k. k * k ≤ 16 * (1000000 * 1000000) * (T * T) * (D * D) * ((u * u) * N)) (sym (nothing (cone_excess T D (pos u) (pos N) (pos W)) m is l)) (omega arith))
    (λ s. squares T D u N (cone_excess T D (pos u) (pos N) (pos W)) m is s) rule

excess_back : (T D u N W m : ℕ) → pos m ≡ cone_excess T D (pos u) (pos N) (pos W) → 1000000 * 1000000 * (D * D) * N + 4 * (T * T) * (u * u) + m ≡ 4 * (1000000 * 1000000) * W
excess_back T D u N W m e = omega (arith, ints)

cone_case : (T D u N W : ℕ) → Cone T D u N W → (z : ℤ) → z ≡ cone_excess T D (pos u) (pos N) (pos W)
    → (z ≤ℤ pos 0) ⊎ ((z *ℤ z) ≤ℤ (pos (16 * 10 ^ 12 * (T * T) * (D * D)) *ℤ ((pos u *ℤ pos u) *ℤ pos N)))
cone_case T D u N W rule (pos m) e = let s = rule m (excess_back T D u N W m e) in inr (omega (arith, ints, s))
cone_case T D u N W rule (negsuc m) e = inl (omega (arith, ints))

pub cone_up : (T D u N W : ℕ) → Cone T D u N W → ConeRule T D (pos u) (pos N) (pos W)
cone_up T D u N W rule = cone_case T D u N W rule (cone_excess T D (pos u) (pos N) (pos W)) refl
