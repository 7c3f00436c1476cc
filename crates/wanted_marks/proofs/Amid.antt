-- Between two indices a linear number is between its values there, and a quadratic one that bends upwards is at most the greater.
use Rattle.std.proofs.Common.{◌≡◌, ℕ, suc, ◌-◌, ◌*◌, ◌≤◌, ◌⊎◌, [], ◌∷◌, ℤ, pos, negsuc, ◌+ℤ◌, ◌*ℤ◌, ◌-ℤ◌, ◌≤ℤ◌, ◌<ℤ◌, inl, inr, arith, refl, ⊎_elim, subst, sym}
use Rattle.std.proofs.lemmas.Int.{ints}
use Rattle.std.proofs.Math.Nat.{mul-le-mul}
use Rattle.space.proofs.Solver.{Term, var, num, add, mul, ring}
use Rattle.space.proofs.Terms.{sub}
use Rattle.wanted_marks.specs.Widths.{quadratic}
use Rattle.wanted_marks.proofs.Hulls.{over_by}

-- what is known of a point between two others: it is ahead of the tip, its height is between theirs, and its width is no greater than both
pub record IsAmid (u1 W1 u2 W2 u W : ℤ) : Type 0 where
  pub ahead : pos 0 ≤ℤ u
  pub low : (f : ℤ) → f ≤ℤ (u1 *ℤ u1) → f ≤ℤ (u2 *ℤ u2) → f ≤ℤ (u *ℤ u)
  pub high : (f : ℤ) → (u1 *ℤ u1) ≤ℤ f → (u2 *ℤ u2) ≤ℤ f → (u *ℤ u) ≤ℤ f
  pub narrow : (f : ℤ) → W1 ≤ℤ f → W2 ≤ℤ f → W ≤ℤ f

pub amid_turned : (u1 W1 u2 W2 u W : ℤ) → IsAmid u1 W1 u2 W2 u W → IsAmid u2 W2 u1 W1 u W
amid_turned u1 W1 u2 W2 u W a = record { ahead = a.ahead; low = λ f g h. a.low f h g; high = λ f g h. a.high f h g; narrow = λ f g h. a.narrow f h g }

linear_between : (a w : ℤ) (l x m : ℕ) → l ≤ x → x ≤ m
    → (((a +ℤ pos l *ℤ w) ≤ℤ (a +ℤ pos x *ℤ w)) × ((a +ℤ pos x *ℤ w) ≤ℤ (a +ℤ pos m *ℤ w))) ⊎ (((a +ℤ pos m *ℤ w) ≤ℤ (a +ℤ pos x *ℤ w)) × ((a +ℤ pos x *ℤ w) ≤ℤ (a +ℤ pos l *ℤ w)))
linear_between a (pos n) l x m h k =
    let first : l * n ≤ x * n = mul-le-mul h (omega arith) in let last : x * n ≤ m * n = mul-le-mul k (omega arith) in
    inl (omega (arith, ints, first), omega (arith, ints, last))
linear_between a (negsuc n) l x m h k =
    let first : l * suc n ≤ x * suc n = mul-le-mul h (omega arith) in let last : x * suc n ≤ m * suc n = mul-le-mul k (omega arith) in
    inr (omega (arith, ints, last), omega (arith, ints, first))

square_up : (a b : ℤ) → pos 0 ≤ℤ a → a ≤ℤ b → (a *ℤ a) ≤ℤ (b *ℤ b)
square_up (pos x) (pos y) h k = let l : x ≤ y = omega (arith, ints, k) in let s = mul-le-mul l l in omega (arith, ints, s)
square_up (pos x) (negsuc y) h k = absurd (omega (arith, ints, k))
square_up (negsuc x) b h k = absurd (omega (arith, ints, h))

at_most_of : (a b c : ℤ) → a ≤ℤ b → b ≤ℤ c → a ≤ℤ c
at_most_of a b c h k = omega (arith, ints, h, k)

-- the heights
heights_amid : (u1 u2 u : ℤ) → pos 0 ≤ℤ u1 → pos 0 ≤ℤ u2 → ((u1 ≤ℤ u) × (u ≤ℤ u2)) ⊎ ((u2 ≤ℤ u) × (u ≤ℤ u1))
    → (pos 0 ≤ℤ u) × (((u1 *ℤ u1) ≤ℤ (u *ℤ u)) × ((u *ℤ u) ≤ℤ (u2 *ℤ u2))) ⊎ (pos 0 ≤ℤ u) × (((u2 *ℤ u2) ≤ℤ (u *ℤ u)) × ((u *ℤ u) ≤ℤ (u1 *ℤ u1)))
heights_amid u1 u2 u h k (inl b) = let up = at_most_of (pos 0) u1 u h b.0 in inl (up, (square_up u1 u h b.0, square_up u u2 up b.1))
heights_amid u1 u2 u h k (inr b) = let up = at_most_of (pos 0) u2 u k b.0 in inr (up, (square_up u2 u k b.0, square_up u u1 up b.1))

-- the widths: the quadratic turned upside down is above a limit
upside_down : (a b c l : ℤ) → quadratic (pos 0 -ℤ a) (pos 0 -ℤ b) (pos 0 -ℤ c) l ≡ pos 0 -ℤ quadratic a b c l
upside_down a b c l =
    let A = var 0 in let B = var 1 in let C = var 2 in let L = var 3 in let none = num (pos 0) in
    let q = λ (x y z : Term). add x (mul L (add y (mul L z))) in
    ring (a ∷ b ∷ c ∷ l ∷ []) (q (sub none A) (sub none B) (sub none C)) (sub none (q A B C)) refl

natural_product : (n : ℕ) (c : ℤ) → pos 0 ≤ℤ c → pos 0 ≤ℤ (pos n *ℤ c)
natural_product n (pos k) h = omega (arith, ints)
natural_product n (negsuc k) h = absurd (omega (arith, ints, h))

turned_product : (x c : ℤ) → x *ℤ (pos 0 -ℤ c) ≡ pos 0 -ℤ x *ℤ c
turned_product x c = let X = var 0 in let C = var 1 in let none = num (pos 0) in ring (x ∷ c ∷ []) (mul X (sub none C)) (sub none (mul X C)) refl

none_less : (z : ℤ) → pos 0 ≤ℤ z → (pos 0 -ℤ z) ≤ℤ pos 0
none_less z h = omega (arith, ints, h)

no_more : (n : ℕ) (c : ℤ) → pos 0 ≤ℤ c → (pos n *ℤ (pos 0 -ℤ c)) ≤ℤ pos 0
no_more n c h = subst (λ z. z ≤ℤ pos 0) (sym (turned_product (pos n) c)) (none_less (pos n *ℤ c) (natural_product n c h))

over_limit : (q e : ℤ) → q ≤ℤ e → ((pos 0 -ℤ e) -ℤ pos 1) <ℤ (pos 0 -ℤ q)
over_limit q e h = omega (arith, ints, h)

under_limit : (q e : ℤ) → ((pos 0 -ℤ e) -ℤ pos 1) <ℤ (pos 0 -ℤ q) → q ≤ℤ e
under_limit q e h = omega (arith, ints, h)

bent_less : (q r e bend : ℤ) → bend ≤ℤ pos 0 → q ≤ℤ e → r ≤ℤ e → bend <ℤ (((pos 0 -ℤ q) -ℤ ((pos 0 -ℤ e) -ℤ pos 1)) +ℤ ((pos 0 -ℤ r) -ℤ ((pos 0 -ℤ e) -ℤ pos 1)))
bent_less q r e bend h k l = omega (arith, ints, h, k, l)

pub width_amid : (a b c e : ℤ) (l x m : ℕ) → pos 0 ≤ℤ c → l ≤ x → x ≤ m → quadratic a b c (pos l) ≤ℤ e → quadratic a b c (pos m) ≤ℤ e → quadratic a b c (pos x) ≤ℤ e
width_amid a b c e l x m up h k first last =
    let q = quadratic a b c in let f = pos 0 -ℤ e -ℤ pos 1 in let n = (m - l) * (m - l) in
    under_limit (q (pos x)) e
    (subst (λ z. ((pos 0 -ℤ e) -ℤ pos 1) <ℤ z) (upside_down a b c (pos x))
    (over_by (pos 0 -ℤ a) (pos 0 -ℤ b) (pos 0 -ℤ c) ((pos 0 -ℤ e) -ℤ pos 1) l x m (pos 0 -ℤ q (pos l)) (pos 0 -ℤ q (pos m)) (pos n *ℤ (pos 0 -ℤ c))
    (sym (upside_down a b c (pos l))) (sym (upside_down a b c (pos m))) refl h k (over_limit (q (pos l)) e first) (over_limit (q (pos m)) e last)
    (bent_less (q (pos l)) (q (pos m)) e (pos n *ℤ (pos 0 -ℤ c)) (no_more n c up) first last)))

amid_by : (u1 W1 u2 W2 u W : ℤ) → (pos 0 ≤ℤ u) × (((u1 *ℤ u1) ≤ℤ (u *ℤ u)) × ((u *ℤ u) ≤ℤ (u2 *ℤ u2))) → ((f : ℤ) → W1 ≤ℤ f → W2 ≤ℤ f → W ≤ℤ f) → IsAmid u1 W1 u2 W2 u W
amid_by u1 W1 u2 W2 u W h w = record {
  ahead = h.0;
  low = λ f g k. at_most_of f (u1 *ℤ u1) (u *ℤ u) g h.1.0;
  high = λ f g k. at_most_of (u *ℤ u) (u2 *ℤ u2) f h.1.1 k;
  narrow = w;
}

-- of a linear height and a quadratic width
pub is_amid : (g w a b c : ℤ) (l x m : ℕ) → l ≤ x → x ≤ m → pos 0 ≤ℤ c → pos 0 ≤ℤ (g +ℤ pos l *ℤ w) → pos 0 ≤ℤ (g +ℤ pos m *ℤ w)
    → IsAmid (g +ℤ pos l *ℤ w) (quadratic a b c (pos l)) (g +ℤ pos m *ℤ w) (quadratic a b c (pos m)) (g +ℤ pos x *ℤ w) (quadratic a b c (pos x))
is_amid g w a b c l x m h k up first last =
    let u1 = g +ℤ pos l *ℤ w in let u2 = g +ℤ pos m *ℤ w in let u = g +ℤ pos x *ℤ w in
    let W1 = quadratic a b c (pos l) in let W2 = quadratic a b c (pos m) in let W = quadratic a b c (pos x) in
    ⊎_elim
    (λ d. amid_by u1 W1 u2 W2 u W d (λ f p q. width_amid a b c f l x m up h k p q))
    (λ d. amid_turned u2 W2 u1 W1 u W (amid_by u2 W2 u1 W1 u W d (λ f p q. width_amid a b c f l x m up h k q p)))
    (heights_amid u1 u2 u first last (linear_between g w l x m h k))
