-- A strict common sign of a form's coefficients on a part of a move is their sign on each half of it.
use Rattle.std.proofs.Common.{◌≡◌, ℕ, zero, suc, ◌≤◌, [], ◌∷◌, List, length, ℤ, pos, ◌+ℤ◌, ◌*ℤ◌, ◌-ℤ◌, ◌<ℤ◌, arith, refl}
use Rattle.std.proofs.lemmas.Int.{ints}
use Rattle.std.specs.List.{All}
use Rattle.space.specs.Vectors.{at}
use Rattle.space.proofs.Solver.{Term, var, num, add, mul, ring}
use Rattle.space.proofs.Terms.{from, sub}
use Rattle.bern_form.specs.Between.{height_less, width_less}
use Rattle.bern_form.proofs.Halves.{whole_of_first, whole_of_last}
use Rattle.bern_form.proofs.Relations.{AllNegative, AllPositive}

-- the coefficients of a form, one by one
abbrev pub three : List ℤ → List ℤ
three h = at h 0 ∷ at h 1 ∷ at h 2 ∷ []

abbrev pub five : List ℤ → List ℤ
five h = at h 0 ∷ at h 1 ∷ at h 2 ∷ at h 3 ∷ at h 4 ∷ []

pub all_three : (P : ℤ → Type 0) (a b c : ℤ) → P a → P b → P c → All P (a ∷ b ∷ c ∷ [])
all_three P a b c h0 h1 h2 zero d l = h0
all_three P a b c h0 h1 h2 (suc zero) d l = h1
all_three P a b c h0 h1 h2 (suc (suc zero)) d l = h2
all_three P a b c h0 h1 h2 (suc (suc (suc k))) d l = absurd (omega arith)

pub all_five : (P : ℤ → Type 0) (a b c e f : ℤ) → P a → P b → P c → P e → P f → All P (a ∷ b ∷ c ∷ e ∷ f ∷ [])
all_five P a b c e f h0 h1 h2 h3 h4 zero d l = h0
all_five P a b c e f h0 h1 h2 h3 h4 (suc zero) d l = h1
all_five P a b c e f h0 h1 h2 h3 h4 (suc (suc zero)) d l = h2
all_five P a b c e f h0 h1 h2 h3 h4 (suc (suc (suc zero))) d l = h3
all_five P a b c e f h0 h1 h2 h3 h4 (suc (suc (suc (suc zero)))) d l = h4
all_five P a b c e f h0 h1 h2 h3 h4 (suc (suc (suc (suc (suc k))))) d l = absurd (omega arith)

-- degree 2
first_negative_of : (a b c : ℤ) → a <ℤ pos 0 → (pos 2 *ℤ b -ℤ pos 2 *ℤ a) <ℤ pos 0 → ((a -ℤ pos 2 *ℤ b) +ℤ pos 4 *ℤ c) <ℤ pos 0 → AllNegative (a ∷ b ∷ c ∷ [])
first_negative_of a b c h0 h1 h2 = all_three (λ z. z <ℤ pos 0) a b c h0 (omega (arith, ints)) (omega (arith, ints))

last_negative_of : (a b c : ℤ) → ((pos 4 *ℤ a -ℤ pos 2 *ℤ b) +ℤ c) <ℤ pos 0 → (pos 2 *ℤ b -ℤ pos 2 *ℤ c) <ℤ pos 0 → c <ℤ pos 0 → AllNegative (a ∷ b ∷ c ∷ [])
last_negative_of a b c h0 h1 h2 = all_three (λ z. z <ℤ pos 0) a b c (omega (arith, ints)) (omega (arith, ints)) h2

pub first_negative : (h : List ℤ) → AllNegative (whole_of_first h) → AllNegative (three h)
first_negative h n = first_negative_of (at h 0) (at h 1) (at h 2) (n 0 (pos 0) (omega arith)) (n 1 (pos 0) (omega arith)) (n 2 (pos 0) (omega arith))

pub last_negative : (h : List ℤ) → AllNegative (whole_of_last h) → AllNegative (three h)
last_negative h n = last_negative_of (at h 0) (at h 1) (at h 2) (n 0 (pos 0) (omega arith)) (n 1 (pos 0) (omega arith)) (n 2 (pos 0) (omega arith))

-- degree 4: sixteen times the coefficients x of a half are these sums of the whole's coefficients c
pub record IsFirstOf (c x : List ℤ) : Type 0 where
  pub e0 : pos 16 *ℤ at x 0 ≡ pos 16 *ℤ at c 0
  pub e1 : pos 16 *ℤ at x 1 ≡ pos 32 *ℤ at c 0 +ℤ pos 8 *ℤ at c 1
  pub e2 : pos 16 *ℤ at x 2 ≡ (pos 24 *ℤ at c 0 +ℤ pos 12 *ℤ at c 1) +ℤ pos 4 *ℤ at c 2
  pub e3 : pos 16 *ℤ at x 3 ≡ ((pos 8 *ℤ at c 0 +ℤ pos 6 *ℤ at c 1) +ℤ pos 4 *ℤ at c 2) +ℤ pos 2 *ℤ at c 3
  pub e4 : pos 16 *ℤ at x 4 ≡ (((at c 0 +ℤ at c 1) +ℤ at c 2) +ℤ at c 3) +ℤ at c 4

pub record IsLastOf (c x : List ℤ) : Type 0 where
  pub e0 : pos 16 *ℤ at x 0 ≡ (((at c 0 +ℤ at c 1) +ℤ at c 2) +ℤ at c 3) +ℤ at c 4
  pub e1 : pos 16 *ℤ at x 1 ≡ ((pos 2 *ℤ at c 1 +ℤ pos 4 *ℤ at c 2) +ℤ pos 6 *ℤ at c 3) +ℤ pos 8 *ℤ at c 4
  pub e2 : pos 16 *ℤ at x 2 ≡ (pos 4 *ℤ at c 2 +ℤ pos 12 *ℤ at c 3) +ℤ pos 24 *ℤ at c 4
  pub e3 : pos 16 *ℤ at x 3 ≡ pos 8 *ℤ at c 3 +ℤ pos 32 *ℤ at c 4
  pub e4 : pos 16 *ℤ at x 4 ≡ pos 16 *ℤ at c 4

pub first_positive4 : (c x : List ℤ) → 5 ≤ length c → IsFirstOf c x → AllPositive c → AllPositive (five x)
first_positive4 c x long i p =
    let p0 = p 0 (pos 0) (omega arith) in let p1 = p 1 (pos 0) (omega arith) in let p2 = p 2 (pos 0) (omega arith) in let p3 = p 3 (pos 0) (omega arith) in let p4 = p 4 (pos 0) (omega arith) in
    all_five (λ z. pos 0 <ℤ z) (at x 0) (at x 1) (at x 2) (at x 3) (at x 4)
    (omega (arith, ints, i.e0, p0)) (omega (arith, ints, i.e1, p0, p1)) (omega (arith, ints, i.e2, p0, p1, p2)) (omega (arith, ints, i.e3, p0, p1, p2, p3)) (omega (arith, ints, i.e4, p0, p1, p2, p3, p4))

pub first_negative4 : (c x : List ℤ) → 5 ≤ length c → IsFirstOf c x → AllNegative c → AllNegative (five x)
first_negative4 c x long i p =
    let p0 = p 0 (pos 0) (omega arith) in let p1 = p 1 (pos 0) (omega arith) in let p2 = p 2 (pos 0) (omega arith) in let p3 = p 3 (pos 0) (omega arith) in let p4 = p 4 (pos 0) (omega arith) in
    all_five (λ z. z <ℤ pos 0) (at x 0) (at x 1) (at x 2) (at x 3) (at x 4)
    (omega (arith, ints, i.e0, p0)) (omega (arith, ints, i.e1, p0, p1)) (omega (arith, ints, i.e2, p0, p1, p2)) (omega (arith, ints, i.e3, p0, p1, p2, p3)) (omega (arith, ints, i.e4, p0, p1, p2, p3, p4))

pub last_positive4 : (c x : List ℤ) → 5 ≤ length c → IsLastOf c x → AllPositive c → AllPositive (five x)
last_positive4 c x long i p =
    let p0 = p 0 (pos 0) (omega arith) in let p1 = p 1 (pos 0) (omega arith) in let p2 = p 2 (pos 0) (omega arith) in let p3 = p 3 (pos 0) (omega arith) in let p4 = p 4 (pos 0) (omega arith) in
    all_five (λ z. pos 0 <ℤ z) (at x 0) (at x 1) (at x 2) (at x 3) (at x 4)
    (omega (arith, ints, i.e0, p0, p1, p2, p3, p4)) (omega (arith, ints, i.e1, p1, p2, p3, p4)) (omega (arith, ints, i.e2, p2, p3, p4)) (omega (arith, ints, i.e3, p3, p4)) (omega (arith, ints, i.e4, p4))

pub last_negative4 : (c x : List ℤ) → 5 ≤ length c → IsLastOf c x → AllNegative c → AllNegative (five x)
last_negative4 c x long i p =
    let p0 = p 0 (pos 0) (omega arith) in let p1 = p 1 (pos 0) (omega arith) in let p2 = p 2 (pos 0) (omega arith) in let p3 = p 3 (pos 0) (omega arith) in let p4 = p 4 (pos 0) (omega arith) in
    all_five (λ z. z <ℤ pos 0) (at x 0) (at x 1) (at x 2) (at x 3) (at x 4)
    (omega (arith, ints, i.e0, p0, p1, p2, p3, p4)) (omega (arith, ints, i.e1, p1, p2, p3, p4)) (omega (arith, ints, i.e2, p2, p3, p4)) (omega (arith, ints, i.e3, p3, p4)) (omega (arith, ints, i.e4, p4))

-- terms: forms by their coefficients
abbrev times : ℕ → Term → Term
times k t = mul (num (pos k)) t

abbrev ones : ℕ → Term
ones zero = num (pos 1)
ones (suc zero) = num (pos 2)
ones (suc (suc k)) = num (pos 1)

abbrev conv : (ℕ → Term) → (ℕ → Term) → ℕ → Term
conv a b zero = mul (a 0) (b 0)
conv a b (suc zero) = add (mul (a 0) (b 1)) (mul (a 1) (b 0))
conv a b (suc (suc zero)) = add (add (mul (a 0) (b 2)) (mul (a 1) (b 1))) (mul (a 2) (b 0))
conv a b (suc (suc (suc zero))) = add (mul (a 1) (b 2)) (mul (a 2) (b 1))
conv a b (suc (suc (suc (suc k)))) = mul (a 2) (b 2)

abbrev scaled : Term → (ℕ → Term) → ℕ → Term
scaled f a k = mul f (a k)

abbrev height : Term → (ℕ → Term) → (ℕ → Term) → ℕ → Term
height f u n k = sub (conv u u k) (conv (scaled f n) ones k)

abbrev width : Term → (ℕ → Term) → (ℕ → Term) → (ℕ → Term) → ℕ → Term
width f u n d k = sub (times 4 (sub (conv d n k) (conv u u k))) (conv (scaled f n) ones k)

abbrev of_first : (ℕ → Term) → ℕ → Term
of_first h zero = h 0
of_first h (suc zero) = sub (times 2 (h 1)) (times 2 (h 0))
of_first h (suc (suc k)) = add (sub (h 0) (times 2 (h 1))) (times 4 (h 2))

abbrev of_last : (ℕ → Term) → ℕ → Term
of_last h zero = add (sub (times 4 (h 0)) (times 2 (h 1))) (h 2)
of_last h (suc zero) = sub (times 2 (h 1)) (times 2 (h 2))
of_last h (suc (suc k)) = h 2

abbrev first4 : (ℕ → Term) → ℕ → Term
first4 c zero = times 16 (c 0)
first4 c (suc zero) = add (times 32 (c 0)) (times 8 (c 1))
first4 c (suc (suc zero)) = add (add (times 24 (c 0)) (times 12 (c 1))) (times 4 (c 2))
first4 c (suc (suc (suc zero))) = add (add (add (times 8 (c 0)) (times 6 (c 1))) (times 4 (c 2))) (times 2 (c 3))
first4 c (suc (suc (suc (suc k)))) = add (add (add (add (c 0) (c 1)) (c 2)) (c 3)) (c 4)

abbrev last4 : (ℕ → Term) → ℕ → Term
last4 c zero = add (add (add (add (c 0) (c 1)) (c 2)) (c 3)) (c 4)
last4 c (suc zero) = add (add (add (times 2 (c 1)) (times 4 (c 2))) (times 6 (c 3))) (times 8 (c 4))
last4 c (suc (suc zero)) = add (add (times 4 (c 2)) (times 12 (c 3))) (times 24 (c 4))
last4 c (suc (suc (suc zero))) = add (times 8 (c 3)) (times 32 (c 4))
last4 c (suc (suc (suc (suc k)))) = times 16 (c 4)

abbrev nine : ℤ → List ℤ → List ℤ → List ℤ → List ℤ
nine f u n d = at u 0 ∷ at u 1 ∷ at u 2 ∷ at n 0 ∷ at n 1 ∷ at n 2 ∷ at d 0 ∷ at d 1 ∷ at d 2 ∷ f ∷ []

pub height_first : (f : ℤ) (u n : List ℤ) → IsFirstOf (height_less f (whole_of_first u) (whole_of_first n)) (height_less f u n)
height_first f u n =
    let e = nine f u n [] in let F = var 9 in
    let c = height F (of_first (from 0)) (of_first (from 3)) in let x = height F (from 0) (from 3) in
    record {
      e0 = ring e (times 16 (x 0)) (first4 c 0) refl;
      e1 = ring e (times 16 (x 1)) (first4 c 1) refl;
      e2 = ring e (times 16 (x 2)) (first4 c 2) refl;
      e3 = ring e (times 16 (x 3)) (first4 c 3) refl;
      e4 = ring e (times 16 (x 4)) (first4 c 4) refl;
    }

pub height_last : (f : ℤ) (u n : List ℤ) → IsLastOf (height_less f (whole_of_last u) (whole_of_last n)) (height_less f u n)
height_last f u n =
    let e = nine f u n [] in let F = var 9 in
    let c = height F (of_last (from 0)) (of_last (from 3)) in let x = height F (from 0) (from 3) in
    record {
      e0 = ring e (times 16 (x 0)) (last4 c 0) refl;
      e1 = ring e (times 16 (x 1)) (last4 c 1) refl;
      e2 = ring e (times 16 (x 2)) (last4 c 2) refl;
      e3 = ring e (times 16 (x 3)) (last4 c 3) refl;
      e4 = ring e (times 16 (x 4)) (last4 c 4) refl;
    }

pub width_first : (f : ℤ) (u n d : List ℤ) → IsFirstOf (width_less f (whole_of_first u) (whole_of_first n) (whole_of_first d)) (width_less f u n d)
width_first f u n d =
    let e = nine f u n d in let F = var 9 in
    let c = width F (of_first (from 0)) (of_first (from 3)) (of_first (from 6)) in let x = width F (from 0) (from 3) (from 6) in
    record {
      e0 = ring e (times 16 (x 0)) (first4 c 0) refl;
      e1 = ring e (times 16 (x 1)) (first4 c 1) refl;
      e2 = ring e (times 16 (x 2)) (first4 c 2) refl;
      e3 = ring e (times 16 (x 3)) (first4 c 3) refl;
      e4 = ring e (times 16 (x 4)) (first4 c 4) refl;
    }

pub width_last : (f : ℤ) (u n d : List ℤ) → IsLastOf (width_less f (whole_of_last u) (whole_of_last n) (whole_of_last d)) (width_less f u n d)
width_last f u n d =
    let e = nine f u n d in let F = var 9 in
    let c = width F (of_last (from 0)) (of_last (from 3)) (of_last (from 6)) in let x = width F (from 0) (from 3) (from 6) in
    record {
      e0 = ring e (times 16 (x 0)) (last4 c 0) refl;
      e1 = ring e (times 16 (x 1)) (last4 c 1) refl;
      e2 = ring e (times 16 (x 2)) (last4 c 2) refl;
      e3 = ring e (times 16 (x 3)) (last4 c 3) refl;
      e4 = ring e (times 16 (x 4)) (last4 c 4) refl;
    }
