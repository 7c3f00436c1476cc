-- Numbers of the tests that fit.
use Rattle.std.proofs.Common.{◌≡◌, ℕ, ◌+◌, ◌*◌, ◌≤◌, [], ◌∷◌, List, ℤ, pos, ◌+ℤ◌, ◌*ℤ◌, unsigned_abs, FitsSigned, arith, refl}
use Rattle.std.proofs.lemmas.Int.{ints}
use mir.Syntax.{w64, w128}
use Rattle.space.specs.Vectors.{at}
use Rattle.space.proofs.Facts.{fits128}
use Rattle.space.proofs.Naturals.{abs_add, abs_mul}
use Rattle.space.proofs.Solver.{Term, add, mul, num, ring}
use Rattle.space.proofs.Terms.{from}
use Rattle.bern_form.specs.Forms.{lifted, product22}
use Rattle.bern_form.specs.Sizes.{IsBounded2, axis_limit}
use Rattle.width_bisect.specs.Sizes.{height_limit}
use Rattle.width_bisect.proofs.Same.{same5}
use Rattle.width_bisect.proofs.Shifting.{fits64}

-- u^2
pub record HeightFits (a b c : ℤ) : Type 0 where
  pub second : FitsSigned w128 (pos 2 *ℤ (a *ℤ b))
  pub ends : FitsSigned w128 (pos 2 *ℤ (a *ℤ c))
  pub middle : FitsSigned w128 (pos 2 *ℤ (a *ℤ c) +ℤ b *ℤ b)
  pub fourth : FitsSigned w128 (pos 2 *ℤ (b *ℤ c))

twice_small : (a b : ℤ) (m n : ℕ) → unsigned_abs a ≤ m → unsigned_abs b ≤ n → unsigned_abs (pos 2 *ℤ (a *ℤ b)) ≤ 2 * (m * n)
twice_small a b m n h k = abs_mul (pos 2) (a *ℤ b) 2 (m * n) (omega arith) (abs_mul a b m n h k)

pub height_fits : (a b c : ℤ) → unsigned_abs a ≤ height_limit → unsigned_abs b ≤ 2 * height_limit → unsigned_abs c ≤ height_limit → HeightFits a b c
height_fits a b c h k l =
    let ends = twice_small a c height_limit height_limit h l in
    let square = abs_mul b b (2 * height_limit) (2 * height_limit) k k in
    let sum = abs_add (pos 2 *ℤ (a *ℤ c)) (b *ℤ b) in record {
      second = fits128 (pos 2 *ℤ (a *ℤ b)) (2 * (height_limit * (2 * height_limit))) (twice_small a b height_limit (2 * height_limit) h k) (omega arith);
      ends = fits128 (pos 2 *ℤ (a *ℤ c)) (2 * (height_limit * height_limit)) ends (omega arith);
      middle = fits128 (pos 2 *ℤ (a *ℤ c) +ℤ b *ℤ b) (2 * (height_limit * height_limit) + 2 * height_limit * (2 * height_limit)) (omega (arith, sum, ends, square)) (omega arith);
      fourth = fits128 (pos 2 *ℤ (b *ℤ c)) (2 * (2 * height_limit * height_limit)) (twice_small b c (2 * height_limit) height_limit k l) (omega arith);
    }

-- n raised to degree 4
pub record RaisedFits (a b c : ℤ) : Type 0 where
  pub first : FitsSigned w64 (pos 2 *ℤ a)
  pub second : FitsSigned w64 (pos 2 *ℤ a +ℤ b)
  pub twice : FitsSigned w64 (pos 2 *ℤ b)
  pub two : FitsSigned w64 (a +ℤ pos 2 *ℤ b)
  pub middle : FitsSigned w64 ((a +ℤ pos 2 *ℤ b) +ℤ c)
  pub last : FitsSigned w64 (pos 2 *ℤ c)
  pub fourth : FitsSigned w64 (b +ℤ pos 2 *ℤ c)

pub raised_fits : (a b c : ℤ) → unsigned_abs a ≤ 3 * (axis_limit * axis_limit) → unsigned_abs b ≤ 2 * (3 * (axis_limit * axis_limit)) → unsigned_abs c ≤ 3 * (axis_limit * axis_limit)
    → RaisedFits a b c
raised_fits a b c h k l =
    let m = 3 * (axis_limit * axis_limit) in
    let x = abs_mul (pos 2) a 2 m (omega arith) h in let y = abs_mul (pos 2) b 2 (2 * m) (omega arith) k in let z = abs_mul (pos 2) c 2 m (omega arith) l in
    let s = abs_add (pos 2 *ℤ a) b in let t = abs_add a (pos 2 *ℤ b) in let v = abs_add (a +ℤ pos 2 *ℤ b) c in let w = abs_add b (pos 2 *ℤ c) in record {
      first = fits64 (pos 2 *ℤ a) (2 * m) x (omega arith);
      second = fits64 (pos 2 *ℤ a +ℤ b) (4 * m) (omega (arith, s, x, k)) (omega arith);
      twice = fits64 (pos 2 *ℤ b) (4 * m) (omega (arith, y)) (omega arith);
      two = fits64 (a +ℤ pos 2 *ℤ b) (5 * m) (omega (arith, t, h, y)) (omega arith);
      middle = fits64 ((a +ℤ pos 2 *ℤ b) +ℤ c) (6 * m) (omega (arith, v, t, h, y, l)) (omega arith);
      last = fits64 (pos 2 *ℤ c) (2 * m) z (omega arith);
      fourth = fits64 (b +ℤ pos 2 *ℤ c) (4 * m) (omega (arith, w, k, z)) (omega arith);
    }

-- and as it is computed
pub raised_is : (n : List ℤ) → at n 0 ∷ (pos 2 *ℤ at n 0 +ℤ at n 1) ∷ ((at n 0 +ℤ pos 2 *ℤ at n 1) +ℤ at n 2) ∷ (at n 1 +ℤ pos 2 *ℤ at n 2) ∷ at n 2 ∷ [] ≡ lifted n
raised_is n =
    let a = at n 0 in let b = at n 1 in let c = at n 2 in
    same5 _ _ _ _ _ _ _ _ _ _ (omega (arith, ints)) (omega (arith, ints)) (omega (arith, ints)) (omega (arith, ints)) (omega (arith, ints))

pub height_is : (u : List ℤ) → (at u 0 *ℤ at u 0) ∷ (pos 2 *ℤ (at u 0 *ℤ at u 1)) ∷ (pos 2 *ℤ (at u 0 *ℤ at u 2) +ℤ at u 1 *ℤ at u 1) ∷ (pos 2 *ℤ (at u 1 *ℤ at u 2)) ∷ (at u 2 *ℤ at u 2) ∷ []
    ≡ product22 u u
height_is u =
    let A = from 0 in let e = at u 0 ∷ at u 1 ∷ at u 2 ∷ [] in let two = λ (t : Term). mul (num (pos 2)) t in
    same5 _ _ _ _ _ _ _ _ _ _ refl
    (ring e (two (mul (A 0) (A 1))) (add (mul (A 0) (A 1)) (mul (A 1) (A 0))) refl)
    (ring e (add (two (mul (A 0) (A 2))) (mul (A 1) (A 1))) (add (add (mul (A 0) (A 2)) (mul (A 1) (A 1))) (mul (A 2) (A 0))) refl)
    (ring e (two (mul (A 1) (A 2))) (add (mul (A 1) (A 2)) (mul (A 2) (A 1))) refl) refl

-- a form of degree 2 in 64 bits
pub record FormFits (c : List ℤ) : Type 0 where
  pub first : FitsSigned w64 (at c 0)
  pub middle : FitsSigned w64 (at c 1)
  pub last : FitsSigned w64 (at c 2)

pub height_form_fits : (c : List ℤ) → IsBounded2 height_limit c → FormFits c
height_form_fits c h = record {
  first = fits64 (at c 0) height_limit h.first (omega arith);
  middle = fits64 (at c 1) (2 * height_limit) h.middle (omega arith);
  last = fits64 (at c 2) height_limit h.last (omega arith);
}

pub axis_form_fits : (c : List ℤ) → IsBounded2 (3 * (axis_limit * axis_limit)) c → FormFits c
axis_form_fits c h = record {
  first = fits64 (at c 0) (3 * (axis_limit * axis_limit)) h.first (omega arith);
  middle = fits64 (at c 1) (2 * (3 * (axis_limit * axis_limit))) h.middle (omega arith);
  last = fits64 (at c 2) (3 * (axis_limit * axis_limit)) h.last (omega arith);
}
