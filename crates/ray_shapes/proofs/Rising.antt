-- A value that rises or falls by the slope with each index, and where it is at most a limit.
use Rattle.std.proofs.Common.{◌≡◌, ◌↔◌, ℕ, suc, zero, ◌+◌, ◌-◌, ◌*◌, ◌/◌, ◌<◌, ◌≤◌, ℤ, pos, negsuc, ◌+ℤ◌, ◌-ℤ◌, ◌*ℤ◌, ◌≤ℤ◌, unsigned_abs, Bool, IsTrue, false, FitsSigned, w64, arith, refl, sym, ap, ◌∙◌, subst}
use Rattle.std.proofs.lemmas.Int.{ints, by_lt_z}
use Rattle.space.specs.Ranges.{IsBetween}
use Rattle.std.proofs.Math.IntN.{pos-*ℤ-pos, negsuc-*ℤ-pos}
use native.Mathlib.Decide.{dec_le}
use mathlib.Core.Logic.{dite}
use Rattle.ray_grid.proofs.Distances.{within_is}
use Rattle.ray_shapes.specs.Sizes.{IsTerm}

abs_of : (z : ℤ) → pos 0 ≤ℤ z → pos (unsigned_abs z) ≡ z
abs_of (pos n) h = refl
abs_of (negsuc n) h = absurd (omega (arith, ints))

-- the whole steps between a value and a limit above it
pub steps_fit : (value limit : ℤ) (m k n : ℕ) → value ≤ℤ limit → m ≡ unsigned_abs (limit -ℤ value) → 0 < k → (n ≤ m / k) ↔ ((value +ℤ pos (n * k)) ≤ℤ limit)
steps_fit value limit m k n below size some =
    let far : pos m ≡ limit -ℤ value = ap pos size ∙ abs_of (limit -ℤ value) (omega (arith, ints)) in
    let fit = within_is m k n some in
    (λ p. let q = fit.0 (omega arith) in omega (arith, ints), λ p. let q = fit.1 (omega (arith, ints)) in omega arith)

-- the value j indices later, and j indices before
up : (k l j : ℕ) → (pos k *ℤ pos (l + j)) ≡ (pos k *ℤ pos l) +ℤ pos (j * k)
up k l j = let a = pos-*ℤ-pos k (l + j) in let b = pos-*ℤ-pos k l in omega (arith, ints)

down : (k l j : ℕ) → ((negsuc k *ℤ pos (l + j)) +ℤ pos (j * suc k)) ≡ (negsuc k *ℤ pos l)
down k l j = let a = negsuc-*ℤ-pos k (l + j) in let b = negsuc-*ℤ-pos k l in omega (arith, ints)

-- between two indices at which the value is at most the limit it is so, and between two at which it is not it is not
pub both_within : (start slope limit : ℤ) (a b l : ℕ) → (start +ℤ (slope *ℤ pos a)) ≤ℤ limit → (start +ℤ (slope *ℤ pos b)) ≤ℤ limit → a ≤ l → l ≤ b → (start +ℤ (slope *ℤ pos l)) ≤ℤ limit
both_within start (pos k) limit a b l first last al lb =
    let rise = up k l (b - l) in let same : l + (b - l) ≡ b = omega arith in let z = ap (λ n. pos k *ℤ pos n) same in omega (arith, ints)
both_within start (negsuc k) limit a b l first last al lb =
    let fall = down k a (l - a) in let same : a + (l - a) ≡ l = omega arith in let z = ap (λ n. negsuc k *ℤ pos n) same in omega (arith, ints)

pub both_beyond : (start slope limit : ℤ) (a b l : ℕ) → ¬ ((start +ℤ (slope *ℤ pos a)) ≤ℤ limit) → ¬ ((start +ℤ (slope *ℤ pos b)) ≤ℤ limit) → a ≤ l → l ≤ b → ¬ ((start +ℤ (slope *ℤ pos l)) ≤ℤ limit)
both_beyond start (pos k) limit a b l first last al lb h =
    let rise = up k a (l - a) in let same : a + (l - a) ≡ l = omega arith in let z = ap (λ n. pos k *ℤ pos n) same in first (omega (arith, ints))
both_beyond start (negsuc k) limit a b l first last al lb h =
    let fall = down k l (b - l) in let same : l + (b - l) ≡ b = omega arith in let z = ap (λ n. negsuc k *ℤ pos n) same in last (omega (arith, ints))

steep_pos : (start : ℤ) (k : ℕ) (limit : ℤ) (a b : ℕ) → (start +ℤ (pos k *ℤ pos a)) ≤ℤ limit → ¬ ((start +ℤ (pos k *ℤ pos b)) ≤ℤ limit) → 0 < k
steep_pos start zero limit a b first last = absurd (last (let x = pos-*ℤ-pos 0 a in let y = pos-*ℤ-pos 0 b in omega (arith, ints)))
steep_pos start (suc k) limit a b first last = omega arith

-- a value that begins within the limit and ends beyond it rises: the indices within it are those of the whole steps from the first
pub record Rises (start slope limit : ℤ) (a b steps : ℕ) : Type 0 where
  pub steep : 0 < unsigned_abs slope
  pub inside : ((n : ℕ) → (n ≤ steps) ↔ (((start +ℤ (slope *ℤ pos a)) +ℤ pos (n * unsigned_abs slope)) ≤ℤ limit)) → a + steps < b
  pub exact : ((n : ℕ) → (n ≤ steps) ↔ (((start +ℤ (slope *ℤ pos a)) +ℤ pos (n * unsigned_abs slope)) ≤ℤ limit)) → (l : ℕ) → a ≤ l → (l ≤ a + steps) ↔ ((start +ℤ (slope *ℤ pos l)) ≤ℤ limit)

pub rises : (start slope limit : ℤ) (a b steps : ℕ) → a ≤ b → (start +ℤ (slope *ℤ pos a)) ≤ℤ limit → ¬ ((start +ℤ (slope *ℤ pos b)) ≤ℤ limit) → Rises start slope limit a b steps
rises start (pos k) limit a b steps ab first last =
    let from_a : (l : ℕ) → a ≤ l → (start +ℤ (pos k *ℤ pos l)) ≡ ((start +ℤ (pos k *ℤ pos a)) +ℤ pos ((l - a) * k)) =
    λ l al. let rise = up k a (l - a) in let z = ap (λ n. pos k *ℤ pos n) (let same : a + (l - a) ≡ l = omega arith in same) in omega (arith, ints) in
    record {
      steep = steep_pos start k limit a b first last;
      inside = λ fit. dite (dec_le b (a + steps)) (λ past. absurd (last (subst (λ (z : ℤ). z ≤ℤ limit) (sym (from_a b ab)) ((fit (b - a)).0 (omega arith))))) (λ no. omega arith);
      exact = λ fit l al. (
        λ p. subst (λ (z : ℤ). z ≤ℤ limit) (sym (from_a l al)) ((fit (l - a)).0 (omega arith)),
        λ p. let q = (fit (l - a)).1 (subst (λ (z : ℤ). z ≤ℤ limit) (from_a l al) p) in omega arith,
      );
    }
rises start (negsuc k) limit a b steps ab first last =
    absurd (last (let fall = down k a (b - a) in let z = ap (λ n. negsuc k *ℤ pos n) (let same : a + (b - a) ≡ b = omega arith in same) in omega (arith, ints)))

-- a value that begins beyond the limit and ends within it falls: the indices within it are those of the whole steps before the last
pub record Falls (start slope limit : ℤ) (a b steps : ℕ) : Type 0 where
  pub steep : 0 < unsigned_abs slope
  pub inside : ((n : ℕ) → (n ≤ steps) ↔ (((start +ℤ (slope *ℤ pos b)) +ℤ pos (n * unsigned_abs slope)) ≤ℤ limit)) → a + steps < b
  pub exact : ((n : ℕ) → (n ≤ steps) ↔ (((start +ℤ (slope *ℤ pos b)) +ℤ pos (n * unsigned_abs slope)) ≤ℤ limit)) → (l : ℕ) → l ≤ b → (b ≤ l + steps) ↔ ((start +ℤ (slope *ℤ pos l)) ≤ℤ limit)

pub falls : (start slope limit : ℤ) (a b steps : ℕ) → a ≤ b → ¬ ((start +ℤ (slope *ℤ pos a)) ≤ℤ limit) → (start +ℤ (slope *ℤ pos b)) ≤ℤ limit → Falls start slope limit a b steps
falls start (negsuc k) limit a b steps ab first last =
    let from_b : (l : ℕ) → l ≤ b → (start +ℤ (negsuc k *ℤ pos l)) ≡ ((start +ℤ (negsuc k *ℤ pos b)) +ℤ pos ((b - l) * suc k)) =
    λ l lb. let fall = down k l (b - l) in let z = ap (λ n. negsuc k *ℤ pos n) (let same : l + (b - l) ≡ b = omega arith in same) in omega (arith, ints) in
    record {
      steep = omega arith;
      inside = λ fit. dite (dec_le b (a + steps)) (λ past. absurd (first (subst (λ (z : ℤ). z ≤ℤ limit) (sym (from_b a ab)) ((fit (b - a)).0 (omega arith))))) (λ no. omega arith);
      exact = λ fit l lb. (
        λ p. subst (λ (z : ℤ). z ≤ℤ limit) (sym (from_b l lb)) ((fit (b - l)).0 (omega arith)),
        λ p. let q = (fit (b - l)).1 (subst (λ (z : ℤ). z ≤ℤ limit) (from_b l lb) p) in omega arith,
      );
    }
falls start (pos k) limit a b steps ab first last =
    absurd (first (let rise = up k a (b - a) in let z = ap (λ n. pos k *ℤ pos n) (let same : a + (b - a) ≡ b = omega arith in same) in omega (arith, ints)))

-- what follows from a test that says no
pub told_not : {P : Type 0} (r : Bool) → IsTrue r ↔ P → r ≡ false → ¬ P
told_not r test other h = let yes = test.1 h in cc

pub term_fits : (z : ℤ) → IsTerm z → FitsSigned w64 z
term_fits z t = let low = t.from_least in let high = t.to_most in omega (arith, ints)

pub small_sum : (start rise : ℤ) → IsTerm start → IsTerm rise → IsBetween (negsuc 36028797018963967) (pos 36028797018963968) (start +ℤ rise)
small_sum start rise s r =
    let a = s.from_least in let b = s.to_most in let c = r.from_least in let d = r.to_most in
    record { from_least = omega (arith, ints); to_most = omega (arith, ints) }

-- the way from a small value to a limit that lies before another small value
pub small_way : (x y limit : ℤ) → IsBetween (negsuc 36028797018963967) (pos 36028797018963968) x → IsBetween (negsuc 36028797018963967) (pos 36028797018963968) y → x ≤ℤ limit → ¬ (y ≤ℤ limit) → FitsSigned w64 (limit -ℤ x)
small_way x y limit p q le beyond =
    let a = p.from_least in let b = p.to_most in let c = q.from_least in let d = q.to_most in
    let under : limit ≤ℤ y = by_lt_z y limit (λ lt. absurd (beyond (omega (arith, ints)))) (λ ge. ge) in
    omega (arith, ints)
