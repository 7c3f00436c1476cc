-- A motion from a place to the same place is there at all times.
use Rattle.std.proofs.Common.{◌≡◌, ℕ, ◌*◌, ◌<◌, [], ◌∷◌, ℤ, pos, arith, refl, subst, inl, inr, ⊎_elim}
use Rattle.std.proofs.lemmas.Int.{ints}
use Rattle.space.specs.Flanks.{lower_tangent}
use Rattle.space.specs.Sweeps.{IsSweep, axis_at, between, offset, offset_at}
use Rattle.space.proofs.Solver.{add, mul, ring, var}
use Rattle.space.proofs.Terms.{sub}
use Rattle.cutter_slabs.specs.Cutter.{IsCutter}
use Rattle.cutter_slabs.specs.Inside.{IsInside}
use Rattle.cutter_slabs.specs.Meets.{InsideAt, MeetsLower, MeetsUpper}
use Rattle.cutter_slabs.proofs.Writings.{written_back}
use Rattle.laws.specs.UpperReading.{cone, place_between, standing}

-- a place between two ends that are one, and an offset from it, at two times of one denominator
between_one : (a z b f : ℤ) → between a b f f ≡ between z b f f
between_one a z b f =
    let A = var 0 in let Z = var 1 in let B = var 2 in let F = var 3 in
    ring (a ∷ z ∷ b ∷ f ∷ []) (add (mul (sub B A) F) (mul A F)) (add (mul (sub B Z) F) (mul Z F)) refl

offset_one : (a z b p f : ℤ) → offset a b p f f ≡ offset z b p f f
offset_one a z b p f =
    let A = var 0 in let Z = var 1 in let B = var 2 in let P = var 3 in let F = var 4 in
    ring (a ∷ z ∷ b ∷ p ∷ f ∷ [])
    (sub (mul B P) (add (mul (sub B A) F) (mul A F)))
    (sub (mul B P) (add (mul (sub B Z) F) (mul Z F))) refl

three : (a b c x y z : ℤ) → a ≡ x → b ≡ y → c ≡ z → (a ∷ b ∷ c ∷ []) ≡ (x ∷ y ∷ z ∷ [])
three a b c x y z e f g = cc

offsets_one : (a z b : ℕ) → offset_at standing place_between (pos a) (pos b) ≡ offset_at standing place_between (pos z) (pos b)
offsets_one a z b =
    let o : ℕ → ℤ → ℤ = λ t p. offset (pos t) (pos b) p (pos 0) (pos 0) in
    let e : (p : ℤ) → o a p ≡ o z p = λ p. offset_one (pos a) (pos z) (pos b) p (pos 0) in
    three (o a (pos 87602)) (o a (pos 0)) (o a (pos 149999)) (o z (pos 87602)) (o z (pos 0)) (o z (pos 149999)) (e (pos 87602)) (e (pos 0)) (e (pos 149999))

axes_one : (a z b : ℕ) → axis_at standing (pos a) (pos b) ≡ axis_at standing (pos z) (pos b)
axes_one a z b =
    let o : ℕ → ℤ → ℤ = λ t f. between (pos t) (pos b) f f in
    let e : (f : ℤ) → o a f ≡ o z f = λ f. between_one (pos a) (pos z) (pos b) f in
    three (o a (pos 0)) (o a (pos 0)) (o a (pos 100000)) (o z (pos 0)) (o z (pos 0)) (o z (pos 100000)) (e (pos 0)) (e (pos 0)) (e (pos 100000))

pub valid_cone : IsCutter cone
valid_cone = record {
  wide = omega arith;
  width = omega arith;
  corner = omega arith;
  high = omega arith;
  height = omega arith;
  rounded = omega arith;
  angle = refl;
  sharp = inr refl;
  top = omega arith;
  hollow = omega arith;
  plain = inl refl;
}

pub valid_sweep : IsSweep standing
valid_sweep = record {
  from = (omega arith, omega arith, omega arith);
  to = (omega arith, omega arith, omega arith);
  axis_from = (omega arith, omega arith, omega arith);
  axis_to = (omega arith, omega arith, omega arith);
  first_axis = refl;
  last_axis = refl;
  apart = refl;
}

-- the upper cutter holds the place at the start
pub in_upper : MeetsUpper cone standing place_between
in_upper = record {
  numerator = 0;
  denominator = 1;
  time = (omega arith, omega arith);
  inside = record {
    forward = omega (arith, ints);
    above = omega (arith, ints);
    height = omega (arith, ints);
    shape = inr record { leaning = omega arith; cone = inr (omega (arith, ints)) };
  };
}

-- what the cone holds at some time it holds at the start
at_start : (t a b : ℕ) → 0 < b → InsideAt cone t standing place_between a b → InsideAt cone t standing place_between 0 1
at_start t a b some inside =
    let same : b ≡ 1 * b = omega arith in
    written_back cone t standing place_between 0 1 b valid_cone some
    (subst (λ k. InsideAt cone t standing place_between (0 * b) k) same
    (subst (λ o. IsInside cone t b o (axis_at standing (pos (0 * b)) (pos b))) (offsets_one a (0 * b) b)
    (subst (λ x. IsInside cone t b (offset_at standing place_between (pos a) (pos b)) x) (axes_one a (0 * b) b) inside)))

-- the lower cutter doesn't hold it at the start, by numbers alone
not_at_start : InsideAt cone (lower_tangent 30) standing place_between 0 1 → ⊥
not_at_start i =
    ⊎_elim (λ round. let upright = round.upright in absurd (omega (arith, upright)))
    (λ leaning. ⊎_elim (λ l. absurd l.le) (λ s. absurd s.le) leaning.cone) i.shape

pub not_in_lower : MeetsLower cone standing place_between → ⊥
not_in_lower met = not_at_start (at_start (lower_tangent 30) met.numerator met.denominator met.time.0 met.inside)
