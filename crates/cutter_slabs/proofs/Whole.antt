-- The exact cutter over whole numbers is that over natural ones, since n and w are not below 0.
use Rattle.std.proofs.Common.{◌≡◌, ℕ, ◌*◌, ◌≤◌, ◌<◌, List, ℤ, pos, ◌*ℤ◌, ◌≤ℤ◌, arith, sym, subst, inl, inr}
use Rattle.std.proofs.lemmas.Int.{ints}
use Rattle.space.specs.Vectors.{dot, spread}
use Rattle.cutter_slabs.specs.Cone.{ConeRule}
use Rattle.cutter_slabs.specs.Corner.{CornerRule}
use Rattle.cutter_slabs.specs.Cutter.{CutterSize, IsCutter, flat_of}
use Rattle.cutter_slabs.specs.Inside.{IsInside, IsWithinCone, IsWithinRound}
use Rattle.cutter_slabs.proofs.Cones.{InCone, cone_down, cone_up}
use Rattle.cutter_slabs.proofs.Places.{Place, from_naturals, to_naturals}
use Rattle.cutter_slabs.proofs.Round.{InRound, IsAbove, full}
use Rattle.cutter_slabs.proofs.Rules.{corner_down, corner_up}

-- the height, both ways
abbrev Below : ℕ → ℤ → ℤ → Type 0
Below h u n = (u *ℤ u) ≤ℤ (pos (h * h) *ℤ n)

height_down : (h u n : ℕ) → Below h (pos u) (pos n) → u * u ≤ (h * h) * n
height_down h u n l = omega (arith, ints, l)

height_up : (h u n : ℕ) → u * u ≤ (h * h) * n → Below h (pos u) (pos n)
height_up h u n l = omega (arith, ints, l)

-- the base, both ways
abbrev Above : ℕ → ℤ → ℤ → Type 0
Above h u n = (pos (h * h) *ℤ n) ≤ℤ (u *ℤ u)

base_down : (h u n : ℕ) → Above h (pos u) (pos n) → (h * h) * n ≤ u * u
base_down h u n l = omega (arith, ints, l)

base_up : (h u n : ℕ) → (h * h) * n ≤ u * u → Above h (pos u) (pos n)
base_up h u n l = omega (arith, ints, l)

pub above_down : (c : CutterSize) (b : ℕ) (p a : List ℤ) (x : Place p a) → Above (b * c.base) (dot p a) (dot a a) → IsAbove c b x.u x.n
above_down c b p a x h = base_down (b * c.base) x.u x.n (to_naturals (λ u n w. Above (b * c.base) u n) p a x h)

pub above_up : (c : CutterSize) (b : ℕ) (p a : List ℤ) (x : Place p a) → IsAbove c b x.u x.n → Above (b * c.base) (dot p a) (dot a a)
above_up c b p a x h = from_naturals (λ u n w. Above (b * c.base) u n) p a x (base_up (b * c.base) x.u x.n h)

-- the side, both ways
side_down : (d u n w : ℕ) → (pos 4 *ℤ pos w) ≤ℤ (pos (d * d) *ℤ pos n) → 4 * w ≤ (d * d) * n
side_down d u n w l = omega (arith, ints, l)

side_up : (d u n w : ℕ) → 4 * w ≤ (d * d) * n → (pos 4 *ℤ pos w) ≤ℤ (pos (d * d) *ℤ pos n)
side_up d u n w l = omega (arith, ints, l)

pub round_down : (c : CutterSize) (b : ℕ) (p a : List ℤ) (x : Place p a) → IsCutter c → Below (b * c.h) (dot p a) (dot a a)
    → IsWithinRound c b (dot p a) (dot a a) (spread p a) → InRound c b x.u x.n x.w
round_down c b p a x valid high within =
    let E = b * flat_of c in let R = b * c.r in
    let side = side_down (b * c.d) x.u x.n x.w (to_naturals (λ u n w. (pos 4 *ℤ w) ≤ℤ (pos (b * c.d * (b * c.d)) *ℤ n)) p a x within.side) in record {
      height = height_down (b * c.h) x.u x.n (to_naturals (λ u n w. Below (b * c.h) u n) p a x high);
      side = subst (λ k. 4 * x.w ≤ (k * k) * x.n) (full c b valid) side;
      corner = corner_down R E x.u x.n x.w (to_naturals (λ u n w. CornerRule R E u n w) p a x within.corner);
    }

pub round_up : (c : CutterSize) (t b : ℕ) (p a : List ℤ) (x : Place p a) → IsCutter c → c.flank ≡ 0 → pos 0 ≤ℤ dot p a → IsAbove c b x.u x.n → InRound c b x.u x.n x.w → IsInside c t b p a
round_up c t b p a x valid upright forward above inside =
    let side = subst (λ k. 4 * x.w ≤ (k * k) * x.n) (sym (full c b valid)) inside.side in record {
      forward = forward;
      above = above_up c b p a x above;
      height = from_naturals (λ u n w. Below (b * c.h) u n) p a x (height_up (b * c.h) x.u x.n inside.height);
      shape = inl record {
        upright = upright;
        side = from_naturals (λ u n w. (pos 4 *ℤ w) ≤ℤ (pos (b * c.d * (b * c.d)) *ℤ n)) p a x (side_up (b * c.d) x.u x.n x.w side);
        corner = from_naturals (λ u n w. CornerRule (b * c.r) (b * flat_of c) u n w) p a x (corner_up (b * c.r) (b * flat_of c) x.u x.n x.w inside.corner);
      };
    }

pub leaning_down : (c : CutterSize) (t b : ℕ) (p a : List ℤ) (x : Place p a) → Below (b * c.h) (dot p a) (dot a a)
    → IsWithinCone c t b (dot p a) (dot a a) (spread p a) → InCone t (b * c.d) (b * c.h) x.u x.n x.w
leaning_down c t b p a x high within = record {
  height = height_down (b * c.h) x.u x.n (to_naturals (λ u n w. Below (b * c.h) u n) p a x high);
  cone = cone_down t (b * c.d) x.u x.n x.w (to_naturals (λ u n w. ConeRule t (b * c.d) u n w) p a x within.cone);
}

pub leaning_up : (c : CutterSize) (t b : ℕ) (p a : List ℤ) (x : Place p a) → 0 < c.flank → pos 0 ≤ℤ dot p a → IsAbove c b x.u x.n → InCone t (b * c.d) (b * c.h) x.u x.n x.w → IsInside c t b p a
leaning_up c t b p a x leaning forward above inside = record {
  forward = forward;
  above = above_up c b p a x above;
  height = from_naturals (λ u n w. Below (b * c.h) u n) p a x (height_up (b * c.h) x.u x.n inside.height);
  shape = inr record { leaning = leaning; cone = from_naturals (λ u n w. ConeRule t (b * c.d) u n w) p a x (cone_up t (b * c.d) x.u x.n x.w inside.cone) };
}
