-- The exact cutter, over plain numbers: a flat bottom, and a rounded corner with a cylinder above it or a cone.
use Rattle.std.specs.Prelude.{◌≡◌, ℕ, ◌*◌, ◌<◌, ◌⊎◌, ℤ, pos, ◌*ℤ◌, ◌≤ℤ◌, List}
use Rattle.space.specs.Vectors.{dot, spread}
use Rattle.cutter_slabs.specs.Cutter.{CutterSize, flat_of}
use Rattle.cutter_slabs.specs.Corner.{CornerRule}
use Rattle.cutter_slabs.specs.Cone.{ConeRule}

-- under an upright flank: at most d / 2 from the axis, and within the rounded corner
pub record IsWithinRound (c : CutterSize) (b : ℕ) (u n w : ℤ) : Type 0 where
  pub upright : c.flank ≡ 0
  pub side : (pos 4 *ℤ w) ≤ℤ (pos (b * c.d * (b * c.d)) *ℤ n)
  pub corner : CornerRule (b * c.r) (b * flat_of c) u n w

-- under a leaning flank, the tangent of its angle taken as t millionths: within the cone
pub record IsWithinCone (c : CutterSize) (t b : ℕ) (u n w : ℤ) : Type 0 where
  pub leaning : 0 < c.flank
  pub cone : ConeRule t (b * c.d) u n w

-- The cutter, its lengths taken times b and its flank's tangent as t millionths, holds the offset p from the tip under the axis
-- a. With u = p.a, n = |a|^2 and w the squared distance from the axis times n: u >= 0, base^2 n <= u^2 <= h^2 n, and it is within
-- the round or the cone.
pub record IsInside (c : CutterSize) (t b : ℕ) (p a : List ℤ) : Type 0 where
  pub forward : pos 0 ≤ℤ dot p a
  pub above : (pos (b * c.base * (b * c.base)) *ℤ dot a a) ≤ℤ (dot p a *ℤ dot p a)
  pub height : (dot p a *ℤ dot p a) ≤ℤ (pos (b * c.h * (b * c.h)) *ℤ dot a a)
  pub shape : IsWithinRound c b (dot p a) (dot a a) (spread p a) ⊎ IsWithinCone c t b (dot p a) (dot a a) (spread p a)
