-- Laws of the exact cutter, by which a reader can check that its definition says what it is meant to say.
use Rattle.std.specs.Prelude.{◌≡◌, ℕ, ◌+◌, ◌*◌, ◌^◌, ◌≤◌, ◌<◌, ◌↔◌, ◌⊎◌, ℤ, pos, negsuc, ◌*ℤ◌, ◌≤ℤ◌, ◌<ℤ◌, List, [], ◌∷◌, true, false}
use Rattle.space.specs.Flanks.{lower_tangent, upper_tangent}
use Rattle.space.specs.Sweeps.{SweepOf}
use Rattle.space.specs.Vectors.{dot, is_zero, spread}
use Rattle.cutter_slabs.specs.Cutter.{CutterSize, IsCutter}
use Rattle.cutter_slabs.specs.Corner.{CornerRule, IsWithinCorner}
use Rattle.cutter_slabs.specs.Cone.{ConeRule}
use Rattle.cutter_slabs.specs.Inside.{IsInside, IsWithinCone, IsWithinRound}
use Rattle.cutter_slabs.specs.Meets.{InLowerAt, InUpperAt, InsideAt}

-- the lower cutter lies in the upper one
abbrev pub LowerIsInUpper : Type 0
LowerIsInUpper = (c : CutterSize) (m : SweepOf) (p : List ℤ) (a b : ℕ) → InLowerAt c m p a b → InUpperAt c m p a b

-- where the flank is upright or leans by 45 degrees they are one cutter, since its tangent, 0 or 1, is a whole number of millionths
abbrev pub UpperIsLower : Type 0
UpperIsLower =
    (c : CutterSize) (m : SweepOf) (p : List ℤ) (a b : ℕ)
    → (c.flank ≡ 0) ⊎ (c.flank ≡ 45) → InUpperAt c m p a b → InLowerAt c m p a b

-- a cutter holds a point at a time however the time is written: a / b is a k / b k
abbrev pub AnyWritingOfTime : Type 0
AnyWritingOfTime =
    (c : CutterSize) (t : ℕ) (m : SweepOf) (p : List ℤ) (a b k : ℕ)
    → IsCutter c → 0 < k → InsideAt c t m p a b ↔ InsideAt c t m p (a * k) (b * k)

-- a place in the cutter where no base is asked of it
pub record IsInsideFromTip (c : CutterSize) (t b : ℕ) (p a : List ℤ) : Type 0 where
  pub forward : pos 0 ≤ℤ dot p a
  pub height : (dot p a *ℤ dot p a) ≤ℤ (pos (b * c.h * (b * c.h)) *ℤ dot a a)
  pub shape : IsWithinRound c b (dot p a) (dot a a) (spread p a) ⊎ IsWithinCone c t b (dot p a) (dot a a) (spread p a)

-- a cutter with the base 0 begins at the tip
abbrev pub ZeroBaseIsTip : Type 0
ZeroBaseIsTip = (c : CutterSize) (t b : ℕ) (p a : List ℤ) → c.base ≡ 0 → IsInside c t b p a ↔ IsInsideFromTip c t b p a

-- a place in the plain cylinder of diameter d that reaches from base to h above the tip, its lengths taken times b
pub record IsInCylinder (d base h b : ℕ) (p a : List ℤ) : Type 0 where
  pub forward : pos 0 ≤ℤ dot p a
  pub above : (pos (b * base * (b * base)) *ℤ dot a a) ≤ℤ (dot p a *ℤ dot p a)
  pub height : (dot p a *ℤ dot p a) ≤ℤ (pos (b * h * (b * h)) *ℤ dot a a)
  pub side : (pos 4 *ℤ spread p a) ≤ℤ (pos (b * d * (b * d)) *ℤ dot a a)

-- a cutter with an upright flank and no corner radius is the plain cylinder from its base upwards
abbrev pub FlatIsCylinder : Type 0
FlatIsCylinder =
    (c : CutterSize) (t b : ℕ) (p a : List ℤ)
    → c.flank ≡ 0 → c.r ≡ 0 → IsInside c t b p a ↔ IsInCylinder c.d c.base c.h b p a

-- the tip of a ball cutter is a point: at the tip's height, under an axis that isn't zero, it holds only the tip
abbrev pub BallTipIsPoint : Type 0
BallTipIsPoint =
    (c : CutterSize) (t b : ℕ) (p a : List ℤ) → c.flank ≡ 0 → c.d ≡ 2 * c.r
    → is_zero a ≡ false → IsInside c t b p a → dot p a ≡ pos 0 → is_zero p ≡ true

-- where a place's own height is a rational number p / q, the corner rule says no more than to be within the profile at that height
abbrev pub OwnHeightIsEnough : Type 0
OwnHeightIsEnough =
    (r E p q : ℕ) (u n w : ℤ) → pos 0 ≤ℤ u → pos 0 <ℤ n → pos 0 ≤ℤ w → 1 ≤ q → p ≤ r * q → pos (q * q) *ℤ (u *ℤ u) ≡ pos (p * p) *ℤ n
    → CornerRule r E u n w ↔ IsWithinCorner r E n w p q

-- where the axis is i long and the distance from it is s / i, both whole numbers, the cone rule is a straight line:
-- s / i <= d / 2 + (u / i) t / 10^6
abbrev pub ConeIsStraight : Type 0
ConeIsStraight =
    (t d u i s : ℕ) → ConeRule t d (pos u) (pos (i * i)) (pos (s * s)) ↔ (2 * 10 ^ 6 * s ≤ 10 ^ 6 * d * i + 2 * t * u)

-- a ball cutter of radius 1000, and an axis of length 5
abbrev pub ball : CutterSize
ball = record { d = 2000; r = 1000; h = 5000; flank = 0; base = 0 }

abbrev pub slanted : List ℤ
slanted = pos 0 ∷ pos 3 ∷ pos 4 ∷ []

-- Places worked by hand. At one micrometre above the tip the ball is sqrt(1999), some 44.7, wide on each side: what is sqrt(1940)
-- from the axis is inside, what is sqrt(2029) from it is not. At a fifth of a micrometre it is some 20 wide: what is 30 from the
-- axis is not inside.
pub record BallPlaces : Type 0 where
  pub within : (t : ℕ) → IsInside ball t 1 (pos 44 ∷ negsuc 0 ∷ pos 2 ∷ []) slanted
  pub beside : (t : ℕ) → ¬ IsInside ball t 1 (pos 45 ∷ negsuc 0 ∷ pos 2 ∷ []) slanted
  pub near_tip : (t : ℕ) → ¬ IsInside ball t 1 (pos 30 ∷ negsuc 0 ∷ pos 1 ∷ []) slanted

-- a cone of diameter 2000 that leans by 30 degrees, and the axis upwards
abbrev pub leaning : CutterSize
leaning = record { d = 2000; r = 0; h = 200000; flank = 30; base = 0 }

abbrev pub upwards : List ℤ
upwards = pos 0 ∷ pos 0 ∷ pos 1 ∷ []

-- At 100,000 above the tip it has widened by 57,735.0 on each side in the lower reading and by 57,735.1 in the upper one. With
-- lengths times 20, what is 58,735.00 from the axis is in the lower cutter, what is 58,735.05 from it only in the upper one, and
-- what is 58,735.15 from it in neither.
pub record ConePlaces : Type 0 where
  pub in_lower : IsInside leaning (lower_tangent 30) 20 (pos 1174700 ∷ pos 0 ∷ pos 2000000 ∷ []) upwards
  pub not_in_lower : ¬ IsInside leaning (lower_tangent 30) 20 (pos 1174701 ∷ pos 0 ∷ pos 2000000 ∷ []) upwards
  pub in_upper : IsInside leaning (upper_tangent 30) 20 (pos 1174701 ∷ pos 0 ∷ pos 2000000 ∷ []) upwards
  pub not_in_upper : ¬ IsInside leaning (upper_tangent 30) 20 (pos 1174703 ∷ pos 0 ∷ pos 2000000 ∷ []) upwards
