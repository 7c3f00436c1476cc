-- The table of flank angles holds the true tangents, by whole numbers only: an angle is the direction that leans by it, a multiple
-- of the angle is that direction turned on by itself, and the tangent of 30 degrees is 1 / sqrt(3).
use Rattle.std.specs.Prelude.{◌≡◌, ℕ, zero, suc, ◌+◌, ◌*◌, ℤ, pos, ◌+ℤ◌, ◌-ℤ◌, ◌*ℤ◌, ◌≤ℤ◌, int_le, int_lt, Bool, ◌&&◌, IsTrue, [], ◌∷◌, map}
use Rattle.std.specs.List.{list_all, range_with_len}
use Rattle.space.specs.Flanks.{flanks, lower_tangent, upper_tangent}

-- a direction in a plane through the tool axis: how far along the axis, and how far across it
pub record Direction : Type 0 where
  pub along : ℤ
  pub across : ℤ

-- the direction that leans from the axis by the angle whose tangent is t millionths
abbrev pub leaning_by : ℕ → Direction
leaning_by t = record { along = pos 1000000; across = pos t }

-- the direction that leans by two angles together: the addition theorems, the lengths multiplied
abbrev pub together : Direction → Direction → Direction
together a b = record {
  along = a.along *ℤ b.along -ℤ a.across *ℤ b.across;
  across = a.along *ℤ b.across +ℤ a.across *ℤ b.along;
}

-- the direction that leans by k times the angle
abbrev pub multiple : ℕ → ℕ → Direction
multiple t zero = record { along = pos 1; across = pos 0 }
multiple t (suc k) = together (multiple t k) (leaning_by t)

-- the direction leans by an angle from 0 up to 90 degrees, 90 excluded
abbrev pub is_in_quadrant : Direction → Bool
is_in_quadrant a = int_lt (pos 0) a.along && int_le (pos 0) a.across

-- once, twice and up to k times the angle: none of them is turned as far as 90 degrees
abbrev pub stays_in_quadrant : ℕ → ℕ → Bool
stays_in_quadrant k t = list_all (λ j. is_in_quadrant (multiple t j)) (range_with_len 1 k)

-- k times the angle whose tangent is t millionths is at most 30 degrees
pub record IsWithinThirty (k t : ℕ) : Type 0 where
  pub turned : IsTrue (stays_in_quadrant k t)
  pub within : (pos 3 *ℤ ((multiple t k).across *ℤ (multiple t k).across)) ≤ℤ ((multiple t k).along *ℤ (multiple t k).along)

-- k times that angle is at least 30 degrees
pub record IsBeyondThirty (k t : ℕ) : Type 0 where
  pub turned : IsTrue (stays_in_quadrant k t)
  pub beyond : ((multiple t k).along *ℤ (multiple t k).along) ≤ℤ (pos 3 *ℤ ((multiple t k).across *ℤ (multiple t k).across))

-- The table's bounds hold the tangent of `degrees` degrees, a k-th of 30: k times the angle of the lower bound is at most 30
-- degrees, k times that of the upper one at least, and they are one millionth apart.
pub record IsTangentOf (degrees k : ℕ) : Type 0 where
  pub part : degrees * k ≡ 30
  pub lower : IsWithinThirty k (lower_tangent degrees)
  pub upper : IsBeyondThirty k (upper_tangent degrees)
  pub next : upper_tangent degrees ≡ lower_tangent degrees + 1

-- both bounds of an angle's tangent are that number of millionths
pub record IsExactly (degrees t : ℕ) : Type 0 where
  pub lower : lower_tangent degrees ≡ t
  pub upper : upper_tangent degrees ≡ t

-- The table has nine angles and no other, and its bounds are those of their tangents. That of 45 degrees is 1, since twice that
-- angle is upright.
pub record TableIsTrue : Type 0 where
  pub angles : map (λ f. f.degrees) flanks ≡ 0 ∷ 1 ∷ 2 ∷ 3 ∷ 5 ∷ 10 ∷ 15 ∷ 30 ∷ 45 ∷ []
  pub none : IsExactly 0 0
  pub one : IsTangentOf 1 30
  pub two : IsTangentOf 2 15
  pub three : IsTangentOf 3 10
  pub five : IsTangentOf 5 6
  pub ten : IsTangentOf 10 3
  pub fifteen : IsTangentOf 15 2
  pub thirty : IsTangentOf 30 1
  pub forty_five : IsExactly 45 1000000
  pub upright : (multiple 1000000 2).along ≡ pos 0
