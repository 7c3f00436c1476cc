-- Planes and bodies that are turned.
use Rattle.std.specs.Prelude.{ℕ, ◌≤◌, ℤ, ◌+ℤ◌, ◌*ℤ◌, unsigned_abs, List, [], ◌∷◌, map}
use Rattle.space.specs.Vectors.{at}
use Rattle.space.specs.Ranges.{IsWithin}
use Rattle.ray_grid.specs.declared.turn.Turn.{Turn}
use Rattle.ray_grid.specs.Turns.{is_negated, old_axis, negated_if}
use Rattle.ray_shapes.specs.declared.plane.Plane.{Plane}

-- how far from 0 the numbers of a plane may be for it to be turned: with a shift of the limit it is still far below 64 bits
abbrev pub most_turned_normal : ℕ
most_turned_normal = 1000000000

abbrev pub most_turned_side : ℕ
most_turned_side = 1000000000000000000

-- how far a shift along one axis moves the right side, at most
abbrev pub most_lift : ℕ
most_lift = 2000000000000000

-- the three coefficients of a plane, by their axes
abbrev pub normal_of : Plane → List ℤ
normal_of plane = plane.a ∷ plane.b ∷ plane.c ∷ []

-- a plane that may be turned
pub record IsTurnable (plane : Plane) : Type 0 where
  pub normal : IsWithin most_turned_normal (normal_of plane)
  pub side : unsigned_abs plane.d ≤ most_turned_side

-- the coefficient of new axis n: that of its old axis, negated or not
abbrev pub turned_coefficient : Turn → List ℤ → ℕ → ℤ
turned_coefficient turn normal n = negated_if (is_negated turn n) (at normal (old_axis turn n))

-- how much the right side rises by the shift
abbrev pub side_rise : Turn → List ℤ → ℤ
side_rise turn normal =
    (turned_coefficient turn normal 0 *ℤ at turn.shift 0 +ℤ turned_coefficient turn normal 1 *ℤ at turn.shift 1)
    +ℤ turned_coefficient turn normal 2 *ℤ at turn.shift 2

-- the plane that holds a point when it is turned, where the plane held it before
abbrev pub turned_plane : Turn → Plane → Plane
turned_plane turn plane = record {
  a = turned_coefficient turn (normal_of plane) 0;
  b = turned_coefficient turn (normal_of plane) 1;
  c = turned_coefficient turn (normal_of plane) 2;
  d = plane.d +ℤ side_rise turn (normal_of plane);
}

-- the bodies with each plane turned
abbrev pub turned_bodies : Turn → List (List Plane) → List (List Plane)
turned_bodies turn bodies = map (map (turned_plane turn)) bodies

-- bodies, and how they are turned
pub record TurnedOf : Type 0 where
  pub bodies : List (List Plane)
  pub turn : Turn
