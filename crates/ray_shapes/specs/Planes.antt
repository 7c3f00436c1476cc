-- Which points a plane, a body and a list of bodies hold.
use Rattle.std.specs.Prelude.{◌≡◌, ◌-◌, ◌≤◌, ℤ, pos, negsuc, ◌+ℤ◌, ◌*ℤ◌, int_le, Bool, List, length, slice_index_or}
use Rattle.std.specs.List.{list_all, list_any}
use Rattle.space.specs.Vectors.{at}
use Rattle.ray_grid.specs.declared.ray.Family.{Family}
use Rattle.ray_grid.specs.declared.ray.Family.TheVariants.{X, Y, Z}
use Rattle.ray_shapes.specs.declared.plane.Plane.{Plane}

-- the left side of the plane at a point
abbrev pub value_at : Plane → List ℤ → ℤ
value_at plane point = ((plane.a *ℤ at point 0) +ℤ (plane.b *ℤ at point 1)) +ℤ (plane.c *ℤ at point 2)

-- the coefficient of the axis along which a family's rays run
abbrev pub coefficient_of : Plane → Family → ℤ
coefficient_of plane X = plane.a
coefficient_of plane Y = plane.b
coefficient_of plane Z = plane.c

-- a plane holds the points on its inner side, those on the plane itself too
abbrev pub plane_holds : Plane → List ℤ → Bool
plane_holds plane point = int_le (value_at plane point) plane.d

-- a body holds the points that all its planes hold
abbrev pub in_body : List Plane → List ℤ → Bool
in_body body point = list_all (λ plane. plane_holds plane point) body

-- the points of a list of bodies are those of any of them
abbrev pub in_bodies : List (List Plane) → List ℤ → Bool
in_bodies bodies point = list_any (λ body. in_body body point) bodies

-- the coefficients of a plane
abbrev pub IsSide : ℤ → ℤ → ℤ → Plane → Type 0
IsSide a b c plane = (plane.a ≡ a) × (plane.b ≡ b) × (plane.c ≡ c)

-- the last six planes of a body are the sides of a box along the axes, two for each axis, that at its upper end first
pub record EndsInBox (planes : List Plane) : Type 0 where
  pub many : 6 ≤ length planes
  pub upper_x : (d : Plane) → IsSide (pos 1) (pos 0) (pos 0) (slice_index_or planes (length planes - 6) d)
  pub lower_x : (d : Plane) → IsSide (negsuc 0) (pos 0) (pos 0) (slice_index_or planes (length planes - 5) d)
  pub upper_y : (d : Plane) → IsSide (pos 0) (pos 1) (pos 0) (slice_index_or planes (length planes - 4) d)
  pub lower_y : (d : Plane) → IsSide (pos 0) (negsuc 0) (pos 0) (slice_index_or planes (length planes - 3) d)
  pub upper_z : (d : Plane) → IsSide (pos 0) (pos 0) (pos 1) (slice_index_or planes (length planes - 2) d)
  pub lower_z : (d : Plane) → IsSide (pos 0) (pos 0) (negsuc 0) (slice_index_or planes (length planes - 1) d)
