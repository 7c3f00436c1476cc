-- Bodies whose planes are moved along their normals.
use Rattle.std.specs.Prelude.{ℕ, ◌+◌, ◌*◌, ℤ, pos, ◌+ℤ◌, ◌*ℤ◌, unsigned_abs, List, map}
use Rattle.bern_form.specs.Roots.{ceil_root}
use Rattle.ray_shapes.specs.declared.plane.Plane.{Plane}

-- the square of a number
abbrev pub square_of : ℤ → ℕ
square_of z = unsigned_abs z * unsigned_abs z

-- how long the plane's normal is, rounded up: the least whole number with s * s >= a * a + b * b + c * c
abbrev pub normal_length : Plane → ℕ
normal_length plane = ceil_root (square_of plane.a + square_of plane.b + square_of plane.c)

-- the plane with d raised by `by` lengths of its normal
abbrev pub shifted_plane : ℤ → Plane → Plane
shifted_plane by plane = record plane { d = plane.d +ℤ (by *ℤ pos (normal_length plane)) }

-- every plane of every body raised in this way: the bodies grow by at least `by` on each side, or, where it is below 0, shrink
abbrev pub shifted_of : ℤ → List (List Plane) → List (List Plane)
shifted_of by bodies = map (map (shifted_plane by)) bodies
