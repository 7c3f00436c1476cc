-- Laws of bodies whose planes are moved along their normals: the amount that they are moved by is a clearance.
use Rattle.std.specs.Prelude.{ℕ, ◌≤◌, ℤ, pos, ◌+ℤ◌, ◌-ℤ◌, ◌*ℤ◌, ◌≤ℤ◌, List, [], ◌∷◌, IsTrue}
use Rattle.space.specs.Vectors.{at, dot}
use Rattle.ray_shapes.specs.Planes.{in_bodies, plane_holds}
use Rattle.ray_shapes.specs.declared.plane.Plane.{Plane}
use Rattle.setup_file.specs.Shift.{normal_length, shifted_of}

-- the squared distance of two points
abbrev pub squared_distance : List ℤ → List ℤ → ℤ
squared_distance p q =
    let offset = (at q 0 -ℤ at p 0) ∷ (at q 1 -ℤ at p 1) ∷ (at q 2 -ℤ at p 2) ∷ [] in
    dot offset offset

-- bodies that are grown by an amount hold each point whose distance from one of theirs is at most that amount
abbrev pub GrownHoldsNear : Type 0
GrownHoldsNear =
    (by : ℤ) (bodies : List (List Plane)) (p q : List ℤ) → pos 0 ≤ℤ by
    → IsTrue (in_bodies bodies p) → squared_distance p q ≤ℤ (by *ℤ by) → IsTrue (in_bodies (shifted_of by bodies) q)

-- each point of bodies that were shrunk by an amount lay in them with all that is no further from it than that amount
abbrev pub ShrunkStaysInside : Type 0
ShrunkStaysInside =
    (by : ℤ) (bodies : List (List Plane)) (p q : List ℤ) → by ≤ℤ pos 0
    → IsTrue (in_bodies (shifted_of by bodies) p) → squared_distance p q ≤ℤ (by *ℤ by) → IsTrue (in_bodies bodies q)

-- `lengths` whole lengths are enough for a plane: moved by `lengths` times an amount, it holds all within that amount of what it held
abbrev pub IsClearedBy : Plane → ℕ → Type 0
IsClearedBy plane lengths =
    (by : ℤ) (p q : List ℤ) → pos 0 ≤ℤ by → IsTrue (plane_holds plane p)
    → squared_distance p q ≤ℤ (by *ℤ by) → IsTrue (plane_holds (record plane { d = plane.d +ℤ (by *ℤ pos lengths) }) q)

-- fewer than the length of its normal rounded up are not enough, so no plane is moved further than whole lengths need
abbrev pub LengthIsLeast : Type 0
LengthIsLeast = (plane : Plane) (lengths : ℕ) → IsClearedBy plane lengths → normal_length plane ≤ lengths
