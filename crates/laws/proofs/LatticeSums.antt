-- A sum over the lattice of a grid, by the indices of its rays and points.
use Rattle.std.proofs.Common.{◌≡◌, ℕ, ◌+◌, List, ℤ, ◌++◌, arith, ◌∙◌}
use Rattle.std.specs.List.{sum_by}
use Rattle.std.proofs.lemmas.List.Sums.{sum_by-append}
use Rattle.ray_grid.specs.Grids.{GridSize}
use Rattle.ray_grid.specs.Families.{first_axis, second_axis}
use Rattle.ray_grid.specs.Lattice.{nodes_of, point_at, point_of, points_of}
use Rattle.ray_grid.specs.Points.{LatticePoint, lattice_of, points_on, rays_of}
use Rattle.ray_grid.specs.Strips.{strip_of, strips_along, strips_of}
use Rattle.ray_grid.specs.declared.ray.Ray.{Ray}
use Rattle.ray_grid.specs.declared.ray.Family.{Family}
use Rattle.ray_grid.specs.declared.ray.Family.TheVariants.{X, Y, Z}
use Rattle.laws.proofs.IndexSums.{over, over_made, over_same, over_three, sum_joined}

-- the sum over the points of a family
abbrev pub family_sum : (List ℤ → ℕ) → GridSize → Family → ℕ
family_sum t g f = over_three (λ i j l. t (point_at g f i j l)) (nodes_of g (first_axis f)) (nodes_of g (second_axis f)) (points_of g f)

-- the sum over all points
abbrev pub total_of : (List ℤ → ℕ) → GridSize → ℕ
total_of t g = family_sum t g Z + family_sum t g X + family_sum t g Y

-- what a ray has, and what a family's strips have
abbrev ray_sum : (List ℤ → ℕ) → GridSize → Ray → ℕ
ray_sum t g ray = sum_by (λ point. t point.position) (points_on g ray)

abbrev strip_sum : (List ℤ → ℕ) → GridSize → List Ray → ℕ
strip_sum t g strip = sum_by (ray_sum t g) strip

ray_sum_is : (t : List ℤ → ℕ) (g : GridSize) (ray : Ray) → ray_sum t g ray ≡ over (λ l. t (point_of g ray l)) (points_of g ray.family)
ray_sum_is t g ray = over_made (λ (point : LatticePoint). t point.position) (λ l. record { ray = ray; l = l; position = point_of g ray l }) (points_of g ray.family)

strip_sum_is : (t : List ℤ → ℕ) (g : GridSize) (f : Family) (i : ℕ)
    → strip_sum t g (strip_of g f i) ≡ over (λ j. over (λ l. t (point_at g f i j l)) (points_of g f)) (nodes_of g (second_axis f))
strip_sum_is t g f i =
    let ray : ℕ → Ray = λ j. record { family = f; i = i; j = j } in
    over_made (ray_sum t g) ray (nodes_of g (second_axis f))
    ∙ over_same (λ j. ray_sum t g (ray j)) (λ j. over (λ l. t (point_at g f i j l)) (points_of g f)) (nodes_of g (second_axis f)) (λ j. ray_sum_is t g (ray j))

strips_sum_is : (t : List ℤ → ℕ) (g : GridSize) (f : Family) → sum_by (strip_sum t g) (strips_along g f) ≡ family_sum t g f
strips_sum_is t g f =
    over_made (strip_sum t g) (strip_of g f) (nodes_of g (first_axis f))
    ∙ over_same (λ i. strip_sum t g (strip_of g f i)) (λ i. over (λ j. over (λ l. t (point_at g f i j l)) (points_of g f)) (nodes_of g (second_axis f)))
    (nodes_of g (first_axis f)) (strip_sum_is t g f)

pub lattice_sum_is : (t : List ℤ → ℕ) (g : GridSize) → sum_by (λ point. t point.position) (lattice_of g) ≡ total_of t g
lattice_sum_is t g =
    sum_joined (λ (point : LatticePoint). t point.position) (points_on g) (rays_of g)
    ∙ sum_joined (ray_sum t g) (λ (strip : List Ray). strip) (strips_of g)
    ∙ sum_by-append (strip_sum t g) (strips_along g Z ++ strips_along g X) (strips_along g Y)
    ∙ (let a = sum_by-append (strip_sum t g) (strips_along g Z) (strips_along g X) in
    let z = strips_sum_is t g Z in let x = strips_sum_is t g X in let y = strips_sum_is t g Y in omega (arith, a, z, x, y))
