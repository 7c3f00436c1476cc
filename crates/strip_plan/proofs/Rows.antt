-- A strip is the rays of a family with a first node i.
use Rattle.std.proofs.Common.{◌≡◌, ◌∙◌, ℕ, ◌+◌, ◌-◌, ◌<◌, Some, length, ⊎_elim, arith, ap, sym}
use Rattle.std.specs.List.{slice_get}
use Rattle.std.proofs.lemmas.Bool.{cases_lt}
use Rattle.ray_grid.specs.Grids.{GridSize}
use Rattle.ray_grid.specs.declared.ray.Family.{Family}
use Rattle.ray_grid.specs.declared.ray.Family.TheVariants.{X, Y, Z}
use Rattle.ray_grid.specs.declared.ray.Ray.{Ray}
use Rattle.ray_grid.specs.Families.{second_axis}
use Rattle.ray_grid.specs.Lattice.{IsRay, nodes_of}
use Rattle.ray_grid.specs.Ranges.{IsGrid}
use Rattle.ray_grid.specs.Strips.{strip_at, strip_of, strips_of}
use Rattle.ray_grid.proofs.Rows.{length-strip, only_place, ray_in, ray_past, row_x, row_y, row_z, strip_there}
use Rattle.strip_plan.proofs.Extents.{some_nodes}

-- each strip of a grid has a ray
pub some_rays : (g : GridSize) (strip : ℕ) → IsGrid g → strip < length (strips_of g) → 0 < length (strip_at g strip)
some_rays g strip is lt =
    let z = length-strip g Z strip in
    let x = length-strip g X (strip - nodes_of g 0) in
    let y = length-strip g Y (strip - nodes_of g 0 - nodes_of g 1) in
    let second = some_nodes g 1 is (omega arith) in
    let third = some_nodes g 2 is (omega arith) in
    ⊎_elim (λ below. let e = ap length (row_z g strip below) in omega (arith, e, z, second))
    (λ from.
    ⊎_elim (λ below. let e = ap length (row_x g strip from below) in omega (arith, e, x, third))
    (λ further. let e = ap length (row_y g strip further lt) in omega (arith, e, y, third)) (cases_lt strip (nodes_of g 0 + nodes_of g 1)))
    (cases_lt strip (nodes_of g 0))

-- a strip by its first ray
pub row_of : (g : GridSize) (strip : ℕ) (first : Ray) → IsRay g first → slice_get (strip_at g strip) 0 ≡ Some first → strip_at g strip ≡ strip_of g first.family first.i
row_of g strip first on there = ap (strip_at g) (only_place g first strip 0 there).0 ∙ strip_there g first.family first.i on.first

-- it has as many rays as there are second nodes, and ray n has the node n
pub rays_in : (g : GridSize) (strip : ℕ) (f : Family) (i : ℕ) → strip_at g strip ≡ strip_of g f i → length (strip_at g strip) ≡ nodes_of g (second_axis f)
rays_in g strip f i row = ap length row ∙ length-strip g f i

pub ray_is : (g : GridSize) (strip n : ℕ) (f : Family) (i : ℕ) (ray : Ray) → strip_at g strip ≡ strip_of g f i → slice_get (strip_at g strip) n ≡ Some ray
    → ray ≡ record { family = f; i = i; j = n }
ray_is g strip n f i ray row is =
    let here = ap (λ rays. slice_get rays n) (sym row) ∙ is in
    ⊎_elim (λ lt. let known = ray_in g f i n lt in cc)
    (λ past. absurd (let none = ray_past g f i n past in cc)) (cases_lt n (nodes_of g (second_axis f)))
