-- Each point of a ray of the grid is in the list of the lattice.
use Rattle.std.proofs.Common.{◌≡◌, ℕ, suc, zero, ◌<◌, List, [], ◌∷◌, length, map, get_or, Contains, arith, sym, ◌∙◌, subst}
use Rattle.std.specs.List.{flat_map, range_with_len}
use Rattle.std.proofs.lemmas.List.Elements.{Contains-append_left, Contains-append_right}
use Rattle.std.proofs.lemmas.List.FromFn.{length-map-range_with_len, get_or-map-range_with_len}
use Rattle.std.proofs.lemmas.List.{get_or_default}
use Rattle.ray_grid.specs.Grids.{GridSize}
use Rattle.ray_grid.specs.declared.ray.Ray.{Ray}
use Rattle.ray_grid.specs.Families.{second_axis}
use Rattle.ray_grid.specs.Lattice.{IsRay, nodes_of, points_of, point_of}
use Rattle.ray_grid.specs.Strips.{strip_of, strips_of, strip_number}
use Rattle.ray_grid.specs.Points.{points_on, rays_of, lattice_of}
use Rattle.ray_grid.proofs.Rows.{number_in, strip_there}

contains_flat : {X Y : Type 0} → (f : X → List Y) (xs : List X) (k : ℕ) (x : X) (y : Y) → k < length xs → get_or xs k x ≡ x → Contains (f x) y → Contains (flat_map f xs) y
contains_flat f [] k x y lt is h = absurd (omega arith)
contains_flat f (z ∷ zs) zero x y lt is h = Contains-append_left (f z) (flat_map f zs) y (subst (λ w. Contains (f w) y) (sym is) h)
contains_flat f (z ∷ zs) (suc k) x y lt is h = Contains-append_right (f z) (flat_map f zs) y (contains_flat f zs k x y (omega arith) is h)

contains_made : {X : Type 0} → (f : ℕ → X) (n i : ℕ) → i < n → Contains (map f (range_with_len 0 n)) (f i)
contains_made f n i lt = (i, (let size = length-map-range_with_len f 0 n in omega arith), get_or-map-range_with_len f 0 n i i (f i) lt (omega arith))

listed_ray : (g : GridSize) (ray : Ray) → IsRay g ray → Contains (rays_of g) ray
listed_ray g ray h =
    let n = strip_number g ray.family ray.i in
    let below = number_in g ray.family ray.i h.first in
    contains_flat (λ (strip : List Ray). strip) (strips_of g) n (strip_of g ray.family ray.i) ray below
    (get_or_default (strips_of g) n (strip_of g ray.family ray.i) [] below ∙ strip_there g ray.family ray.i h.first)
    (contains_made (λ j. record { family = ray.family; i = ray.i; j = j }) (nodes_of g (second_axis ray.family)) ray.j h.second)

pub listed_point : (g : GridSize) (ray : Ray) (l : ℕ) → IsRay g ray → l < points_of g ray.family → Contains (lattice_of g) record { ray = ray; l = l; position = point_of g ray l }
listed_point g ray l h lt =
    let there = listed_ray g ray h in
    contains_flat (points_on g) (rays_of g) there.0 ray record { ray = ray; l = l; position = point_of g ray l } there.1 there.2
    (contains_made (λ n. record { ray = ray; l = n; position = point_of g ray n }) (points_of g ray.family) l lt)
