-- When two grids are one.
use Rattle.std.specs.Prelude.{ℤ, Bool, ◌&&◌, List, nat_eq, slice_index}
use Rattle.std.specs.Ordering.{int_eq}
use Rattle.space.specs.Vectors.{at}
use Rattle.ray_grid.specs.Grids.{GridSize}

-- two grids have nodes as far apart, and points as far apart on their rays
abbrev pub has_same_steps : GridSize → GridSize → Bool
has_same_steps a b = int_eq a.pitch b.pitch && int_eq a.step b.step

-- two points lie at one place
abbrev pub is_same_point : List ℤ → List ℤ → Bool
is_same_point p q = int_eq (at p 0) (at q 0) && (int_eq (at p 1) (at q 1) && int_eq (at p 2) (at q 2))

-- their first nodes do
abbrev pub has_same_origin : GridSize → GridSize → Bool
has_same_origin a b = is_same_point a.origin b.origin

-- and their axes have as many nodes
abbrev pub has_same_counts : GridSize → GridSize → Bool
has_same_counts a b =
    nat_eq (slice_index a.counts 0) (slice_index b.counts 0)
    && (nat_eq (slice_index a.counts 1) (slice_index b.counts 1) && nat_eq (slice_index a.counts 2) (slice_index b.counts 2))

abbrev pub is_same_grid : GridSize → GridSize → Bool
is_same_grid a b = has_same_steps a b && (has_same_origin a b && has_same_counts a b)
