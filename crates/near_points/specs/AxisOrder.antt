-- Vectors with the component along the rays of a family first, and ways from point to point.
use Rattle.std.specs.Prelude.{List, [], ◌∷◌, ℤ, pos}
use Rattle.space.specs.Vectors.{at}
use Rattle.ray_grid.specs.declared.ray.Family.{Family}
use Rattle.ray_grid.specs.declared.ray.Family.TheVariants.{X, Y, Z}

-- the component along the rays, and then those along the two axes that come after theirs, in the order x, y, z, x
abbrev pub ray_axis_first : Family → List ℤ → List ℤ
ray_axis_first X v = at v 0 ∷ at v 1 ∷ at v 2 ∷ []
ray_axis_first Y v = at v 1 ∷ at v 2 ∷ at v 0 ∷ []
ray_axis_first Z v = at v 2 ∷ at v 0 ∷ at v 1 ∷ []

-- a way along a ray, and one from a ray of a strip to the next, with their components in that order
abbrev pub way_along : ℤ → List ℤ
way_along w = w ∷ pos 0 ∷ pos 0 ∷ []

abbrev pub way_across : Family → ℤ → List ℤ
way_across X w = pos 0 ∷ pos 0 ∷ w ∷ []
way_across Y w = pos 0 ∷ w ∷ pos 0 ∷ []
way_across Z w = pos 0 ∷ pos 0 ∷ w ∷ []
