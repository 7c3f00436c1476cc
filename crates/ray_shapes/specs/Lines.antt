-- The points of a line along one axis.
use Rattle.std.specs.Prelude.{ℕ, ℤ, pos, ◌+ℤ◌, ◌*ℤ◌, List, [], ◌∷◌}
use Rattle.ray_grid.specs.declared.ray.Family.{Family}
use Rattle.ray_grid.specs.declared.ray.Family.TheVariants.{X, Y, Z}
use Rattle.space.specs.Vectors.{at}

-- point l lies l steps from the first point, on the family's axis
abbrev pub position : Family → List ℤ → ℤ → ℕ → List ℤ
position X first step l = (at first 0 +ℤ (pos l *ℤ step)) ∷ at first 1 ∷ at first 2 ∷ []
position Y first step l = at first 0 ∷ (at first 1 +ℤ (pos l *ℤ step)) ∷ at first 2 ∷ []
position Z first step l = at first 0 ∷ at first 1 ∷ (at first 2 +ℤ (pos l *ℤ step)) ∷ []
