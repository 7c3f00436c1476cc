-- The text of a point's place on the lattice.
use Rattle.std.specs.Prelude.{ℕ, List, ◌++◌, codes, decimal}
use Rattle.ray_grid.specs.declared.ray.Ray.{Ray}
use Rattle.report_text.specs.Answers.{family_name}

-- a point of a ray, by the ray's family and nodes and the point's index
abbrev pub place_text : Ray → ℕ → List ℕ
place_text ray l =
    codes " " ++ family_name ray.family ++ codes " " ++ decimal ray.i ++ codes " " ++ decimal ray.j ++ codes " " ++ decimal l
