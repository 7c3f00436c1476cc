-- The tool axis at the start.
use Rattle.std.specs.Prelude.{ℤ, pos, List, [], ◌∷◌}
use Rattle.space.specs.Ranges.{axis_unit}

-- along z
abbrev pub upright : List ℤ
upright = pos 0 ∷ pos 0 ∷ pos axis_unit ∷ []
