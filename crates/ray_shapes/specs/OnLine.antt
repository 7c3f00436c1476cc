-- The points of a line.
use Rattle.std.specs.Prelude.{ℕ, ℤ, List}
use Rattle.ray_shapes.specs.declared.line.Line.{Line}
use Rattle.ray_shapes.specs.Lines.{position}

-- where point l of the line lies
abbrev pub point_on : Line → ℕ → List ℤ
point_on line l = position line.family line.first line.step l
