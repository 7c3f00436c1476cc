-- What is known of a ray that is ready for marks.
use Rattle.wanted_marks.specs.declared.line.Line.{Line}
use Rattle.wanted_marks.specs.Lines.{IsLineOf}
use Rattle.wanted_marks.specs.Rays.{IsRayOf, RayOf}

-- it is a ray of the grid, and the line runs through its points
pub record IsReadyRay (line : Line) (r : RayOf) : Type 0 where
  pub ray_of : IsRayOf r
  pub line_of : IsLineOf line r
