-- The forms of the points of a line on a stretch of a move.
use Rattle.std.specs.Prelude.{◌≡◌, ℕ, ◌+◌, ◌^◌, ◌<◌, List, ℤ, pos}
use Rattle.space.specs.Sweeps.{SweepOf}
use Rattle.bern_form.specs.Between.{n_between}
use Rattle.ray_grid.specs.Lattice.{point_of, points_of}
use Rattle.ray_runs.specs.declared.clear.OpenStretch.{OpenStretch}
use Rattle.width_bisect.specs.Forms.{AreWidthForms}
use Rattle.wanted_marks.specs.declared.on_stretch.StretchLine.{StretchLine}
use Rattle.wanted_marks.specs.Lines.{FitsAt, IsThroughBetween, heights_at, width_at}
use Rattle.wanted_marks.specs.Rays.{MoveOf, RayOf}

-- the line begins at the point o and goes on by the step v
pub record IsThroughOn (x : StretchLine) (s : OpenStretch) (m : SweepOf) (o v : List ℤ) (S : ℕ) : Type 0 where
  pub line_is : IsThroughBetween x.line m o v s.first (s.first + 2 ^ s.levels) S
  pub n_is : x.n.c ≡ n_between m s.first (s.first + 2 ^ s.levels) S

-- what it has l steps on are the forms of the point p on the stretch
abbrev pub HasFormsOn : StretchLine → ℤ → OpenStretch → MoveOf → List ℤ → Type 0
HasFormsOn x l s v p =
    AreWidthForms (heights_at x.line l) x.n.c (width_at x.line l) v.sweep p s.first (s.first + 2 ^ s.levels) (2 ^ v.depth)

-- the line runs through the points of the ray
pub record IsStretchLineOf (x : StretchLine) (s : OpenStretch) (r : RayOf) : Type 0 where
  pub fits : (l : ℕ) → l < points_of r.grid r.ray.family → FitsAt x.line (pos l)
  pub forms : (l : ℕ) → l < points_of r.grid r.ray.family → HasFormsOn x (pos l) s r.sweep (point_of r.grid r.ray l)
