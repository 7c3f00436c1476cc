-- The forms of the points of a line on a move, as they are kept, and at the point l steps on.
use Rattle.std.specs.Prelude.{◌≡◌, ℕ, ◌*◌, ◌^◌, ◌<◌, List, ℤ, pos, ◌+ℤ◌, ◌*ℤ◌, ◌≤ℤ◌, All}
use Rattle.space.specs.Sweeps.{SweepOf, axis_at, offset_at}
use Rattle.space.specs.Vectors.{at}
use Rattle.bern_form.specs.Between.{u_between}
use Rattle.bern_form.specs.Cells.{dot_on_cell}
use Rattle.bern_form.specs.Forms.{IsSmall, scaled4}
use Rattle.bern_form.specs.Sizes.{IsBounded2, axis_limit, offset_limit}
use Rattle.ray_grid.specs.Lattice.{point_of, points_of}
use Rattle.width_bisect.specs.Forms.{width_between}
use Rattle.wanted_marks.specs.declared.line.Line.{Line}
use Rattle.wanted_marks.specs.Rays.{MoveOf, RayOf}
use Rattle.wanted_marks.specs.Widths.{moved3, quadratic, quadratics, spread_form}

-- the width form, and u
abbrev pub width_at : Line → ℤ → List ℤ
width_at line l = quadratics line.constant.c line.first.c line.second.c l

abbrev pub heights_at : Line → ℤ → List ℤ
heights_at line l = moved3 line.height line.height_step l

-- a coefficient of each
abbrev pub coefficient_at : Line → ℕ → ℤ → ℤ
coefficient_at line k l = quadratic (at line.constant.c k) (at line.first.c k) (at line.second.c k) l

abbrev pub height_at : Line → ℕ → ℤ → ℤ
height_at line k l = at line.height k +ℤ l *ℤ at line.height_step k

-- what the width form bends by over h steps: its second difference times h^2
abbrev pub bend_over : Line → ℤ → List ℤ
bend_over line h = scaled4 (h *ℤ h) line.second.c

-- they fit 128 bits
pub record FitsAt (line : Line) (l : ℤ) : Type 0 where
  pub width : All IsSmall (width_at line l)
  pub height : IsBounded2 (3 * (offset_limit * axis_limit)) (heights_at line l)

-- they are those of the point p between the samples j and k of S
pub record HasFormsBetween (line : Line) (l : ℤ) (m : SweepOf) (p : List ℤ) (j k S : ℕ) : Type 0 where
  pub width : width_at line l ≡ width_between m p j k S
  pub height : heights_at line l ≡ u_between m p j k S

-- on the whole move
abbrev pub HasForms : Line → ℤ → SweepOf → List ℤ → ℕ → Type 0
HasForms line l m p S = HasFormsBetween line l m p 0 S S

-- on a move of a cutter, at the cells of its depth
abbrev pub HasFormsIn : Line → ℤ → MoveOf → List ℤ → Type 0
HasFormsIn line l v p = HasForms line l v.sweep p (2 ^ v.depth)

-- The line runs through the points of the ray, and what the width form bends by from one of them to another fits. At the first sample and
-- at the last one it bends upwards.
pub record IsLineOf (line : Line) (r : RayOf) : Type 0 where
  pub fits : (l : ℕ) → l < points_of r.grid r.ray.family → FitsAt line (pos l)
  pub bends : (h : ℕ) → h < points_of r.grid r.ray.family → All IsSmall (bend_over line (pos h))
  pub forms : (l : ℕ) → l < points_of r.grid r.ray.family → HasFormsIn line (pos l) r.sweep (point_of r.grid r.ray l)
  pub first_convex : pos 0 ≤ℤ at line.second.c 0
  pub last_convex : pos 0 ≤ℤ at line.second.c 4

-- what u grows by with a step v, which is taken times S; and half of what d grows by, from the point s on, except for |v|^2
abbrev pub u_step : SweepOf → List ℤ → ℕ → List ℤ
u_step m v S = dot_on_cell v v (axis_at m (pos 0) (pos S)) (axis_at m (pos S) (pos S))

abbrev pub d_step : SweepOf → List ℤ → List ℤ → ℕ → List ℤ
d_step m s v S = dot_on_cell (offset_at m s (pos 0) (pos S)) (offset_at m s (pos S) (pos S)) v v

-- The line goes on by the step v from a point whose offsets from the tip at two samples are p and q; a and c are the axes there.
pub record IsLineFrom (line : Line) (p q v a c : List ℤ) : Type 0 where
  pub constant_is : line.constant.c
      ≡ spread_form (pos 4) (dot_on_cell p q p q) (dot_on_cell a c a c) (dot_on_cell p q a c) (dot_on_cell p q a c)
  pub first_is : line.first.c ≡ spread_form (pos 8) (dot_on_cell p q v v) (dot_on_cell a c a c) (dot_on_cell p q a c) (dot_on_cell v v a c)
  pub second_is : line.second.c
      ≡ spread_form (pos 4) (dot_on_cell v v v v) (dot_on_cell a c a c) (dot_on_cell v v a c) (dot_on_cell v v a c)
  pub height_is : line.height ≡ dot_on_cell p q a c
  pub height_step_is : line.height_step ≡ dot_on_cell v v a c

-- between the samples j and k of S it begins at the point s
abbrev pub IsThroughBetween : Line → SweepOf → List ℤ → List ℤ → ℕ → ℕ → ℕ → Type 0
IsThroughBetween line m s v j k S =
    IsLineFrom line (offset_at m s (pos j) (pos S)) (offset_at m s (pos k) (pos S)) v
    (axis_at m (pos j) (pos S)) (axis_at m (pos k) (pos S))

-- on the whole move
abbrev pub IsThrough : Line → SweepOf → List ℤ → List ℤ → ℕ → Type 0
IsThrough line m s v S = IsThroughBetween line m s v 0 S S
