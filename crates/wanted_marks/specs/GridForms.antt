-- The forms of a grid's points on a move: those of its first point, and what a step of the lattice along each axis adds.
use Rattle.std.specs.Prelude.{◌≡◌, ℕ, ◌*◌, ◌^◌, ◌<◌, List, ℤ, pos, All}
use Rattle.space.specs.Ranges.{IsWithin}
use Rattle.space.specs.Sweeps.{SweepOf, axis_at, offset_at}
use Rattle.bern_form.specs.Between.{n_between, u_between}
use Rattle.bern_form.specs.Cells.{dot_on_cell}
use Rattle.bern_form.specs.Forms.{IsSmall, scaled4}
use Rattle.bern_form.specs.Sizes.{IsBounded2, axis_limit, offset_limit}
use Rattle.bern_form.specs.declared.form.Form4.{Form4}
use Rattle.ray_grid.specs.Grids.{GridSize}
use Rattle.ray_grid.specs.declared.ray.Family.{Family}
use Rattle.ray_grid.specs.declared.ray.Family.TheVariants.{X, Y, Z}
use Rattle.ray_grid.specs.Lattice.{per_node, point_at}
use Rattle.moment_forms.specs.Moments.{vector_product}
use Rattle.moment_forms.specs.Sizes.{moments_limit}
use Rattle.moment_forms.specs.declared.moments.Moments.{Moments}
use Rattle.wanted_marks.specs.declared.grid_forms.GridForms.{GridForms}
use Rattle.wanted_marks.specs.declared.sheet.Sheet.{Sheet}
use Rattle.wanted_marks.specs.declared.step_forms.StepForms.{StepForms}
use Rattle.wanted_marks.specs.Lines.{d_step, u_step}
use Rattle.wanted_marks.specs.Sheets.{AreMoments, AreSteps, end_at, first_at, FitsOn, middle_at, start_at}
use Rattle.wanted_marks.specs.Ways.{scaled_vector, scaled_way}
use Rattle.wanted_marks.specs.Widths.{moved3, spread_form}

-- a multiple of the scalar product of two moments
abbrev pub moments_product : ℤ → Moments → Moments → List ℤ
moments_product by x y = scaled4 by (vector_product x.start x.middle x.end y.start y.middle y.end)

-- the step is the vector v, from a point whose moment is given; a and c are the axes at both ends of the move
pub record IsStepBy (step : StepForms) (v : List ℤ) (start : Moments) (a c : List ℤ) : Type 0 where
  pub moments : AreMoments step.moments v v a c
  pub first_is : step.first.c ≡ moments_product (pos 8) start step.moments
  pub second_is : step.second.c ≡ moments_product (pos 4) step.moments step.moments
  pub height_is : step.height ≡ dot_on_cell v v a c

-- on a move it is the vector v, from the point s
pub record IsStep (step : StepForms) (m : SweepOf) (s v : List ℤ) (S : ℕ) : Type 0 where
  pub moments : AreSteps step.moments m v S
  pub first_is : step.first.c ≡ spread_form (pos 8) (d_step m s v S) (n_between m 0 S S) (u_between m s 0 S S) (u_step m v S)
  pub second_is : step.second.c ≡ spread_form (pos 4) (dot_on_cell v v v v) (n_between m 0 S S) (u_step m v S) (u_step m v S)
  pub height_is : step.height ≡ u_step m v S

-- the scale times the way from point to point along the rays of a family
abbrev pub step_way : GridSize → Family → ℕ → List ℤ
step_way grid f S = scaled_way (pos S) (point_at grid f 0 0 0) (point_at grid f 0 0 1)

-- eight times the scalar product of what the steps t and v add to the moment
abbrev pub crossed_form : SweepOf → List ℤ → List ℤ → ℕ → List ℤ
crossed_form m t v S = spread_form (pos 8) (dot_on_cell t t v v) (n_between m 0 S S) (u_step m t S) (u_step m v S)

-- the first point is the grid's origin, and the steps are those of the grid
pub record AreGridForms (forms : GridForms) (m : SweepOf) (grid : GridSize) (S : ℕ) : Type 0 where
  pub per_node_is : forms.per_node ≡ per_node grid
  pub start : AreMoments forms.start (offset_at m grid.origin (pos 0) (pos S)) (offset_at m grid.origin (pos S) (pos S))
      (axis_at m (pos 0) (pos S)) (axis_at m (pos S) (pos S))
  pub height_is : forms.height ≡ u_between m grid.origin 0 S S
  pub x : IsStep forms.x m grid.origin (step_way grid X S) S
  pub y : IsStep forms.y m grid.origin (step_way grid Y S) S
  pub z : IsStep forms.z m grid.origin (step_way grid Z S) S
  pub xy_is : forms.xy.c ≡ crossed_form m (step_way grid X S) (step_way grid Y S) S
  pub yz_is : forms.yz.c ≡ crossed_form m (step_way grid Y S) (step_way grid Z S) S
  pub zx_is : forms.zx.c ≡ crossed_form m (step_way grid Z S) (step_way grid X S) S

-- rays from the first point on, each a step across from the one before it
abbrev pub rays_by : GridForms → StepForms → StepForms → Form4 → Sheet
rays_by forms along across crossed = record {
  start = forms.start;
  side = across.moments;
  first = along.first;
  first_side = crossed;
  second = along.second;
  height = forms.height;
  height_step = along.height;
  height_side = across.height;
}

-- those of a family, across the strips: at equal distances one of them is the first ray of a strip
abbrev pub first_rays : GridForms → Family → Sheet
first_rays forms X = rays_by forms forms.x forms.y forms.xy
first_rays forms Y = rays_by forms forms.y forms.x forms.xy
first_rays forms Z = rays_by forms forms.z forms.x forms.zx

-- a step from ray to ray of a strip, and eight times the scalar product of what it and a step along the rays add to the moment
abbrev pub beside_of : GridForms → Family → StepForms
beside_of forms X = forms.z
beside_of forms Y = forms.z
beside_of forms Z = forms.y

abbrev pub crossed_of : GridForms → Family → Form4
crossed_of forms X = forms.zx
crossed_of forms Y = forms.yz
crossed_of forms Z = forms.yz

-- what a strip's sheet is computed from fits, where a pitch has k steps
pub record FitsStrip (rays : Sheet) (beside : StepForms) (crossed : Form4) (k i : ℕ) : Type 0 where
  pub few : i * k < 2 ^ 32
  pub first_ray : FitsOn rays (pos (i * k))
  pub side_start : IsWithin moments_limit (scaled_vector (pos k) beside.moments.start)
  pub side_middle : IsWithin moments_limit (scaled_vector (pos k) beside.moments.middle)
  pub side_end : IsWithin moments_limit (scaled_vector (pos k) beside.moments.end)
  pub first_side : All IsSmall (scaled4 (pos k) crossed.c)
  pub height_side : IsBounded2 (3 * (offset_limit * axis_limit)) (scaled_vector (pos k) beside.height)

-- the sheet of strip i: its first ray is i pitches on, and its rays are a pitch apart
pub record IsStripSheet (sheet rays : Sheet) (beside : StepForms) (crossed : Form4) (k i : ℕ) : Type 0 where
  pub start_is : sheet.start.start ≡ start_at rays (pos (i * k))
  pub middle_is : sheet.start.middle ≡ middle_at rays (pos (i * k))
  pub end_is : sheet.start.end ≡ end_at rays (pos (i * k))
  pub side_start_is : sheet.side.start ≡ scaled_vector (pos k) beside.moments.start
  pub side_middle_is : sheet.side.middle ≡ scaled_vector (pos k) beside.moments.middle
  pub side_end_is : sheet.side.end ≡ scaled_vector (pos k) beside.moments.end
  pub first_is : sheet.first.c ≡ first_at rays (pos (i * k))
  pub first_side_is : sheet.first_side.c ≡ scaled4 (pos k) crossed.c
  pub second_is : sheet.second.c ≡ rays.second.c
  pub height_is : sheet.height ≡ moved3 rays.height rays.height_side (pos (i * k))
  pub height_step_is : sheet.height_step ≡ rays.height_step
  pub height_side_is : sheet.height_side ≡ scaled_vector (pos k) beside.height
