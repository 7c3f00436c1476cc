-- The forms of rays side by side on a whole move: lines whose first points lie on a line, and which all go on by the same step.
use Rattle.std.specs.Prelude.{◌≡◌, ℕ, ◌*◌, List, ℤ, pos, All}
use Rattle.space.specs.Ranges.{IsWithin}
use Rattle.space.specs.Sweeps.{SweepOf, axis_at, offset_at}
use Rattle.bern_form.specs.Between.{n_between, u_between}
use Rattle.bern_form.specs.Cells.{dot_on_cell}
use Rattle.bern_form.specs.Forms.{IsSmall, scaled4}
use Rattle.bern_form.specs.Sizes.{IsBounded2, axis_limit, offset_limit}
use Rattle.moment_forms.specs.Moments.{middle_moment, moment, vector_product}
use Rattle.moment_forms.specs.Sizes.{moments_limit}
use Rattle.wanted_marks.specs.declared.line.Line.{Line}
use Rattle.moment_forms.specs.declared.moments.Moments.{Moments}
use Rattle.wanted_marks.specs.declared.sheet.Sheet.{Sheet}
use Rattle.wanted_marks.specs.Lines.{d_step, u_step}
use Rattle.wanted_marks.specs.Ways.{scaled_way}
use Rattle.wanted_marks.specs.Widths.{moved3, moved5, spread_form}

-- the coefficients of a moment, by the offsets p and q and the axes a and c at both ends
pub record AreMoments (x : Moments) (p q a c : List ℤ) : Type 0 where
  pub start_is : x.start ≡ moment p a
  pub middle_is : x.middle ≡ middle_moment p q a c
  pub end_is : x.end ≡ moment q c

-- those of a step v, which both offsets grow by
abbrev pub AreSteps : Moments → SweepOf → List ℤ → ℕ → Type 0
AreSteps x m v S = AreMoments x v v (axis_at m (pos 0) (pos S)) (axis_at m (pos S) (pos S))

-- the sheet begins at the point s; along a line it goes on by the step v, from a line to the next by the step t
pub record IsSheet (sheet : Sheet) (m : SweepOf) (s v t : List ℤ) (S : ℕ) : Type 0 where
  pub start : AreMoments sheet.start (offset_at m s (pos 0) (pos S)) (offset_at m s (pos S) (pos S))
      (axis_at m (pos 0) (pos S)) (axis_at m (pos S) (pos S))
  pub side : AreSteps sheet.side m t S
  pub first_is : sheet.first.c ≡ spread_form (pos 8) (d_step m s v S) (n_between m 0 S S) (u_between m s 0 S S) (u_step m v S)
  pub first_side_is : sheet.first_side.c ≡ spread_form (pos 8) (dot_on_cell t t v v) (n_between m 0 S S) (u_step m t S) (u_step m v S)
  pub second_is : sheet.second.c ≡ spread_form (pos 4) (dot_on_cell v v v v) (n_between m 0 S S) (u_step m v S) (u_step m v S)
  pub height_is : sheet.height ≡ u_between m s 0 S S
  pub height_step_is : sheet.height_step ≡ u_step m v S
  pub height_side_is : sheet.height_side ≡ u_step m t S

-- the sheet begins at the point `start`; a line goes on to `next`, and the next line begins at `beside`
abbrev pub IsSheetThrough : Sheet → SweepOf → List ℤ → List ℤ → List ℤ → ℕ → Type 0
IsSheetThrough sheet m start next beside S =
    IsSheet sheet m start (scaled_way (pos S) start next) (scaled_way (pos S) start beside) S

-- the coefficients of the moment of the first point of line j
abbrev pub start_at : Sheet → ℤ → List ℤ
start_at sheet j = moved3 sheet.start.start sheet.side.start j

abbrev pub middle_at : Sheet → ℤ → List ℤ
middle_at sheet j = moved3 sheet.start.middle sheet.side.middle j

abbrev pub end_at : Sheet → ℤ → List ℤ
end_at sheet j = moved3 sheet.start.end sheet.side.end j

-- four times its scalar product with itself
abbrev pub own_product : Sheet → ℤ → List ℤ
own_product sheet j =
    scaled4 (pos 4) (vector_product (start_at sheet j) (middle_at sheet j) (end_at sheet j)
    (start_at sheet j) (middle_at sheet j) (end_at sheet j))

-- and what the number of steps along the line is taken times in the width form
abbrev pub first_at : Sheet → ℤ → List ℤ
first_at sheet j = moved5 sheet.first.c sheet.first_side.c j

-- what differs from line to line of a sheet fits, at line j
pub record FitsOn (sheet : Sheet) (j : ℤ) : Type 0 where
  pub start : IsWithin moments_limit (start_at sheet j)
  pub middle : IsWithin moments_limit (middle_at sheet j)
  pub end : IsWithin moments_limit (end_at sheet j)
  pub first : All IsSmall (first_at sheet j)
  pub height : IsBounded2 (3 * (offset_limit * axis_limit)) (moved3 sheet.height sheet.height_side j)

-- line j of a sheet
pub record IsLineOn (line : Line) (sheet : Sheet) (j : ℤ) : Type 0 where
  pub constant_is : line.constant.c ≡ own_product sheet j
  pub first_is : line.first.c ≡ first_at sheet j
  pub second_is : line.second.c ≡ sheet.second.c
  pub height_is : line.height ≡ moved3 sheet.height sheet.height_side j
  pub height_step_is : line.height_step ≡ sheet.height_step
