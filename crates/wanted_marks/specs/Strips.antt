-- The rays of one strip of a grid against one move of a cutter, ready for marks.
use Rattle.std.specs.Prelude.{ℕ, ◌^◌, ◌<◌, List, ℤ, pos}
use Rattle.space.specs.Ranges.{IsWithin}
use Rattle.bern_form.specs.Sizes.{offset_limit}
use Rattle.ray_grid.specs.Grids.{GridSize}
use Rattle.ray_grid.specs.declared.ray.Family.{Family}
use Rattle.ray_grid.specs.Families.{first_axis}
use Rattle.ray_grid.specs.Lattice.{nodes_of, point_at}
use Rattle.wanted_marks.specs.declared.sheet.Sheet.{Sheet}
use Rattle.wanted_marks.specs.Rays.{MoveOf, RayOf}
use Rattle.wanted_marks.specs.Sheets.{IsSheetThrough}
use Rattle.wanted_marks.specs.Ways.{scaled_way}

-- the rays of a family with the node i, and a move of a cutter
pub record StripOf : Type 0 where
  pub sweep : MoveOf
  pub grid : GridSize
  pub family : Family
  pub i : ℕ

-- the ray with the node j
abbrev pub ray_at : StripOf → ℕ → RayOf
ray_at s j = record { sweep = s.sweep; grid = s.grid; ray = record { family = s.family; i = s.i; j = j } }

-- point l of ray j of the strip
abbrev pub strip_point : StripOf → ℕ → ℕ → List ℤ
strip_point s j l = point_at s.grid s.family s.i j l

-- the way from point 0 of ray 0 to point l of ray j, times S
abbrev pub way_to : StripOf → ℕ → ℕ → ℕ → List ℤ
way_to s j l S = scaled_way (pos S) (strip_point s 0 0) (strip_point s j l)

-- the sheet runs through the points of the strip, by steps that are no longer than an offset can be
pub record IsSheetOf (sheet : Sheet) (s : StripOf) : Type 0 where
  pub forms : IsSheetThrough sheet s.sweep.sweep (strip_point s 0 0) (strip_point s 0 1) (strip_point s 1 0) (2 ^ s.sweep.depth)
  pub within : IsWithin offset_limit (way_to s 0 1 (2 ^ s.sweep.depth))

-- it is a strip of the grid, and the sheet runs through its points
pub record IsReadyStrip (sheet : Sheet) (s : StripOf) : Type 0 where
  pub first : s.i < nodes_of s.grid (first_axis s.family)
  pub sheet_of : IsSheetOf sheet s
