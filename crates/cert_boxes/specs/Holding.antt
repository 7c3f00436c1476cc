-- When a cell line of a certificate is true by the rule of a box.
use Rattle.std.specs.Prelude.{ℕ, ◌+◌, ◌-◌, ◌^◌, ◌≤◌, ◌<◌, Bool, List}
use Rattle.std.specs.List.{list_all}
use Rattle.space.specs.Sweeps.{SweepOf}
use Rattle.bern_form.specs.Slab.{SlabSize}
use Rattle.cutter_slabs.specs.Stacks.{outer_stack}
use Rattle.ray_grid.specs.Grids.{GridSize}
use Rattle.ray_grid.specs.Lattice.{IsRay, point_of, points_of}
use Rattle.ray_boxes.specs.Boxes.{is_excluded_in_box}
use Rattle.cert_lines.specs.declared.cell.CertCell.{CertCell}
use Rattle.cert_boxes.specs.Tasks.{CertTask}

-- the slab is excluded on the line's box: for the points from a to b - 1 of the ray, during cell k of the 2^q cells
abbrev pub is_slab_excluded : SweepOf → GridSize → CertCell → SlabSize → Bool
is_slab_excluded sweep grid cell slab =
    is_excluded_in_box sweep (point_of grid cell.ray cell.a) (point_of grid cell.ray (cell.b - 1)) cell.k (cell.k + 1) (2 ^ cell.q) slab

-- every one of the slabs is
abbrev pub are_slabs_excluded : SweepOf → GridSize → List SlabSize → CertCell → Bool
are_slabs_excluded sweep grid slabs cell = list_all (is_slab_excluded sweep grid cell) slabs

-- the line's box excludes every outer slab of the cutter, cut into `slabs` slabs
abbrev pub box_holds : CertTask → ℕ → CertCell → Bool
box_holds task slabs cell = are_slabs_excluded task.sweep task.grid (outer_stack task.cutter slabs) cell

-- the numbers of a line that is in range for the grid
pub record IsLineInRange (grid : GridSize) (cell : CertCell) : Type 0 where
  pub ray : IsRay grid cell.ray
  pub few : cell.q ≤ 10
  pub part : cell.k < 2 ^ cell.q
  pub some : cell.a < cell.b
  pub within : cell.b ≤ points_of grid cell.ray.family
