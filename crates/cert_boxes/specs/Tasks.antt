-- What a certificate is judged for: one move of a cutter, and the bodies that it must not touch.
use Rattle.std.specs.Prelude.{Bool, ◌||◌}
use Rattle.space.specs.Sweeps.{SweepOf}
use Rattle.cutter_slabs.specs.Cutter.{CutterSize}
use Rattle.ray_grid.specs.Grids.{GridSize}
use Rattle.ray_grid.specs.Points.{LatticePoint}
use Rattle.ray_shapes.specs.declared.solid.Solid.{Solid}
use Rattle.ray_shapes.specs.Sets.{in_solid}

-- the move and its cutter, the lattice, the part and the fixtures
pub record CertTask : Type 0 where
  pub sweep : SweepOf
  pub cutter : CutterSize
  pub grid : GridSize
  pub part : Solid
  pub fixture : Solid

abbrev pub cert_task : SweepOf → CutterSize → GridSize → Solid → Solid → CertTask
cert_task sweep cutter grid part fixture = record { sweep = sweep; cutter = cutter; grid = grid; part = part; fixture = fixture }

-- the point is one of the part or of the fixtures
abbrev pub is_guarded : CertTask → LatticePoint → Bool
is_guarded task point = in_solid task.part task.grid point || in_solid task.fixture task.grid point
