-- A job: what is cut, and what is judged.
use Rattle.std.specs.Prelude.{ℕ, ◌<◌, Bool, List}
use Rattle.std.specs.List.{All}
use Rattle.space.specs.Sweeps.{IsSweep, SweepOf}
use Rattle.cutter_slabs.specs.Cutter.{CutterSize, IsCutter}
use Rattle.ray_grid.specs.Grids.{GridSize}
use Rattle.ray_shapes.specs.declared.solid.Solid.{Solid}
use Rattle.edit_plan.specs.declared.edit.Edit.{Edit}

-- a move of the program, with the cutter that it has once the setup's tool fills what is missing
pub record JobMove : Type 0 where
  pub sweep : SweepOf
  pub cutter : CutterSize
  pub rapid : Bool
  pub line : ℕ

-- What is cut: the lattice, how finely the cutter and the time are cut, the moves of the program, and the edits.
pub record PlanOf : Type 0 where
  pub grid : GridSize
  pub slabs : ℕ
  pub depth : ℕ
  pub moves : List JobMove
  pub edits : List Edit

-- What is judged: what is cut; and the stock, the part (lowered by its tolerance) and the fixtures (raised by their clearance) as
-- solids.
pub record Job : Type 0 where
  pub plan : PlanOf
  pub stock : Solid
  pub part : Solid
  pub fixture : Solid

-- a move is valid
pub record IsJobMove (move : JobMove) : Type 0 where
  pub sweep : IsSweep move.sweep
  pub cutter : IsCutter move.cutter

-- the cutter is cut into some slabs, and every move is valid
pub record IsPlan (plan : PlanOf) : Type 0 where
  pub some : 0 < plan.slabs
  pub moves : All IsJobMove plan.moves
