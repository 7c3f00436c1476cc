-- What a plan keeps besides its moves and edits.
use Rattle.std.specs.Prelude.{ℕ, List, ◌++◌, length}
use Rattle.std.specs.Global.{Vec}
use Rattle.ray_grid.specs.Grids.{GridSize}
use Rattle.edit_plan.specs.declared.edit.Edit.{Edit}
use Rattle.job_model.specs.Tasks.{JobMove, PlanOf}
use Rattle.wanted_marks.specs.declared.ready_move.ReadyMove.{ReadyMove}
use Rattle.strip_plan.specs.declared.cutters.Cutters.{Cutters}
use Rattle.strip_plan.specs.declared.prepared.MoveTables.{MoveTables}
use Rattle.strip_plan.specs.declared.prepared.Prepared.{Prepared}
use Rattle.strip_plan.specs.declared.prepared.StripWindows.{StripWindows}
use Rattle.strip_plan.specs.Boxed.{HasBoxes}
use Rattle.strip_plan.specs.Cutters.{HasStacks}
use Rattle.strip_plan.specs.Cylinders.{HasCylinders}
use Rattle.strip_plan.specs.ReadyMoves.{HasReadyMoves}
use Rattle.strip_plan.specs.Untouched.{AreGroups}

-- for each move the stacks of its cutter are there
abbrev pub AreStacksOf : List JobMove → Cutters → Type 0
AreStacksOf moves cutters = HasStacks cutters.slabs moves cutters.stacks.items cutters.places.items (length moves)

-- the boxes are those of the moves, and the groups those of the edits
abbrev pub AreWindowsOf : GridSize → ℕ → ℕ → List JobMove → List Edit → StripWindows → Type 0
AreWindowsOf grid slabs depth moves edits windows =
    HasBoxes grid slabs depth moves windows.boxes.hulls.items windows.boxes.boxes.items windows.boxes.starts.items (length moves)
    × AreGroups windows.boxes.hulls.items edits windows.groups.items

-- what is computed of each move for its marks: that of the first moves in one list, and that of the rest in another
abbrev pub AreHalves : ℕ → ℕ → List JobMove → Vec ReadyMove × Vec ReadyMove → Type 0
AreHalves slabs depth moves halves = HasReadyMoves slabs depth moves 0 (length moves) (halves.0.items ++ halves.1.items)

-- each move has its cylinder, and what is computed of it for its marks
abbrev pub AreTablesFor : GridSize → ℕ → ℕ → List JobMove → MoveTables → Type 0
AreTablesFor grid slabs depth moves tables =
    HasCylinders grid slabs depth moves tables.cylinders.items (length moves)
    × AreHalves slabs depth moves (tables.early, tables.late)

-- all of it is that of one plan's moves and edits
abbrev pub IsPreparedOf : PlanOf → Prepared → Type 0
IsPreparedOf plan prepared =
    AreWindowsOf plan.grid plan.slabs plan.depth plan.moves plan.edits prepared.windows
    × AreTablesFor plan.grid plan.slabs plan.depth plan.moves prepared.tables
