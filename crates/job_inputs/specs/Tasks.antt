-- The task that a program, a setup, a saved stock and a script stand for.
use Rattle.std.specs.Prelude.{ℕ, pos, neg_ℤ, List, length, map, Option, Some, None, unwrap_or, Result, Ok, Err}
use Rattle.cl_records.specs.declared.cutter.CutterText.{CutterText}
use Rattle.cl_moves.specs.Moves.{sweep_of}
use Rattle.cl_moves.specs.declared.moves.Move.{Move}
use Rattle.cl_moves.specs.declared.program.Program.{Program}
use Rattle.cutter_slabs.specs.Cutter.{CutterSize}
use Rattle.edit_plan.specs.declared.script.Script.{Script}
use Rattle.edit_plan.specs.Script.{whole_of_moves}
use Rattle.job_model.specs.Tasks.{JobMove}
use Rattle.job_report.specs.Tasks.{Task}
use Rattle.made_program.specs.Made.{made_moves, made_of}
use Rattle.made_setup.specs.Made.{made_setup}
use Rattle.ray_grid.specs.declared.turn.Turn.{Turn}
use Rattle.ray_shapes.specs.declared.plane.Plane.{Plane}
use Rattle.ray_shapes.specs.declared.solid.Solid.{Solid}
use Rattle.ray_shapes.specs.declared.solid.Solid.TheVariants.{Bodies, Listed, Turned}
use Rattle.input_faults.specs.declared.fault.Fault.{Fault}
use Rattle.input_faults.specs.declared.fault.Fault.TheVariants.{CutterHeight}
use Rattle.setup_file.specs.Shift.{shifted_of}
use Rattle.setup_file.specs.declared.setup.Setup.{Setup}
use Rattle.move_cutters.specs.Cutters.{first_low, size_of}
use Rattle.stock_file.specs.Saved.{Saved}
use Rattle.job_inputs.specs.Inputs.{◌>>=◌, read_of, script_read_of, setup_read_of}
use Rattle.job_inputs.specs.Stocks.{stock_for}
use Rattle.move_cutters.specs.declared.cutters.CutterDefaults.{CutterDefaults}

-- a tool as a program would give it
abbrev pub tool_text : CutterSize → CutterText
tool_text tool = record { d = pos tool.d; r = pos tool.r; h = Some (pos tool.h); flank = tool.flank }

-- a move without a cutter has the setup's tool, and a cutter without a height is as high as that
abbrev pub tool_defaults : CutterSize → CutterDefaults
tool_defaults tool = record { cutter = Some (tool_text tool); height = pos tool.h }

-- a move with the cutter that it is made with
abbrev pub job_move : CutterSize → Move → JobMove
job_move tool move = record {
  sweep = sweep_of move;
  cutter = size_of (tool_defaults tool) (unwrap_or move.cutter (tool_text tool));
  rapid = move.rapid;
  line = move.line;
}

-- bodies as they lie where there is a turn, and where there is none
abbrev pub solid_turned : Option Turn → List (List Plane) → Solid
solid_turned None bodies = Bodies bodies
solid_turned (Some turn) bodies = Turned (record { bodies = bodies; turn = turn })

-- the part of a setup: lowered by its tolerance, and then turned
abbrev pub part_as_it_lies : Setup → Solid
part_as_it_lies setup = solid_turned setup.turn (shifted_of (neg_ℤ setup.tolerance) setup.part)

-- the stock: what was saved, as it lies in the grid, or else the setup's bodies
abbrev pub stock_as_it_lies : Setup → Option Saved → Solid
stock_as_it_lies setup None = Bodies setup.stock
stock_as_it_lies setup (Some saved) = Listed saved.sets

-- the task of what was read: stock and part as they lie, and the fixtures raised by their clearance
abbrev pub task_by : Program → Setup → Option Saved → Script → Task
task_by program setup saved script = record {
  job = record {
    plan = record {
      grid = setup.grid;
      slabs = setup.slabs;
      depth = setup.depth;
      moves = map (job_move setup.tool) program.moves;
      edits = script.edits;
    };
    stock = stock_as_it_lies setup saved;
    part = part_as_it_lies setup;
    fixture = Bodies (shifted_of setup.clearance setup.fixture);
  };
  passed = program.passed;
  queries = script.queries;
}

-- a program, unless the cutter of the move on a line is less high than its corner radius
abbrev pub unless_low : Option ℕ → Program → Result Program Fault
unless_low None program = Ok program
unless_low (Some at) program = Err (CutterHeight at)

-- the task of what was read but for the script, and of the script's bytes, which may be missing, or the script's fault
abbrev pub task_placed : Program → Setup → Option Saved → Option (List ℕ) → Result Task Fault
task_placed program setup saved script = do
  read ← script_read_of (length program.moves) setup.grid script
  Ok (task_by program setup saved read)

-- The task of a program, a setup, and the bytes of a saved stock and of a script, which may be missing, or the first fault. That of a
-- cutter that is too low comes first, then the stock's, and then the script's.
abbrev pub task_with : Program → Setup → Option (List ℕ) → Option (List ℕ) → Result Task Fault
task_with program setup stock script = do
  _ ← unless_low (first_low (tool_defaults setup.tool) program.moves) program
  placed ← stock_for setup stock
  task_placed program setup placed script

-- the same of a program and the bytes of a setup
abbrev pub task_behind : Program → List ℕ → Option (List ℕ) → Option (List ℕ) → Result Task Fault
task_behind program setup stock script = do
  read ← setup_read_of setup
  task_with program read stock script

-- the same of the bytes of all files
abbrev pub task_of : List ℕ → List ℕ → Option (List ℕ) → Option (List ℕ) → Result Task Fault
task_of file setup stock script = do
  program ← read_of file
  task_behind program setup stock script

-- the task of a program that is generated from a number: each move is applied once in order, and nothing is asked
abbrev pub made_task : ℕ → Task
made_task number = task_by (made_of number) made_setup None (whole_of_moves made_moves)
