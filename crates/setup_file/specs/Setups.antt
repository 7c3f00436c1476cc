-- The setup that bytes stand for, by plain numbers and its bodies by their planes, or its first fault.
use Rattle.std.specs.Prelude.{ℕ, List, Option, Some, None, Result, Ok, Err, if◌then◌else◌}
use Rattle.std.specs.Str.{is_utf8}
use Rattle.toml.specs.Data.{Members}
use Rattle.toml.specs.Parse.{parse_document}
use Rattle.ray_grid.specs.declared.turn.Turn.{Turn}
use Rattle.ray_shapes.specs.declared.plane.Plane.{Plane}
use Rattle.setup_keys.specs.declared.fault.SetupFault.{SetupFault}
use Rattle.setup_keys.specs.declared.fault.SetupFault.TheVariants.{SetupKey, SetupSyntax}
use Rattle.setup_keys.specs.declared.key.KeyName.{KeyName}
use Rattle.setup_keys.specs.declared.key.KeyName.TheVariants as keys
use Rattle.setup_file.specs.declared.setup.Numbers.{Numbers}
use Rattle.setup_file.specs.declared.setup.Setup.{Setup}
use Rattle.setup_file.specs.Bodies.{bodies_at, fixture_list, part_list, stock_list}
use Rattle.setup_file.specs.Reads.{◌>>=◌, table_at}
use Rattle.setup_file.specs.Tables.{check_of, grid_of, tool_of}
use Rattle.setup_file.specs.TurnTable.{turn_at}
use Rattle.setup_file.specs.Unknown.{first_unknown}

-- a setup of its parts
abbrev pub setup_from : Numbers → List (List Plane) → List (List Plane) → List (List Plane) → Option Turn → Setup
setup_from numbers stock part fixture turn = record {
  grid = numbers.grid;
  stock = stock;
  part = part;
  fixture = fixture;
  tool = numbers.tool;
  tolerance = numbers.check.tolerance;
  clearance = numbers.check.clearance;
  slabs = numbers.check.slabs;
  depth = numbers.check.depth;
  turn = turn;
}

-- what is read, unless a table holds a key that isn't known
abbrev pub unless_unknown : {A : Type 0} → Option KeyName → A → Result A SetupFault
unless_unknown None value = Ok value
unless_unknown (Some table) value = Err (SetupKey table)

-- what the tables `grid`, `check` and `tool` set, or the first fault in this order
unfoldable pub numbers_of : Members → Result Numbers SetupFault
numbers_of setup = do
  grid ← table_at keys.Grid setup >>= grid_of
  check ← table_at keys.Check setup >>= check_of
  tool ← table_at keys.Tool setup >>= tool_of
  Ok (record { grid = grid; check = check; tool = tool })

-- the setup of a table, or the first fault in this order
unfoldable pub setup_in : Members → Result Setup SetupFault
setup_in setup = do
  numbers ← numbers_of setup
  stock ← bodies_at stock_list setup
  part ← bodies_at part_list setup
  fixture ← bodies_at fixture_list setup
  turn ← turn_at setup
  unless_unknown (first_unknown setup) (setup_from numbers stock part fixture turn)

-- the table that a text is, where it is UTF-8 and TOML
abbrev pub table_of_text : List ℕ → Option Members
table_of_text bytes = if is_utf8 bytes then parse_document bytes else None

abbrev pub setup_by : Option Members → Result Setup SetupFault
setup_by None = Err SetupSyntax
setup_by (Some table) = setup_in table

-- the setup of a whole text, or its first fault
abbrev pub setup_of : List ℕ → Result Setup SetupFault
setup_of bytes = setup_by (table_of_text bytes)
