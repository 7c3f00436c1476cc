-- The tables `grid`, `check` and `tool`: what each sets, or its first fault. Lengths are micrometres.
use Rattle.std.specs.Prelude.{pos, neg_ℤ, ◌*ℤ◌, int_le, unsigned_abs, Result, Ok}
use Rattle.toml.specs.Data.{Members}
use Rattle.space.specs.Ranges.{metre}
use Rattle.cutter_slabs.specs.Cutter.{CutterSize}
use Rattle.ray_grid.specs.Grids.{GridSize}
use Rattle.setup_file.specs.declared.check.Check.{Check}
use Rattle.setup_keys.specs.declared.fault.SetupFault.{SetupFault}
use Rattle.setup_keys.specs.declared.key.KeyName.TheVariants as keys
use Rattle.setup_file.specs.Grids.{axes, count_along, divides_pitch, grid_from}
use Rattle.setup_file.specs.Limits.{most_check_depth, most_check_slabs, most_clearance, most_tolerance}
use Rattle.setup_file.specs.Limits.{most_tool_diameter, most_tool_height, most_tool_radius}
use Rattle.setup_file.specs.Reads.{◌>>=◌, each, number_at, numbers_at, only_if, ranged}

-- the grid: its counts are judged by the last point along each axis too
unfoldable pub grid_of : Members → Result GridSize SetupFault
grid_of table = do
  numbers ← numbers_at 3 keys.GridOrigin table
  origin ← each (ranged keys.GridOrigin (neg_ℤ (pos metre)) (pos metre)) numbers
  pitch ← number_at keys.GridPitch (pos 1) (pos metre) table
  step ← number_at keys.GridStep (pos 1) pitch table
  _ ← only_if (divides_pitch pitch step) keys.GridStep step
  counts ← numbers_at 3 keys.GridCounts table
  _ ← each (count_along origin pitch step counts) axes
  Ok (grid_from origin pitch step counts)

-- the settings of the check
unfoldable pub check_of : Members → Result Check SetupFault
check_of table = do
  tolerance ← number_at keys.CheckTolerance (pos 0) (pos most_tolerance) table
  clearance ← number_at keys.CheckClearance (pos 0) (pos most_clearance) table
  slabs ← number_at keys.CheckSlabs (pos 1) (pos most_check_slabs) table
  depth ← number_at keys.CheckDepth (pos 0) (pos most_check_depth) table
  Ok (record { tolerance = tolerance; clearance = clearance; slabs = unsigned_abs slabs; depth = unsigned_abs depth })

-- the tool, with an upright flank and the base 0: twice its radius is at most its diameter, and its height at least its radius
unfoldable pub tool_of : Members → Result CutterSize SetupFault
tool_of table = do
  diameter ← number_at keys.ToolDiameter (pos 1) (pos most_tool_diameter) table
  radius ← number_at keys.ToolRadius (pos 0) (pos most_tool_radius) table
  _ ← only_if (int_le (pos 2 *ℤ radius) diameter) keys.ToolRadius radius
  height ← number_at keys.ToolHeight (pos 1) (pos most_tool_height) table
  _ ← only_if (int_le radius height) keys.ToolHeight height
  Ok (record { d = unsigned_abs diameter; r = unsigned_abs radius; h = unsigned_abs height; flank = 0; base = 0 })
