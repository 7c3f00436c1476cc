-- What is true of every setup that is read. Lengths are micrometres.
use Rattle.std.specs.Prelude.{◌≡◌, ℕ, ◌≤◌, pos, neg_ℤ, List, All, IfSome, length}
use Rattle.space.specs.Ranges.{IsBetween}
use Rattle.cutter_slabs.specs.Cutter.{CutterSize, IsCutter}
use Rattle.ray_grid.specs.Ranges.{IsGrid}
use Rattle.ray_grid.specs.Turns.{IsTurn}
use Rattle.ray_shapes.specs.declared.plane.Plane.{Plane}
use Rattle.setup_file.specs.declared.check.Check.{Check}
use Rattle.setup_file.specs.declared.setup.Setup.{Setup}
use Rattle.setup_file.specs.Limits.{most_check_depth, most_check_slabs, most_clearance, most_tolerance}
use Rattle.setup_file.specs.Limits.{most_normal, most_other_bodies, most_planes, most_right_side, most_stock_bodies}

-- a plane with its numbers in their ranges
pub record IsPlane (plane : Plane) : Type 0 where
  pub a_in : IsBetween (neg_ℤ (pos most_normal)) (pos most_normal) plane.a
  pub b_in : IsBetween (neg_ℤ (pos most_normal)) (pos most_normal) plane.b
  pub c_in : IsBetween (neg_ℤ (pos most_normal)) (pos most_normal) plane.c
  pub d_in : IsBetween (neg_ℤ (pos most_right_side)) (pos most_right_side) plane.d

-- a body of at least one plane and not too many
pub record IsBody (body : List Plane) : Type 0 where
  pub some : 1 ≤ length body
  pub few : length body ≤ most_planes
  pub planes : All IsPlane body

-- from `least` to `most` bodies
pub record AreBodies (least most : ℕ) (bodies : List (List Plane)) : Type 0 where
  pub some : least ≤ length bodies
  pub few : length bodies ≤ most
  pub bodies_in : All IsBody bodies

-- the settings of a check, in their ranges
pub record IsCheck (check : Check) : Type 0 where
  pub tolerance_in : IsBetween (pos 0) (pos most_tolerance) check.tolerance
  pub clearance_in : IsBetween (pos 0) (pos most_clearance) check.clearance
  pub some_slabs : 1 ≤ check.slabs
  pub few_slabs : check.slabs ≤ most_check_slabs
  pub shallow : check.depth ≤ most_check_depth

-- a valid cutter with an upright flank, which begins at the tip
pub record IsTool (tool : CutterSize) : Type 0 where
  pub valid : IsCutter tool
  pub upright : tool.flank ≡ 0
  pub from_tip : tool.base ≡ 0

-- the settings that a setup has for the check
abbrev pub settings : Setup → Check
settings setup =
    record { tolerance = setup.tolerance; clearance = setup.clearance; slabs = setup.slabs; depth = setup.depth }

-- a setup whose grid and tool are valid and whose numbers are all in their ranges
pub record IsSetup (setup : Setup) : Type 0 where
  pub grid_in : IsGrid setup.grid
  pub stock_in : AreBodies 1 most_stock_bodies setup.stock
  pub part_in : AreBodies 0 most_other_bodies setup.part
  pub fixture_in : AreBodies 0 most_other_bodies setup.fixture
  pub check_in : IsCheck (settings setup)
  pub tool_in : IsTool setup.tool
  pub turn_in : IfSome setup.turn IsTurn
