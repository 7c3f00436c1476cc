-- The limits of a setup's numbers. Lengths are micrometres. Those of the grid's nodes are with the grid.
use Rattle.std.specs.Prelude.{ℕ}

-- how deep the part may be cut, at most, and how far a fixture may have to be kept clear
abbrev pub most_tolerance : ℕ
most_tolerance = 10000

abbrev pub most_clearance : ℕ
most_clearance = 100000

-- how many slabs a cutter may be cut into, and how often time may be halved
abbrev pub most_check_slabs : ℕ
most_check_slabs = 256

abbrev pub most_check_depth : ℕ
most_check_depth = 10

-- the tool's greatest sizes
abbrev pub most_tool_diameter : ℕ
most_tool_diameter = 200000

abbrev pub most_tool_radius : ℕ
most_tool_radius = 100000

abbrev pub most_tool_height : ℕ
most_tool_height = 300000

-- how many bodies the stock may have, and how many part and fixture
abbrev pub most_stock_bodies : ℕ
most_stock_bodies = 16

abbrev pub most_other_bodies : ℕ
most_other_bodies = 64

-- how many planes a body may have
abbrev pub most_planes : ℕ
most_planes = 64

-- how far from 0 a component of a plane's normal may be, and its right side
abbrev pub most_normal : ℕ
most_normal = 10000

abbrev pub most_right_side : ℕ
most_right_side = 100000000000
