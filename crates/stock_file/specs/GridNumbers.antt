-- The numbers of a grid line as a grid.
use Rattle.std.specs.Prelude.{pos}
use Rattle.ray_grid.specs.Grids.{GridSize}
use Rattle.stock_file.specs.declared.grid_line.GridNumbers.{GridNumbers}

abbrev pub numbers_of : GridNumbers → GridSize
numbers_of g = record { origin = g.origin; pitch = pos g.pitch; step = pos g.step; counts = g.counts }
