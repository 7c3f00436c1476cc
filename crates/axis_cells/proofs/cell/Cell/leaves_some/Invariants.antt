use Rattle.std.proofs.Common.{◌≡◌, drop, pos}
use Rattle.axis_cells.specs.Exclusion.{leaves_some}
use Rattle.axis_cells.proofs.cell.Cell.leaves_some.Given as goal

abbrev pub invariant-loop-slab : goal.invariant-loop-slab
invariant-loop-slab l =
    leaves_some (pos l.self.scale) l.self.is_behind l.self.n.c l.self.height.c l.self.width.c (drop l.slab-index l.slabs)
    ≡ leaves_some (pos l.self.scale) l.self.is_behind l.self.n.c l.self.height.c l.self.width.c l.slabs
