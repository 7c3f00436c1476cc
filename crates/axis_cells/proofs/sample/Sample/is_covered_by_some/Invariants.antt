use Rattle.std.proofs.Common.{◌≡◌, drop, pos}
use Rattle.axis_cells.specs.Exclusion.{covered_by_some}
use Rattle.axis_cells.proofs.sample.Sample.is_covered_by_some.Given as goal

abbrev pub invariant-loop-slab : goal.invariant-loop-slab
invariant-loop-slab l = covered_by_some (pos l.self.scale) l.self.u l.self.n l.self.w (drop l.slab-index l.slabs) ≡ covered_by_some (pos l.self.scale) l.self.u l.self.n l.self.w l.slabs
