use Rattle.std.proofs.Common.{◌^◌}
use Rattle.ray_grid.specs.Lattice.{point_of, points_of}
use Rattle.holder_check.specs.Holder.{is_holder_possible, is_holder_sure}
use Rattle.holder_check.proofs.Flagged.{AreFlagged}
use Rattle.holder_check.proofs.marks.marks_by_points.Given as goal

abbrev pub invariant-loop-l : goal.invariant-loop-l
invariant-loop-l l = record {
  sure : AreFlagged (λ i. is_holder_sure l.holder l.sweep (point_of l.grid l.ray i) (2 ^ l.depth)) (points_of l.grid l.ray.family) l.sure l.l;
  possible : AreFlagged (λ i. is_holder_possible l.holder l.sweep (point_of l.grid l.ray i) (2 ^ l.depth)) (points_of l.grid l.ray.family) l.possible l.l;
}
