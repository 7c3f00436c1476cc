use Rattle.std.proofs.Common.{◌≡◌, ℕ, arith, subst}
use Rattle.ray_grid.specs.Lattice.{point_of}
use Rattle.wanted_marks.specs.Rays.{IsRemovedBy, RayOf}
use Rattle.wanted_marks.specs.Runs.{IsRun}
use Rattle.wanted_marks.proofs.ray_marker.RayMarker.last_of_run.Goals as goal

one_run : (r : RayOf) (l : ℕ) → IsRemovedBy r.sweep (point_of r.grid r.ray l) → IsRun r l l
one_run r l sure x from to = let same : l ≡ x = omega (arith, from, to) in subst (λ z. IsRemovedBy r.sweep (point_of r.grid r.ray z)) same sure

pub loop-end-init : goal.loop-end-init
loop-end-init c = record {
  from = omega arith;
  order = omega (arith, c.requires.order);
  end = omega arith;
  to = c.requires.order;
  between = λ far. (omega (arith, far), omega arith);
  run = one_run c.args.self.now c.args.low.now.index c.requires.sure;
}
