use Rattle.std.proofs.Common.{◌^◌, refl, subst, ◌≤◌}
use Rattle.ray_grid.specs.Lattice.{point_of}
use Rattle.ray_boxes.proofs.Lines.{ray_line}
use Rattle.ray_runs.proofs.Runs.{are_sure}
use Rattle.ray_runs.proofs.run.sure_run.Goals as goal

pub returns-in-Some-clause-sure : goal.returns-in-Some-clause-sure
returns-in-Some-clause-sure c =
    let grid = c.args.grid.now in let ray = c.args.ray.now in let S = 2 ^ c.args.depth in
    are_sure c.args.stacks.now c.inner.result.now c.args.sweep.now (point_of grid ray) c.in-Some.slab c.likely_sample-k.result S S c.first_held-first.result c.last_held-last.result (ray_line grid ray) c.inner.ensures.stack
    c.in-Some.ensures.one (subst (λ i. c.likely_sample-k.result ≤ i) c.cells_of.ensures.cells c.likely_sample-k.ensures) refl c.first_held-first.ensures.held c.last_held-last.ensures.held
