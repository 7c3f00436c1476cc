-- The point that is given passed the test there.
use Rattle.std.proofs.Common.{◌≡◌, ◌+◌, ◌^◌, true, subst, sym, ◌∙◌}
use Rattle.bern_form.specs.Slab.{holds_at}
use Rattle.ray_grid.specs.Lattice.{point_of}
use Rattle.ray_runs.proofs.run.last_held.Goals as goal

pub returns-then-at_sample-clause-held : goal.returns-then-at_sample-clause-held
returns-then-at_sample-clause-held c =
    let there : c.point.result ≡ point_of c.args.grid.now c.args.ray.now (c.args.middle + c.loop-gap.gap) = c.point.ensures.position in
    subst (λ p. holds_at c.args.slab.now c.args.sweep.now p c.args.k (2 ^ c.args.depth) ≡ true) there (sym c.at_sample.ensures ∙ c.if-at_sample.true)
