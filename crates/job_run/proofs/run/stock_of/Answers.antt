use Rattle.std.proofs.Common.{◌∙◌}
use Rattle.job_run.proofs.Leftovers.{finished_on, left_is, left_over}
use Rattle.job_run.proofs.run.stock_of.Goals as goal

pub remaining_sets-requires : goal.remaining_sets-requires
remaining_sets-requires c =
    let job = c.requires.job in
    let is = c.requires.so in
    record { job = job; so = finished_on job c.args.grid _ _ is.grid_is c.deref.ensures.value is.strips_are }

pub of_rays-requires : goal.of_rays-requires
of_rays-requires c =
    let job = c.requires.job in
    let is = c.requires.so in
    left_over job c.args.grid c.in_ok-sets.sets.items is.grid_is
    (c.in_ok-sets.ensures job (finished_on job c.args.grid _ _ is.grid_is c.deref.ensures.value is.strips_are))

pub returns : goal.returns
returns c = λ job is.
    c.of_rays.ensures
    ∙ left_is job c.args.grid c.in_ok-sets.sets.items is.grid_is
    (c.in_ok-sets.ensures job (finished_on job c.args.grid _ _ is.grid_is c.deref.ensures.value is.strips_are))
