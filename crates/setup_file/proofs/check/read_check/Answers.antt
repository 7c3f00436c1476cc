use Rattle.setup_file.proofs.Casts.{is_check}
use Rattle.setup_file.proofs.check.read_check.Goals as goal

pub returns-clause-ranges : goal.returns-clause-ranges
returns-clause-ranges c =
    is_check c.in_ok-tolerance.tolerance c.in_ok-clearance.clearance c.in_ok-slabs.slabs c.in_ok-depth.depth
    c.in_ok-tolerance.ensures.range c.in_ok-clearance.ensures.range c.in_ok-slabs.ensures.range c.in_ok-depth.ensures.range
