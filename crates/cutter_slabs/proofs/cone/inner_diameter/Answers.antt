-- The diameter is by the least widening.
use Rattle.std.proofs.Common.{◌+◌, ◌*◌, ap}
use Rattle.cutter_slabs.proofs.cone.inner_diameter.Goals as goal

pub returns-clause-diameter : goal.returns-clause-diameter
returns-clause-diameter c = ap (λ k. c.args.d + 2 * k) c.least_widening.ensures.value
