use Rattle.std.proofs.Common.{arith}
use Rattle.bern_form.proofs.Roots.{root_le}
use Rattle.cutter_slabs.proofs.profile.inner_diameter.Goals as goal

pub returns-clause-small : goal.returns-clause-small
returns-clause-small c =
    let within = c.isqrt_floor.ensures.within in let small = c.corner_square.ensures.small in
    let root = root_le c.isqrt_floor.result c.args.radius (omega arith) in
    omega arith
