-- The diameter is by the root rounded up of the corner's square, which is no more than the radius.
use Rattle.std.proofs.Common.{◌+◌, ◌*◌, ap, arith, ◌∙◌}
use Rattle.bern_form.specs.Roots.{ceil_root}
use Rattle.cutter_slabs.proofs.profile.outer_diameter.Goals as goal

pub returns-clause-diameter : goal.returns-clause-diameter
returns-clause-diameter c =
    ap (λ k. c.args.flat + 2 * k) (c.isqrt_ceil.ensures.root ∙ ap ceil_root c.corner_square.ensures.square)

pub returns-clause-small : goal.returns-clause-small
returns-clause-small c =
    let root = c.isqrt_ceil.ensures.least c.args.radius c.corner_square.ensures.small in
    omega arith
