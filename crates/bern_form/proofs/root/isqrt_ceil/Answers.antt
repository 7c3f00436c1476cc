use Rattle.std.proofs.Common.{◌<◌, ◌*◌, ◌+◌, arith}
use Rattle.bern_form.proofs.Roots.{is_ceil_root, is_least, least_of_equal}
use Rattle.bern_form.proofs.root.isqrt_ceil.Goals as goal

pub returns-then-below-n-clause-root : goal.returns-then-below-n-clause-root
returns-then-below-n-clause-root c =
    is_ceil_root c.args.n c.isqrt_floor-below.result (omega arith) (λ s h. least_of_equal c.args.n c.isqrt_floor-below.result s (omega arith) h)

pub returns-else-below-n-clause-root : goal.returns-else-below-n-clause-root
returns-else-below-n-clause-root c =
    let b = c.isqrt_floor-below.result in
    let below : b * b < c.args.n = omega arith in
    is_ceil_root c.args.n (b + 1) (omega arith) (λ s h. is_least c.args.n b s below h)
