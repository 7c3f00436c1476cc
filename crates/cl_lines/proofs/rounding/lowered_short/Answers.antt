use Rattle.std.proofs.Common.{arith}
use Rattle.vf_text.proofs.PowerLemmas.{ten_positive, ten_monotone}
use Rattle.cl_lines.proofs.rounding.lowered_short.Goals as goal

pub overflow_mul-result-2 : goal.overflow_mul-result-2
overflow_mul-result-2 c = omega (arith, c.pow-divisor.ensures, ten_monotone c.args.down 18 (omega arith))

pub nonzero_div-result : goal.nonzero_div-result
nonzero_div-result c = omega (arith, c.pow-divisor.ensures, ten_positive c.args.down)
