use Rattle.std.proofs.Common.{arith, sym, ◌^◌}
use Rattle.vf_text.proofs.PowerLemmas.{ten_positive, ten_monotone}
use Rattle.cl_lines.proofs.PowerLemmas.{nearest-small}
use Rattle.cl_lines.proofs.rounding.lowered.Goals as goal

pub returns-then-down-gt-LARGEST_DIVISOR : goal.returns-then-down-gt-LARGEST_DIVISOR
returns-then-down-gt-LARGEST_DIVISOR c = sym (nearest-small c.args.n (10 ^ c.args.down) (omega (arith, ten_monotone 31 c.args.down (omega arith))))

pub pow-power-requires : goal.pow-power-requires
pow-power-requires c = omega (arith, ten_monotone c.args.down 30 (omega arith))

pub overflow_add-result : goal.overflow_add-result
overflow_add-result c = omega (arith, ten_monotone c.args.down 30 (omega arith))

pub overflow_mul-result-2 : goal.overflow_mul-result-2
overflow_mul-result-2 c = omega (arith, ten_monotone c.args.down 30 (omega arith))

pub nonzero_div-result : goal.nonzero_div-result
nonzero_div-result c = omega (arith, ten_positive c.args.down)
