use Rattle.std.proofs.Common.{arith, ap, ◌*◌}
use Rattle.vf_text.proofs.PowerLemmas.{ten_next}
use Rattle.cl_lines.proofs.PowerLemmas.{ten_later-le, ten_later-zero}
use Rattle.cl_lines.proofs.rounding.raised.Goals as goal

pub returns-then-value-eq0 : goal.returns-then-value-eq0
returns-then-value-eq0 c = (ten_later-zero c.args.n c.loop-i.i c.args.up (omega arith) (omega arith), omega arith)

pub returns-then-value-most : goal.returns-then-value-most
returns-then-value-most c = omega (arith, ten_later-le c.args.n c.loop-i.i c.args.up (omega arith))

pub loop-i-preserved : goal.loop-i-preserved
loop-i-preserved c = omega (arith, ap (λ k. c.args.n * k) (ten_next c.loop-i.i))
