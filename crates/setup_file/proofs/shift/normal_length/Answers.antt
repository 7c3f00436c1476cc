use Rattle.std.proofs.Common.{arith}
use Rattle.setup_file.proofs.shift.normal_length.Goals as goal

pub overflow_cast-result : goal.overflow_cast-result
overflow_cast-result c = let short = c.isqrt_ceil.ensures.least 17321 (omega arith) in omega arith

pub returns-clause-short : goal.returns-clause-short
returns-clause-short c = c.isqrt_ceil.ensures.least 17321 (omega arith)
