-- The quotient is one more than the version.
use Rattle.std.proofs.Common.{arith}
use Rattle.strip_turns.proofs.moves.version_of.Goals as goal

pub returns : goal.returns
returns c = λ done few is. omega (arith, few, is)
