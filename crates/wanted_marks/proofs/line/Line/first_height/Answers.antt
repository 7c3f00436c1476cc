use Rattle.std.proofs.Common.{arith}
use Rattle.wanted_marks.proofs.line.Line.first_height.Goals as goal

pub height-requires-clause-small : goal.height-requires-clause-small
height-requires-clause-small c = let few = c.requires.height.first in omega (arith, few)
