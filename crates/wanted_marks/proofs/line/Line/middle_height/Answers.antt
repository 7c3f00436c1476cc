use Rattle.std.proofs.Common.{arith}
use Rattle.wanted_marks.proofs.line.Line.middle_height.Goals as goal

pub height-requires-clause-small : goal.height-requires-clause-small
height-requires-clause-small c = let few = c.requires.height.middle in omega (arith, few)
