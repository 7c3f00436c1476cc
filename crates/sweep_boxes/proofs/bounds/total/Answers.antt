use Rattle.std.proofs.Common.{arith}
use Rattle.std.proofs.lemmas.Int.{ints}
use borrow.Author.Differences.{abs_is}
use Rattle.sweep_boxes.proofs.bounds.total.Goals as goal

pub returns-clause-value : goal.returns-clause-value
returns-clause-value c = omega (arith, ints, c.requires.a, c.requires.b, c.requires.c, abs_is c.args.a, abs_is c.args.b, abs_is c.args.c)
