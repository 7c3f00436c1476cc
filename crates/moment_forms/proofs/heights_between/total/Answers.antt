use Rattle.std.proofs.Common.{arith}
use Rattle.std.proofs.lemmas.Int.{ints}
use borrow.Author.Differences.{abs_is}
use Rattle.moment_forms.proofs.heights_between.total.Goals as goal

pub returns : goal.returns
returns c = omega (arith, ints, abs_is c.args.x, abs_is c.args.y, c.requires.x, c.requires.y)
