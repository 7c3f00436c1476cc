use Rattle.std.proofs.Common.{◌+ℤ◌, arith}
use Rattle.std.proofs.lemmas.Int.{ints}
use borrow.Author.Differences.{abs_is}
use Rattle.sweep_boxes.proofs.spread.sum.Goals as goal

pub returns-clause-small : goal.returns-clause-small
returns-clause-small c = omega (arith, ints, c.requires.a, c.requires.b, abs_is c.args.a, abs_is c.args.b, abs_is (c.args.a +ℤ c.args.b))
