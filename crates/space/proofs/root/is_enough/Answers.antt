-- The square is tested.
use Rattle.std.proofs.Common.{◌*◌, ◌^◌, arith}
use borrow.Author.Tests.{leb-true, ltb-true}
use Rattle.space.proofs.root.is_enough.Goals as goal

pub returns-then-root : goal.returns-then-root
returns-then-root c = λ yes. (c.if-root.true, leb-true c.args.n (c.args.root * c.args.root) yes)

pub returns-else-root : goal.returns-else-root
returns-else-root c = λ yes. absurd (let few = ltb-true c.args.root (2 ^ 32) yes in omega (arith, few, c.if-root.false))
