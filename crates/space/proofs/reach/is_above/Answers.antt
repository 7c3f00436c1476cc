use Rattle.std.proofs.Common.{arith, ◌-ℤ◌, to_z, of_z, w64}
use Rattle.std.proofs.lemmas.Int.{ints}
use Rattle.space.proofs.Tests.{le_same}
use Rattle.space.proofs.reach.is_above.Goals as goal

pub returns : goal.returns
returns c =
    le_same (to_z w64 (of_z w64 (to_z w64 (of_z w64 c.from.result) -ℤ to_z w64 (of_z w64 c.from-2.result)))) (to_z w64 (of_z w64 c.from-3.result))
    (c.args.end -ℤ c.args.reach) c.args.x (omega (arith, ints)) (omega (arith, ints))
