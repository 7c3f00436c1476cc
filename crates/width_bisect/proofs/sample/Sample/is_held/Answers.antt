use Rattle.std.proofs.Common.{arith, sym}
use Rattle.std.proofs.lemmas.Int.{ints}
use Rattle.box_bisect.proofs.Reaching.{none_behind}
use Rattle.width_bisect.proofs.sample.Sample.is_held.Goals as goal

pub returns-then-self-lt0 : goal.returns-then-self-lt0
returns-then-self-lt0 c = λ w four. let at = c.args.self.now in sym (none_behind at.scale at.u at.n w c.args.slabs.now (omega (arith, ints)))
