use Rattle.std.proofs.Common.{pos, arith, sym, ap}
use Rattle.std.proofs.lemmas.Int.{ints}
use Rattle.box_bisect.specs.SlabTests.{some_covers}
use Rattle.box_bisect.proofs.Reaching.{none_behind}
use Rattle.width_bisect.specs.Early.{sample_mark}
use Rattle.width_bisect.proofs.Tried.{reached_alike}
use Rattle.width_bisect.proofs.sample.Sample.mark.Goals as goal

pub returns-then-self-lt0 : goal.returns-then-self-lt0
returns-then-self-lt0 c = λ w four.
    let at = c.args.self.now in let inner = c.args.inner.now in
    ap (λ b. sample_mark (some_covers (pos at.scale) at.u at.n w inner) b) (sym (none_behind at.scale at.u at.n w c.args.outer.now (omega (arith, ints))))

pub holds-requires-2-clause-reached : goal.holds-requires-2-clause-reached
holds-requires-2-clause-reached c =
    let at = c.args.self.now in reached_alike (pos at.scale) at.u at.n c.args.inner.now c.args.outer.now c.reached-reached.result c.requires.lows c.reached-reached.ensures
