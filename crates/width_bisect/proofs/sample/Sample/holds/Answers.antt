use Rattle.std.proofs.Common.{◌≡◌, pos, arith, sym, ◌-◌, ◌+◌, ◌∙◌}
use Rattle.bern_form.specs.Slab.{covers}
use Rattle.box_bisect.specs.SlabTests.{is_reached}
use Rattle.box_bisect.proofs.Deciding.{none_reached, one_decides, one_reached}
use Rattle.box_bisect.proofs.Reaching.{sample_goes_up}
use Rattle.width_bisect.proofs.Sampling.{covers_is}
use Rattle.width_bisect.proofs.sample.Sample.holds.Goals as goal

pub returns-then-reached-eq0 : goal.returns-then-reached-eq0
returns-then-reached-eq0 c = λ w four.
    let at = c.args.self.now in let b = pos at.scale in
    sym (none_reached (λ s. covers s b at.u at.n w) (is_reached b at.u at.n) (sample_goes_up at.scale at.u at.n w) c.args.slabs.now c.args.reached c.requires.rising c.requires.reached c.if-reached-eq0.true)

pub returns : goal.returns
returns c = λ w four.
    let at = c.args.self.now in let b = pos at.scale in let j = c.args.reached in let x = c.index-slabs-reached.result in
    let e : j ≡ (j - 1) + 1 = omega (arith, c.if-reached-eq0.false) in
    let reached = one_reached (is_reached b at.u at.n) c.args.slabs.now j (j - 1) x c.requires.reached e c.index-slabs-reached.is in
    c.is_within.ensures
    ∙ covers_is x at.scale at.u at.n at.width w c.requires.ahead reached four
    ∙ sym (one_decides (λ s. covers s b at.u at.n w) (is_reached b at.u at.n) (sample_goes_up at.scale at.u at.n w) c.args.slabs.now j (j - 1) x c.requires.rising c.requires.reached e c.index-slabs-reached.is)
