use Rattle.std.proofs.Common.{pos, arith, sym, ◌-◌, ◌+◌, ◌≡◌, ◌∙◌}
use Rattle.std.proofs.lemmas.Int.{ints}
use Rattle.bern_form.specs.Slab.{covers}
use Rattle.box_bisect.specs.SlabTests.{is_reached}
use Rattle.box_bisect.proofs.Deciding.{none_reached, one_decides}
use Rattle.box_bisect.proofs.Reaching.{none_behind, sample_goes_up}
use Rattle.box_bisect.proofs.held.is_covered_by_some.Goals as goal

pub returns-then-sample-lt0-clause-covered : goal.returns-then-sample-lt0-clause-covered
returns-then-sample-lt0-clause-covered g c = let at = c.args.sample.now in sym (none_behind at.scale at.u at.n at.w c.args.slabs.now (omega (arith, ints)))

pub returns-then-reached-eq0-clause-covered : goal.returns-then-reached-eq0-clause-covered
returns-then-reached-eq0-clause-covered g c =
    let at = c.args.sample.now in let b = pos at.scale in
    sym (none_reached (λ s. covers s b at.u at.n at.w) (is_reached b at.u at.n) (sample_goes_up at.scale at.u at.n at.w) c.args.slabs.now c.first_unreached-reached.result c.requires c.first_unreached-reached.ensures.first_unreached c.if-reached-eq0.true)

pub returns-clause-covered : goal.returns-clause-covered
returns-clause-covered g c =
    let at = c.args.sample.now in let b = pos at.scale in let j = c.first_unreached-reached.result in
    let e : j ≡ (j - 1) + 1 = omega (arith, c.if-reached-eq0.false) in
    c.is_covered_by.ensures
    ∙ sym (one_decides (λ s. covers s b at.u at.n at.w) (is_reached b at.u at.n) (sample_goes_up at.scale at.u at.n at.w) c.args.slabs.now j (j - 1) c.index-slabs-reached.result c.requires c.first_unreached-reached.ensures.first_unreached e c.index-slabs-reached.is)
