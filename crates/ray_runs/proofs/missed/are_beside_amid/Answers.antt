use Rattle.std.proofs.Common.{FitsSigned, refl, rules}
use mir.Syntax.{w64}
use Rattle.space.specs.Vectors.{at}
use Rattle.ray_runs.specs.Missed.{AreAbove}
use Rattle.moment_forms.specs.Moments.{vector_product}
use Rattle.ray_runs.proofs.StretchTests.{above_fitting, amid_cases}
use Rattle.ray_runs.proofs.missed.are_beside_amid.Goals as goal

pub returns : goal.returns
returns c = λ yes.
    let x = c.args.x.now in let y = c.args.y.now in let r = c.args.raised.now in let f = c.args.square in let hf = c.ranges.square in
    let r1 : FitsSigned w64 (at r 1) = search rules in
    let r2 : FitsSigned w64 (at r 2) = search rules in
    let r3 : FitsSigned w64 (at r 3) = search rules in
    amid_cases
    (λ i. AreAbove f (at r i) (at (vector_product x.start x.middle x.end x.start x.middle x.end) i) (at (vector_product x.start x.middle x.end y.start y.middle y.end) i)
    (at (vector_product y.start y.middle y.end y.start y.middle y.end) i))
    (above_fitting f (at r 1) _ _ _ hf r1 (c.if-not-are_above-2.ensures refl)) (above_fitting f (at r 2) _ _ _ hf r2 (c.are_above-3.ensures yes))
    (above_fitting f (at r 3) _ _ _ hf r3 (c.if-not-are_above.ensures refl))
