use Rattle.std.proofs.Common.{refl}
use Rattle.std.proofs.lemmas.Int.{to_z-of_z}
use Rattle.box_bisect.proofs.Halving.{half_fits, half_sum_small}
use Rattle.box_bisect.proofs.halves.half_sum.Goals as goal

pub returns-clause-value : goal.returns-clause-value
returns-clause-value c =
    let f = half_fits c.args.a c.args.b c.requires.a c.requires.b in
    let a = c.ranges.a in let b = c.ranges.b in let double = f.double in let whole = f.whole in let half = f.half in
    simp to_z-of_z refl

pub returns-clause-small : goal.returns-clause-small
returns-clause-small c m h k =
    let f = half_fits c.args.a c.args.b c.requires.a c.requires.b in
    let a = c.ranges.a in let b = c.ranges.b in let double = f.double in let whole = f.whole in let half = f.half in
    simp to_z-of_z (half_sum_small c.args.a c.args.b m h k)
