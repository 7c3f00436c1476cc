use Rattle.std.proofs.Common.{refl}
use Rattle.std.proofs.lemmas.Int.{to_z-of_z}
use Rattle.width_bisect.proofs.Shifting.{middle2_fits}
use Rattle.width_bisect.proofs.halves.middle2.Goals as goal

pub returns : goal.returns
returns c =
    let f = middle2_fits c.args.a c.args.b c.args.c c.requires.a c.requires.b c.requires.c in
    let a = c.ranges.a in let b = c.ranges.b in let last = c.ranges.c in let two = f.two in let whole = f.whole in let middle = f.middle in
    simp to_z-of_z refl
