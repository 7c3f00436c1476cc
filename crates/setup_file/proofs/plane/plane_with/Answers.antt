use Rattle.std.proofs.Common.{pos, neg_ℤ, arith}
use Rattle.std.proofs.lemmas.Int.{ints, to_z-of_z}
use Rattle.setup_file.specs.Limits.{most_normal}
use Rattle.setup_file.proofs.Casts.{cast_back}
use Rattle.setup_file.proofs.Raised.{same_plane}
use Rattle.setup_file.proofs.plane.plane_with.Goals as goal

pub returns-clause-plane : goal.returns-clause-plane
returns-clause-plane c =
    let p = cast_back (neg_ℤ (pos most_normal)) (pos most_normal) c.args.a (omega (arith, ints)) (omega (arith, ints)) c.requires.a in
    let q = cast_back (neg_ℤ (pos most_normal)) (pos most_normal) c.args.b (omega (arith, ints)) (omega (arith, ints)) c.requires.b in
    let r = cast_back (neg_ℤ (pos most_normal)) (pos most_normal) c.args.c (omega (arith, ints)) (omega (arith, ints)) c.requires.c in
    same_plane _ _ _ _ _ _ _ _ p q r (to_z-of_z _ _ c.ranges.d)
