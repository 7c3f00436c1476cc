use Rattle.std.proofs.Common.{◌≤◌, ℤ, unsigned_abs, arith}
use Rattle.space.specs.Ranges.{vector_limit}
use Rattle.space.proofs.Words.{at_x, at_y, at_z, kept_small, read_as, three_same}
use Rattle.space.proofs.vector.difference.Goals as goal

way_small : (z : ℤ) → unsigned_abs z ≤ 2000000 → unsigned_abs z ≤ vector_limit
way_small z h = omega (arith, h)

pub apart-requires : goal.apart-requires
apart-requires c = record { i = at_x; p = c.requires.p.0; q = c.requires.q.0 }

pub apart-requires-2 : goal.apart-requires-2
apart-requires-2 c = record { i = at_y; p = c.requires.p.1; q = c.requires.q.1 }

pub apart-requires-3 : goal.apart-requires-3
apart-requires-3 c = record { i = at_z; p = c.requires.p.2; q = c.requires.q.2 }

pub returns : goal.returns
returns c =
    let x = c.apart in let y = c.apart-2 in let z = c.apart-3 in
    record {
      value = three_same _ _ _ _ _ _ (read_as x.result _ x.type_inv x.ensures.value) (read_as y.result _ y.type_inv y.ensures.value) (read_as z.result _ z.type_inv z.ensures.value);
      small = (
        kept_small x.result vector_limit x.type_inv (way_small x.result x.ensures.small),
        kept_small y.result vector_limit y.type_inv (way_small y.result y.ensures.small),
        kept_small z.result vector_limit z.type_inv (way_small z.result z.ensures.small),
      );
    }
