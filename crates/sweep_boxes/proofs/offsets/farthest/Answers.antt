use Rattle.std.proofs.Common.{◌≤ℤ◌, ℤ, pos, unsigned_abs}
use Rattle.space.specs.Vectors.{at}
use Rattle.space.proofs.Words.{at_x, at_y, at_z, kept, kept_small}
use Rattle.sweep_boxes.proofs.offsets.farthest.Goals as goal

pub farther-requires : goal.farther-requires
farther-requires c = record { i = at_x; low = c.requires.low.0; high = c.requires.high.0 }

pub farther-requires-2 : goal.farther-requires-2
farther-requires-2 c = record { i = at_y; low = c.requires.low.1; high = c.requires.high.1 }

pub farther-requires-3 : goal.farther-requires-3
farther-requires-3 c = record { i = at_z; low = c.requires.low.2; high = c.requires.high.2 }

pub returns : goal.returns
returns c =
    let a = c.farther in let b = c.farther-2 in let d = c.farther-3 in
    record {
      value = λ v among. record {
        x = kept (λ (z : ℤ). pos (unsigned_abs (at v 0)) ≤ℤ z) a.result a.type_inv (a.ensures.value (at v 0) among.x.from_least among.x.to_most);
        y = kept (λ (z : ℤ). pos (unsigned_abs (at v 1)) ≤ℤ z) b.result b.type_inv (b.ensures.value (at v 1) among.y.from_least among.y.to_most);
        z = kept (λ (z : ℤ). pos (unsigned_abs (at v 2)) ≤ℤ z) d.result d.type_inv (d.ensures.value (at v 2) among.z.from_least among.z.to_most);
      };
      small = (kept_small a.result _ a.type_inv a.ensures.small, kept_small b.result _ b.type_inv b.ensures.small, kept_small d.result _ d.type_inv d.ensures.small);
    }
