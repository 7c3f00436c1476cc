use Rattle.std.proofs.Common.{◌≡◌, ◌≤◌, ◌≤ℤ◌, ℕ, ℤ, pos, unsigned_abs, arith}
use Rattle.std.proofs.lemmas.Int.{ints}
use borrow.Author.Differences.{abs_is}
use Rattle.space.specs.Vectors.{at}
use Rattle.space.specs.Ranges.{vector_limit}
use Rattle.space.proofs.Words.{at_x, at_y, at_z, kept, kept_small}
use Rattle.sweep_boxes.proofs.offsets.sizes.Goals as goal

at_least : (z : ℤ) (n : ℕ) → z ≡ pos n → pos n ≤ℤ z
at_least z n e = omega (arith, ints, e)

length_small : (z : ℤ) (n : ℕ) → z ≡ pos n → n ≤ vector_limit → unsigned_abs z ≤ vector_limit
length_small z n e h = omega (arith, ints, e, h, abs_is z)

pub size-requires : goal.size-requires
size-requires c = record { i = at_x; v = c.requires.0 }

pub size-requires-2 : goal.size-requires-2
size-requires-2 c = record { i = at_y; v = c.requires.1 }

pub size-requires-3 : goal.size-requires-3
size-requires-3 c = record { i = at_z; v = c.requires.2 }

pub returns : goal.returns
returns c =
    let v = c.args.v.now in let a = c.size in let b = c.size-2 in let d = c.size-3 in
    record {
      value = record {
        x = kept (λ (z : ℤ). pos (unsigned_abs (at v 0)) ≤ℤ z) a.result a.type_inv (at_least a.result _ a.ensures);
        y = kept (λ (z : ℤ). pos (unsigned_abs (at v 1)) ≤ℤ z) b.result b.type_inv (at_least b.result _ b.ensures);
        z = kept (λ (z : ℤ). pos (unsigned_abs (at v 2)) ≤ℤ z) d.result d.type_inv (at_least d.result _ d.ensures);
      };
      small = (
        kept_small a.result _ a.type_inv (length_small a.result _ a.ensures c.requires.0),
        kept_small b.result _ b.type_inv (length_small b.result _ b.ensures c.requires.1),
        kept_small d.result _ d.type_inv (length_small d.result _ d.ensures c.requires.2),
      );
    }
