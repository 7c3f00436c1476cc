use Rattle.std.proofs.Common.{◌≡◌, ◌≤ℤ◌, ℤ, arith, ◌≤◌, ◌*◌, ℕ, pos, unsigned_abs}
use Rattle.std.proofs.lemmas.Int.{ints, to_z-of_z}
use borrow.Author.Differences.{abs_is}
use Rattle.space.specs.Vectors.{at}
use Rattle.space.specs.Ranges.{vector_limit}
use Rattle.sweep_boxes.proofs.Numbers.{squares_below}
use Rattle.space.proofs.Words.{at_x, at_y, at_z, fits_of, kept_small, kept_some}
use Rattle.sweep_boxes.proofs.change.length_limit.Goals as goal

abbrev same : (z w : ℤ) → w ≡ z → z ≤ℤ w
same z w e = omega (arith, ints, e)

length_few : (z : ℤ) (n : ℕ) → z ≡ pos n → n ≤ 2 * (vector_limit * vector_limit) → unsigned_abs z ≤ 4 * (vector_limit * vector_limit)
length_few z n e h = omega (arith, ints, e, h, abs_is z)

pub length_along-requires : goal.length_along-requires
length_along-requires c = record { i = at_x; v = c.requires.0 }

pub length_along-requires-2 : goal.length_along-requires-2
length_along-requires-2 c = record { i = at_y; v = c.requires.1 }

pub length_along-requires-3 : goal.length_along-requires-3
length_along-requires-3 c = record { i = at_z; v = c.requires.2 }

pub length_up-requires : goal.length_up-requires
length_up-requires c =
    let x = c.length_along in let y = c.length_along-2 in let z = c.length_along-3 in
    record {
      a = kept_small x.result _ x.type_inv (length_few x.result _ x.ensures c.requires.0);
      b = kept_small y.result _ y.type_inv (length_few y.result _ y.ensures c.requires.1);
      c = kept_small z.result _ z.type_inv (length_few z.result _ z.ensures c.requires.2);
    }

pub returns-clause-some : goal.returns-clause-some
returns-clause-some c = kept_some c.length_up.result c.length_up.type_inv c.length_up.ensures.some

pub returns-clause-small : goal.returns-clause-small
returns-clause-small c = kept_small c.length_up.result _ c.length_up.type_inv c.length_up.ensures.small

pub returns-clause-value : goal.returns-clause-value
returns-clause-value c =
    let x = fits_of c.length_along.result c.length_along.type_inv in
    let y = fits_of c.length_along-2.result c.length_along-2.type_inv in
    let z = fits_of c.length_along-3.result c.length_along-3.type_inv in
    let r = fits_of c.length_up.result c.length_up.type_inv in
    let d = c.args.v.now in
    simp to_z-of_z (squares_below (at d 0) (at d 1) (at d 2) c.length_along.result c.length_along-2.result c.length_along-3.result _
    (same _ _ c.length_along.ensures) (same _ _ c.length_along-2.ensures) (same _ _ c.length_along-3.ensures)
    (simp to_z-of_z at c.length_up.ensures.value))
