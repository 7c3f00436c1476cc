use Rattle.std.proofs.Common.{◌≤◌, ◌≤ℤ◌, ◌*ℤ◌, ◌*◌, ◌^◌, ℤ, unsigned_abs, FitsSigned, arith}
use Rattle.std.proofs.lemmas.Int.{to_z-of_z}
use mir.Syntax.{w128}
use Rattle.space.proofs.Facts.{fits128}
use Rattle.space.proofs.Naturals.{abs_mul}
use Rattle.sweep_boxes.proofs.Stepped.{length_some}
use Rattle.space.proofs.Words.{fits_of, kept_small, kept_some}
use Rattle.sweep_boxes.proofs.spread.root_of_product.Goals as goal

small_of : (square wide : ℤ) → unsigned_abs square ≤ 192 → unsigned_abs wide ≤ 35 * 10 ^ 32 → unsigned_abs (square *ℤ wide) ≤ 10 ^ 36
small_of square wide h k = let small = abs_mul square wide 192 (35 * 10 ^ 32) h k in omega (arith, small)

fits_product : (square wide : ℤ) → unsigned_abs square ≤ 192 → unsigned_abs wide ≤ 35 * 10 ^ 32 → FitsSigned w128 (square *ℤ wide)
fits_product square wide h k = fits128 (square *ℤ wide) (10 ^ 36) (small_of square wide h k) (omega arith)

pub overflow_mul-square : goal.overflow_mul-square
overflow_mul-square c =
    let f = c.ranges.square in let g = c.ranges.wide in
    simp to_z-of_z (fits_product c.args.square c.args.wide c.requires.square c.requires.wide)

pub root_up-requires : goal.root_up-requires
root_up-requires c =
    let f = c.ranges.square in let g = c.ranges.wide in let fits = fits_product c.args.square c.args.wide c.requires.square c.requires.wide in
    record {
      some = simp to_z-of_z (length_some c.args.square c.args.wide c.requires.square_some c.requires.wide_some);
      small = simp to_z-of_z (small_of c.args.square c.args.wide c.requires.square c.requires.wide);
    }

pub returns : goal.returns
returns c =
    let f = c.ranges.square in let g = c.ranges.wide in let fits = fits_product c.args.square c.args.wide c.requires.square c.requires.wide in
    let r = fits_of c.root_up.result c.root_up.type_inv in
    let value : (c.args.square *ℤ c.args.wide) ≤ℤ (c.root_up.result *ℤ c.root_up.result) = simp to_z-of_z at c.root_up.ensures.value in
    record {
      value = simp to_z-of_z value;
      some = kept_some c.root_up.result c.root_up.type_inv c.root_up.ensures.some;
      small = kept_small c.root_up.result _ c.root_up.type_inv c.root_up.ensures.small;
    }
