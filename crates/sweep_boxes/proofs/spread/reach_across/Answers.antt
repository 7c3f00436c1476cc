use Rattle.std.proofs.Common.{◌≡◌, ◌≤◌, ◌≤ℤ◌, ◌+ℤ◌, ◌*ℤ◌, ◌*◌, ◌^◌, ℕ, ℤ, pos, unsigned_abs, arith, subst}
use Rattle.std.proofs.lemmas.Int.{ints, to_z-of_z}
use borrow.Author.Differences.{abs_is}
use Rattle.space.proofs.Words.{fits_of, kept_in, kept_small, kept_some, small_in}
use Rattle.sweep_boxes.proofs.spread.reach_across.Goals as goal

square_small : (n : ℕ) → n ≤ 25 * 10 ^ 32 → n ≤ 10 ^ 37
square_small n h = omega (arith, h)

third_small : (n : ℕ) → n ≤ 10 ^ 33 → n ≤ 10 ^ 37
third_small n h = omega (arith, h)

-- what is added
wide_of : (wide square third : ℤ) → wide ≡ square +ℤ third → pos 0 ≤ℤ square → pos 0 ≤ℤ third → unsigned_abs square ≤ 25 * 10 ^ 32
    → unsigned_abs third ≤ 10 ^ 33
    → (pos 0 ≤ℤ wide) × (unsigned_abs wide ≤ 35 * 10 ^ 32)
wide_of wide square third is some more h k = (omega (arith, ints, is, some, more), omega (arith, ints, is, h, k, abs_is wide, abs_is square, abs_is third))

all_of : (wide square third part : ℤ) → wide ≡ square +ℤ third → square ≡ part → wide ≡ part +ℤ third
all_of wide square third part is e = omega (arith, ints, is, e)

pub length_square-requires : goal.length_square-requires
length_square-requires c = small_in c.args.half _ c.ranges.half c.requires.half

pub sum-requires : goal.sum-requires
sum-requires c =
    let square = c.length_square in
    record {
      a = kept_small square.result _ square.type_inv (square_small (unsigned_abs square.result) square.ensures.small);
      b = small_in c.args.third _ c.ranges.third (third_small (unsigned_abs c.args.third) c.requires.third);
    }

pub root_of_product-requires : goal.root_of_product-requires
root_of_product-requires c =
    let square = c.length_square in let wide = c.sum in let f = fits_of square.result square.type_inv in let t = c.ranges.third in
    let is : wide.result ≡ square.result +ℤ c.args.third = simp to_z-of_z at wide.ensures.value in
    let of = wide_of wide.result square.result c.args.third is square.ensures.some c.requires.third_some square.ensures.small c.requires.third in
    record {
      square_some = kept_in (λ (z : ℤ). pos 0 ≤ℤ z) c.args.square c.ranges.square c.requires.square_some;
      square = small_in c.args.square _ c.ranges.square c.requires.square;
      wide_some = kept_some wide.result wide.type_inv of.0;
      wide = kept_small wide.result _ wide.type_inv of.1;
    }

pub returns : goal.returns
returns c =
    let square = c.length_square in let wide = c.sum in let root = c.root_of_product in
    let f = fits_of square.result square.type_inv in let g = fits_of wide.result wide.type_inv in let h = fits_of root.result root.type_inv in
    let t = c.ranges.third in let s = c.ranges.square in let l = c.ranges.half in
    let is : wide.result ≡ square.result +ℤ c.args.third = simp to_z-of_z at wide.ensures.value in
    let part : square.result ≡ c.args.half *ℤ c.args.half = simp to_z-of_z at square.ensures.value in
    let value : (c.args.square *ℤ wide.result) ≤ℤ (root.result *ℤ root.result) = simp to_z-of_z at root.ensures.value in
    record {
      value = simp to_z-of_z
          (subst (λ (z : ℤ). (c.args.square *ℤ z) ≤ℤ (root.result *ℤ root.result)) (all_of wide.result square.result c.args.third (c.args.half *ℤ c.args.half) is part) value);
      some = kept_some root.result root.type_inv root.ensures.some;
      small = kept_small root.result _ root.type_inv root.ensures.small;
    }
