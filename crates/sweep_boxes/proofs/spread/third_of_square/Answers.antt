use Rattle.std.proofs.Common.{◌≡◌, ◌≤◌, ◌≤ℤ◌, ◌+ℤ◌, ◌*ℤ◌, ◌*◌, ◌^◌, ℤ, pos, unsigned_abs, FitsSigned, arith}
use Rattle.std.proofs.lemmas.Int.{ints, to_z-of_z}
use mir.Syntax.{w128}
use borrow.Author.Differences.{abs_is}
use Rattle.sweep_boxes.proofs.AlongSide.{third_up}
use Rattle.space.proofs.Words.{fits_of, small_in}
use Rattle.sweep_boxes.proofs.spread.third_of_square.Goals as goal

third_some : (q n : ℤ) → ((p : ℤ) → (p *ℤ pos 3) ≤ℤ n → p ≤ℤ q) → pos 0 ≤ℤ n → pos 0 ≤ℤ q
third_some q n last some = last (pos 0) (omega (arith, ints, some))

third_small : (q n : ℤ) → ((p : ℤ) → n ≤ℤ (p *ℤ pos 3) → q ≤ℤ p) → unsigned_abs n ≤ 25 * 10 ^ 32 → q ≤ℤ pos (9 * 10 ^ 32)
third_small q n first small = first (pos (9 * 10 ^ 32)) (omega (arith, ints, small, abs_is n))

-- the next number
next_of : (q : ℤ) → pos 0 ≤ℤ q → q ≤ℤ pos (9 * 10 ^ 32)
    → FitsSigned w128 (q +ℤ pos 1) × (pos 0 ≤ℤ (q +ℤ pos 1)) × (unsigned_abs (q +ℤ pos 1) ≤ 10 ^ 33)
next_of q some few = (omega (arith, ints, some, few), omega (arith, ints, some), omega (arith, ints, some, few, abs_is (q +ℤ pos 1)))

square_below : (n square third : ℤ) → n ≡ square → n ≤ℤ third → square ≤ℤ third
square_below n square third e h = omega (arith, ints, e, h)

pub length_square-requires : goal.length_square-requires
length_square-requires c = small_in c.args.length _ c.ranges.length c.requires

pub overflow_add-result : goal.overflow_add-result
overflow_add-result c =
    let q = c.quotient.result in let n = c.length_square.result in
    let fq = fits_of q c.quotient.type_inv in let fn = fits_of n c.length_square.type_inv in
    let last : (p : ℤ) → (p *ℤ pos 3) ≤ℤ n → p ≤ℤ q = simp to_z-of_z at c.quotient.ensures.last in
    let first : (p : ℤ) → n ≤ℤ (p *ℤ pos 3) → q ≤ℤ p = simp to_z-of_z at c.quotient.ensures.first in
    let next = next_of q (third_some q n last c.length_square.ensures.some) (third_small q n first c.length_square.ensures.small) in
    simp to_z-of_z next.0

pub returns : goal.returns
returns c =
    let q = c.quotient.result in let n = c.length_square.result in let length = c.ranges.length in
    let fq = fits_of q c.quotient.type_inv in let fn = fits_of n c.length_square.type_inv in
    let is : n ≡ c.args.length *ℤ c.args.length = simp to_z-of_z at c.length_square.ensures.value in
    let last : (p : ℤ) → (p *ℤ pos 3) ≤ℤ n → p ≤ℤ q = simp to_z-of_z at c.quotient.ensures.last in
    let first : (p : ℤ) → n ≤ℤ (p *ℤ pos 3) → q ≤ℤ p = simp to_z-of_z at c.quotient.ensures.first in
    let next = next_of q (third_some q n last c.length_square.ensures.some) (third_small q n first c.length_square.ensures.small) in
    let fits = next.0 in
    record {
      value = simp to_z-of_z (square_below n (c.args.length *ℤ c.args.length) (pos 3 *ℤ (q +ℤ pos 1)) is (third_up q n last));
      some = simp to_z-of_z next.1;
      small = simp to_z-of_z next.2;
    }
