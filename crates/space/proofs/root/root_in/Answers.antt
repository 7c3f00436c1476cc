use Rattle.std.proofs.Common.{◌≤ℤ◌, ◌*ℤ◌, ◌*◌, ◌+◌, ◌/◌, ◌%◌, ◌≤◌, ◌<◌, ℕ, ℤ, pos, negsuc, FitsSigned, to_z, ◌^◌, ◌≡◌, unsigned_abs, arith}
use Rattle.std.proofs.lemmas.Int.{ints, to_z-of_z, to_z_pos}
use Rattle.std.proofs.Math.Nat.{div-add-mod, div-lt_iff_lt-mul, mod-lt, mul-le-mul}
use mir.Syntax.{w64, w128}
use borrow.Author.Rules.{Fits-under, next_fits}
use Rattle.space.proofs.Facts.{fits128, product_fits}
use Rattle.space.proofs.Words.{fits_of, kept_small, kept_some}
use Rattle.space.proofs.root.root_in.Goals as goal

-- what is left of a number besides the whole squares of the unit is less than one of them
more_units : (n u : ℕ) → 1 ≤ u → n ≤ (n / (u * u) + 1) * (u * u)
more_units n u some =
    let one : 1 * 1 ≤ u * u = mul-le-mul some some in
    let rest : n % (u * u) < u * u = mod-lt n (omega (arith, one)) in
    omega (arith, rest, div-add-mod n (u * u))

in_units : (n u : ℕ) (r : ℤ) → 1 ≤ u → pos (n / (u * u) + 1) ≤ℤ (r *ℤ r) → pos 0 ≤ℤ r → pos n ≤ℤ ((r *ℤ pos u) *ℤ (r *ℤ pos u))
in_units n u (pos k) some root h =
    let rooted : n / (u * u) + 1 ≤ k * k = omega (arith, ints, root) in
    let same : u * u ≤ u * u = omega arith in
    let all : (n / (u * u) + 1) * (u * u) ≤ k * k * (u * u) = mul-le-mul rooted same in
    omega (arith, ints, more_units n u some, all)
in_units n u (negsuc k) some root h = absurd (omega (arith, ints, h))

square_some : (u : ℕ) → 1 ≤ u → 0 < u * u
square_some u some = let one : 1 * 1 ≤ u * u = mul-le-mul some some in omega (arith, one)

square_few : (u : ℕ) → u ≤ 2 ^ 29 → u * u < 2 ^ 59
square_few u few = let most : u * u ≤ 2 ^ 29 * 2 ^ 29 = mul-le-mul few few in omega (arith, most)

part_few : (n u : ℕ) → 1 ≤ u → n < 2 ^ 63 * (u * u) → n / (u * u) < 2 ^ 63
part_few n u some enough = (div-lt_iff_lt-mul {k = u * u} {x = n} {y = 2 ^ 63} (square_some u some)).1 enough

-- the unit, and its product with a root
unit_fits : (u : ℕ) → u ≤ 2 ^ 29 → FitsSigned w128 (pos u)
unit_fits u few = fits128 (pos u) (2 ^ 29) few (omega arith)

unit_read : (u : ℕ) → u ≤ 2 ^ 29 → to_z w128 u ≡ pos u
unit_read u few = to_z_pos w128 u (omega (arith, few))

units_fit : (r : ℤ) (u : ℕ) → unsigned_abs r ≤ 10 ^ 18 → u ≤ 2 ^ 29 → FitsSigned w128 (r *ℤ pos u)
units_fit r u small few = product_fits r (pos u) (10 ^ 18) (2 ^ 29) small few (omega arith)

units_some : (r : ℤ) (u : ℕ) → pos 0 ≤ℤ r → pos 0 ≤ℤ (r *ℤ pos u)
units_some (pos k) u some = omega (arith, ints)
units_some (negsuc k) u some = absurd (omega (arith, ints, some))

number_small : (n : ℕ) → n ≤ 10 ^ 36 → pos n ≤ℤ pos (10 ^ 36)
number_small n h = omega (arith, ints, h)

pub nonzero_div-part : goal.nonzero_div-part
nonzero_div-part c = square_some c.args.unit c.requires.some

pub overflow_mul-part : goal.overflow_mul-part
overflow_mul-part c = Fits-under w128 (c.args.unit * c.args.unit) (2 ^ 59) (square_few c.args.unit c.requires.few) tt

pub overflow_cast-part : goal.overflow_cast-part
overflow_cast-part c = Fits-under w64 (c.args.n / (c.args.unit * c.args.unit)) (2 ^ 63) (part_few c.args.n c.args.unit c.requires.some c.requires.enough) tt

pub overflow_add-part : goal.overflow_add-part
overflow_add-part c = next_fits w64 (c.args.n / (c.args.unit * c.args.unit)) (2 ^ 63) (part_few c.args.n c.args.unit c.requires.some c.requires.enough) (omega arith)

pub overflow_cast-unit : goal.overflow_cast-unit
overflow_cast-unit c = unit_fits c.args.unit c.requires.few

pub overflow_mul-short_root_up : goal.overflow_mul-short_root_up
overflow_mul-short_root_up c =
    let root = c.short_root_up in let r = fits_of root.result root.type_inv in let same = unit_read c.args.unit c.requires.few in
    simp (to_z-of_z, same) (units_fit root.result c.args.unit root.ensures.small c.requires.few)

pub limited-requires : goal.limited-requires
limited-requires c =
    let root = c.short_root_up in let r = fits_of root.result root.type_inv in let same = unit_read c.args.unit c.requires.few in
    let fits = units_fit root.result c.args.unit root.ensures.small c.requires.few in
    simp (to_z-of_z, same) (units_some root.result c.args.unit root.ensures.some)

pub returns : goal.returns
returns c =
    let root = c.short_root_up in let limited = c.limited in
    let r = fits_of root.result root.type_inv in let l = fits_of limited.result limited.type_inv in
    let fits = units_fit root.result c.args.unit root.ensures.small c.requires.few in
    let same = unit_read c.args.unit c.requires.few in
    let rooted = in_units c.args.n c.args.unit root.result c.requires.some root.ensures.value root.ensures.some in
    let kept = simp (to_z-of_z, same) at limited.ensures.value in
    record {
      value = simp to_z-of_z (kept (pos c.args.n) rooted (number_small c.args.n c.requires.small));
      some = kept_some limited.result limited.type_inv limited.ensures.some;
      small = kept_small limited.result _ limited.type_inv limited.ensures.small;
    }
