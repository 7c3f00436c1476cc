use Rattle.std.proofs.Common.{◌≤◌, ◌<◌, ◌^◌, ◌≤ℤ◌, ◌*◌, ◌*ℤ◌, ℕ, ℤ, pos, to_z, of_z, unsigned_abs, FitsSigned, arith}
use Rattle.std.proofs.lemmas.Int.{ints, to_z-of_z}
use lib.Signed.{mag}
use mir.Syntax.{w128}
use borrow.Author.Differences.{abs_is}
use Rattle.space.proofs.Words.{fits_of, kept_small, kept_some, small_in}
use Rattle.space.proofs.root.root_up.Goals as goal

-- a root of how far a number is from zero
root_of : (n r : ℤ) → FitsSigned w128 n → mag r < 2 ^ 127 → pos (unsigned_abs (to_z w128 (of_z w128 n))) ≤ℤ (r *ℤ r)
    → n ≤ℤ (to_z w128 (of_z w128 r) *ℤ to_z w128 (of_z w128 r))
root_of n r fits few h =
    let f = fits_of r few in let root : pos (unsigned_abs n) ≤ℤ (r *ℤ r) = simp to_z-of_z at h in
    simp to_z-of_z (below n (r *ℤ r) root) where
      below : (n y : ℤ) → pos (unsigned_abs n) ≤ℤ y → n ≤ℤ y
      below n y h = omega (arith, ints, h, abs_is n)

-- what is known of a root as a word of 128 bits
kept_root : (n r : ℤ) → FitsSigned w128 n → mag r < 2 ^ 127
    → record { value : pos (unsigned_abs (to_z w128 (of_z w128 n))) ≤ℤ (r *ℤ r); some : pos 0 ≤ℤ r; small : unsigned_abs r ≤ 10 ^ 18 }
    → record {
      value : n ≤ℤ (to_z w128 (of_z w128 r) *ℤ to_z w128 (of_z w128 r));
      some : pos 0 ≤ℤ to_z w128 (of_z w128 r);
      small : unsigned_abs (to_z w128 (of_z w128 r)) ≤ 10 ^ 18;
    }
kept_root n r fits few root = record {
  value = root_of n r fits few root.value;
  some = kept_some r few root.some;
  small = kept_small r _ few root.small;
}

-- a root in units
rooted_in : (n : ℤ) (unit : ℕ) → FitsSigned w128 n → unsigned_abs n ≤ 10 ^ 36 → (1 ≤ unit) × (unit ≤ 2 ^ 29)
    → unsigned_abs (to_z w128 (of_z w128 n)) < 2 ^ 63 * (unit * unit)
    → record {
      small : unsigned_abs (to_z w128 (of_z w128 n)) ≤ 10 ^ 36;
      some : 1 ≤ unit;
      few : unit ≤ 2 ^ 29;
      enough : unsigned_abs (to_z w128 (of_z w128 n)) < 2 ^ 63 * (unit * unit);
    }
rooted_in n unit fits small units below = record { small = small_in n _ fits small; some = units.0; few = units.1; enough = below }

-- the units are not too great
unit8 : (1 ≤ 2 ^ 8) × (2 ^ 8 ≤ 2 ^ 29)
unit8 = (omega arith, omega arith)

unit16 : (1 ≤ 2 ^ 16) × (2 ^ 16 ≤ 2 ^ 29)
unit16 = (omega arith, omega arith)

unit24 : (1 ≤ 2 ^ 24) × (2 ^ 24 ≤ 2 ^ 29)
unit24 = (omega arith, omega arith)

unit29 : (1 ≤ 2 ^ 29) × (2 ^ 29 ≤ 2 ^ 29)
unit29 = (omega arith, omega arith)

most_below : (n : ℕ) → n ≤ 10 ^ 36 → n < 2 ^ 121
most_below n h = omega (arith, h)

pub root_in-requires : goal.root_in-requires
root_in-requires c = rooted_in c.args.n (2 ^ 8) c.ranges.n c.requires.small unit8 c.if-whole.true

pub root_in-requires-then-whole-2 : goal.root_in-requires-then-whole-2
root_in-requires-then-whole-2 c = rooted_in c.args.n (2 ^ 16) c.ranges.n c.requires.small unit16 c.if-whole-2.true

pub root_in-requires-then-whole-3 : goal.root_in-requires-then-whole-3
root_in-requires-then-whole-3 c = rooted_in c.args.n (2 ^ 24) c.ranges.n c.requires.small unit24 c.if-whole-3.true

pub root_in-requires-else-whole-3 : goal.root_in-requires-else-whole-3
root_in-requires-else-whole-3 c =
    let few = most_below (unsigned_abs (to_z w128 (of_z w128 c.args.n))) (small_in c.args.n _ c.ranges.n c.requires.small) in
    rooted_in c.args.n (2 ^ 29) c.ranges.n c.requires.small unit29 few

pub returns-then-n-le-SHORT : goal.returns-then-n-le-SHORT
returns-then-n-le-SHORT c = let root = c.short_root_up in kept_root c.args.n root.result c.ranges.n root.type_inv root.ensures

pub returns-then-whole : goal.returns-then-whole
returns-then-whole c = let root = c.root_in in kept_root c.args.n root.result c.ranges.n root.type_inv root.ensures

pub returns-then-whole-2 : goal.returns-then-whole-2
returns-then-whole-2 c = let root = c.root_in-then-whole-2 in kept_root c.args.n root.result c.ranges.n root.type_inv root.ensures

pub returns-then-whole-3 : goal.returns-then-whole-3
returns-then-whole-3 c = let root = c.root_in-then-whole-3 in kept_root c.args.n root.result c.ranges.n root.type_inv root.ensures

pub returns-else-whole-3 : goal.returns-else-whole-3
returns-else-whole-3 c = let root = c.root_in-else-whole-3 in kept_root c.args.n root.result c.ranges.n root.type_inv root.ensures
