-- Numbers that pass the tests of a grid make one.
use Rattle.std.proofs.Common.{◌≡◌, ℕ, ◌%◌, ◌==◌, nat_le, ℤ, pos, neg_ℤ, ◌≤ℤ◌, unsigned_abs, true, List, [], ◌∷◌, refl, arith}
use Rattle.std.specs.Prelude.{int_le}
use Rattle.std.proofs.lemmas.Bool.{and_parts}
use Rattle.std.proofs.lemmas.Int.{ints}
use Rattle.std.proofs.lemmas.Bool.Decides.{nat_tests}
use Rattle.space.specs.Ranges.{IsBetween, metre}
use Rattle.space.specs.Vectors.{at}
use Rattle.ray_grid.specs.Grids.{GridSize}
use Rattle.ray_grid.specs.Ranges.{IsGrid, IsGridAxis, most_nodes, most_per_node}
use Rattle.setup_file.specs.Grids.{AreCoordinates, CountsFit, divides_pitch, grid_from, is_count, last_point, points_a_node}
use Rattle.setup_file.specs.Reads.{is_between}
use borrow.Author.Differences.{abs_is as size_is}

pub int_le-true : (a b : ℤ) → int_le a b ≡ true → a ≤ℤ b
int_le-true a b h = grind (arith, ints)

pub int_le-from : (a b : ℤ) → a ≤ℤ b → int_le a b ≡ true
int_le-from a b h = grind (arith, ints)

-- a number that passes the test of a range is within it, and the other way round
pub is_between-true : (least most z : ℤ) → is_between least most z ≡ true → IsBetween least most z
is_between-true least most z h =
    let (low, high) = and_parts (int_le least z) (int_le z most) h in
    record { from_least = int_le-true least z low; to_most = int_le-true z most high }

pub is_between-from : (least most z : ℤ) → IsBetween least most z → is_between least most z ≡ true
is_between-from least most z h = rw (int_le-from least z h.from_least) (int_le-from z most h.to_most)

axis-shown : (origin pitch step count : ℤ) → IsBetween (neg_ℤ (pos metre)) (pos metre) origin → is_count origin pitch step count ≡ true
    → IsGridAxis pitch step origin (unsigned_abs count)
axis-shown origin pitch step count coordinate fits =
    let (within, last) = and_parts (is_between (pos 1) (pos most_nodes) count) (int_le (last_point origin pitch step count) (pos metre)) fits in
    let number : IsBetween (pos 1) (pos most_nodes) count = is_between-true (pos 1) (pos most_nodes) count within in
    let size = size_is origin in
    let many = size_is count in
    record {
      origin_in = omega (arith, ints);
      some = omega (arith, ints);
      most = omega (arith, ints);
      last = int_le-true (last_point origin pitch step count) (pos metre) last;
    }

-- a grid of these numbers
abbrev pub sized : (o0 o1 o2 pitch step : ℤ) (n0 n1 n2 : ℕ) → GridSize
sized o0 o1 o2 pitch step n0 n1 n2 = record { origin = o0 ∷ o1 ∷ o2 ∷ []; pitch = pitch; step = step; counts = n0 ∷ n1 ∷ n2 ∷ [] }

-- numbers of which each was judged make a grid
pub IsGrid-shown : (origin : List ℤ) (pitch step : ℤ) (counts : List ℤ) → AreCoordinates origin → IsBetween (pos 1) (pos metre) pitch
    → IsBetween (pos 1) pitch step → divides_pitch pitch step ≡ true → CountsFit origin pitch step counts
    → IsGrid (grid_from origin pitch step counts)
IsGrid-shown origin pitch step counts near pitch_fits step_fits divides fits =
    let (whole, few) = and_parts (unsigned_abs pitch % unsigned_abs step == 0) (nat_le (points_a_node pitch step) most_per_node) divides in
    record {
      pitch_in = pitch_fits;
      step_in = step_fits;
      divides = grind (arith, nat_tests);
      fine = grind (arith, nat_tests);
      x = axis-shown (at origin 0) pitch step (at counts 0) near.x fits.x;
      y = axis-shown (at origin 1) pitch step (at counts 1) near.y fits.y;
      z = axis-shown (at origin 2) pitch step (at counts 2) near.z fits.z;
    }

-- the same numbers, each by an equation
pub sized-from : (o0 o1 o2 p s : ℤ) (n0 n1 n2 : ℕ) (origin : List ℤ) (pitch step : ℤ) (counts : List ℤ)
    → o0 ≡ at origin 0 → o1 ≡ at origin 1 → o2 ≡ at origin 2 → p ≡ pitch → s ≡ step
    → n0 ≡ unsigned_abs (at counts 0) → n1 ≡ unsigned_abs (at counts 1) → n2 ≡ unsigned_abs (at counts 2)
    → sized o0 o1 o2 p s n0 n1 n2 ≡ grid_from origin pitch step counts
sized-from o0 o1 o2 p s n0 n1 n2 origin pitch step counts e0 e1 e2 ep es f0 f1 f2 = rw (e0, e1, e2, ep, es, f0, f1, f2) refl
