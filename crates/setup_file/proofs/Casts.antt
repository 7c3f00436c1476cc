-- Numbers that are cast to fewer bits and lose nothing.
use Rattle.std.proofs.Common.{◌≡◌, ℕ, ◌≤◌, ℤ, pos, negsuc, ◌≤ℤ◌, unsigned_abs, to_z, of_z, w32, w64, FitsSigned, ap, ◌∙◌, arith}
use Rattle.std.proofs.lemmas.Int.{ints, to_z-of_z}
use Rattle.space.specs.Ranges.{IsBetween}
use Rattle.setup_file.specs.Limits.{most_check_depth, most_check_slabs, most_clearance, most_tolerance}
use Rattle.setup_file.specs.Sound.{IsCheck}
use borrow.Author.Differences.{abs_is as size_is}

-- within 32 bits, cast to them and back
pub cast_back : (least most z : ℤ) → negsuc 2147483647 ≤ℤ least → most ≤ℤ pos 2147483647 → IsBetween least most z → to_z w32 (of_z w32 (to_z w64 (of_z w64 z))) ≡ z
cast_back least most z low high h =
    let at_least : least ≤ℤ z = h.from_least in
    let at_most : z ≤ℤ most = h.to_most in
    let fits : FitsSigned w64 z = omega (arith, ints) in
    let narrow : FitsSigned w32 z = omega (arith, ints) in
    ap (λ y. to_z w32 (of_z w32 y)) (to_z-of_z w64 z fits) ∙ to_z-of_z w32 z narrow

pub passed : (least most z : ℤ) → negsuc 2147483647 ≤ℤ least → most ≤ℤ pos 2147483647 → IsBetween least most z → to_z w64 (of_z w64 z) ≡ z
passed least most z low high h =
    let at_least : least ≤ℤ z = h.from_least in
    let at_most : z ≤ℤ most = h.to_most in
    let fits : FitsSigned w64 z = omega (arith, ints) in
    to_z-of_z w64 z fits

-- within a range that 32 bits hold: so in 64 bits too, and it fits 32 bits
pub still_in : (least most z : ℤ) → negsuc 2147483647 ≤ℤ least → most ≤ℤ pos 2147483647 → IsBetween least most z → IsBetween least most (to_z w64 (of_z w64 z))
still_in least most z low high h = rw (passed least most z low high h) h

pub narrowed : (least most z : ℤ) → negsuc 2147483647 ≤ℤ least → most ≤ℤ pos 2147483647 → IsBetween least most z → FitsSigned w32 (to_z w64 (of_z w64 z))
narrowed least most z low high h =
    let at_least : least ≤ℤ z = h.from_least in
    let at_most : z ≤ℤ most = h.to_most in
    let narrow : FitsSigned w32 z = omega (arith, ints) in
    rw (passed least most z low high h) narrow

counted : (most : ℕ) (z : ℤ) → IsBetween (pos 0) (pos most) z → unsigned_abs z ≤ most
counted most z h =
    let at_least : pos 0 ≤ℤ z = h.from_least in
    let at_most : z ≤ℤ pos most = h.to_most in
    let size = size_is z in
    omega (arith, ints)

-- the settings of a check that were read
pub is_check : (t c s d : ℤ) → IsBetween (pos 0) (pos most_tolerance) t → IsBetween (pos 0) (pos most_clearance) c
    → IsBetween (pos 1) (pos most_check_slabs) s → IsBetween (pos 0) (pos most_check_depth) d
    → IsCheck record {
      tolerance = to_z w32 (of_z w32 (to_z w64 (of_z w64 t)));
      clearance = to_z w32 (of_z w32 (to_z w64 (of_z w64 c)));
      slabs = unsigned_abs (to_z w64 (of_z w64 s));
      depth = unsigned_abs (to_z w64 (of_z w64 d));
    }
is_check t c s d tolerance clearance slabs depth =
    let some : pos 1 ≤ℤ s = slabs.from_least in
    let few : s ≤ℤ pos most_check_slabs = slabs.to_most in
    let size = size_is s in
    rw (
      cast_back (pos 0) (pos most_tolerance) t (omega (arith, ints)) (omega (arith, ints)) tolerance,
      cast_back (pos 0) (pos most_clearance) c (omega (arith, ints)) (omega (arith, ints)) clearance,
      passed (pos 1) (pos most_check_slabs) s (omega (arith, ints)) (omega (arith, ints)) slabs,
      passed (pos 0) (pos most_check_depth) d (omega (arith, ints)) (omega (arith, ints)) depth,
    )
    record {
      tolerance_in = tolerance;
      clearance_in = clearance;
      some_slabs = omega (arith, ints);
      few_slabs = omega (arith, ints);
      shallow = counted most_check_depth d depth;
    }
