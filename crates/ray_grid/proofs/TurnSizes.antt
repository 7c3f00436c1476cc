-- Coordinates of turned points are far below 32 bits, so what is read of them is what was computed.
use Rattle.std.proofs.Common.{◌≡◌, ℕ, ◌+◌, ◌≤◌, ℤ, ◌+ℤ◌, ◌-ℤ◌, unsigned_abs, FitsSigned, w32, to_z, of_z, arith, sym, ap, ap₂, ◌∙◌, subst}
use Rattle.std.proofs.lemmas.Int.{ints, to_z-of_z}
use borrow.Author.Differences.{abs_is as size_is}

small_fits : (z : ℤ) → unsigned_abs z ≤ 5000000 → FitsSigned w32 z
small_fits z small = let size = size_is z in omega (arith, ints)

pub small_read : (z : ℤ) → unsigned_abs z ≤ 5000000 → to_z w32 (of_z w32 z) ≡ z
small_read z small = to_z-of_z w32 z (small_fits z small)

sum_size : (x y : ℤ) (m n : ℕ) → unsigned_abs x ≤ m → unsigned_abs y ≤ n → unsigned_abs (x +ℤ y) ≤ m + n
sum_size x y m n a b = let p = size_is x in let q = size_is y in let r = size_is (x +ℤ y) in omega (arith, ints)

difference_size : (x y : ℤ) (m n : ℕ) → unsigned_abs x ≤ m → unsigned_abs y ≤ n → unsigned_abs (x -ℤ y) ≤ m + n
difference_size x y m n a b = let p = size_is x in let q = size_is y in let r = size_is (x -ℤ y) in omega (arith, ints)

-- a coordinate that is moved
pub record IsMoved (r x y : ℤ) : Type 0 where
  pub fits : FitsSigned w32 (r +ℤ to_z w32 (of_z w32 y))
  pub read : to_z w32 (of_z w32 (r +ℤ to_z w32 (of_z w32 y))) ≡ x +ℤ y
  pub near : unsigned_abs (to_z w32 (of_z w32 (r +ℤ to_z w32 (of_z w32 y)))) ≤ 5000000

pub is_moved : (r x y : ℤ) → r ≡ x → unsigned_abs x ≤ 3000000 → unsigned_abs y ≤ 2000000 → IsMoved r x y
is_moved r x y same a b =
    let sum : (r +ℤ to_z w32 (of_z w32 y)) ≡ x +ℤ y = ap₂ (λ u v. u +ℤ v) same (small_read y (omega arith)) in
    let size : unsigned_abs (x +ℤ y) ≤ 5000000 = sum_size x y 3000000 2000000 a b in
    let read : to_z w32 (of_z w32 (r +ℤ to_z w32 (of_z w32 y))) ≡ x +ℤ y = ap (λ z. to_z w32 (of_z w32 z)) sum ∙ small_read (x +ℤ y) (omega arith) in
    record {
      fits = subst (FitsSigned w32) (sym sum) (small_fits (x +ℤ y) (omega arith));
      read = read;
      near = subst (λ z. unsigned_abs z ≤ 5000000) (sym read) size;
    }

-- one that is moved back
pub record IsMovedBack (x y : ℤ) : Type 0 where
  pub fits : FitsSigned w32 (to_z w32 (of_z w32 x) -ℤ to_z w32 (of_z w32 y))
  pub read : to_z w32 (of_z w32 (to_z w32 (of_z w32 x) -ℤ to_z w32 (of_z w32 y))) ≡ x -ℤ y
  pub near : unsigned_abs (to_z w32 (of_z w32 (to_z w32 (of_z w32 x) -ℤ to_z w32 (of_z w32 y)))) ≤ 5000000

pub is_moved_back : (x y : ℤ) → unsigned_abs x ≤ 3000000 → unsigned_abs y ≤ 2000000 → IsMovedBack x y
is_moved_back x y a b =
    let difference : (to_z w32 (of_z w32 x) -ℤ to_z w32 (of_z w32 y)) ≡ x -ℤ y =
    ap₂ (λ u v. u -ℤ v) (small_read x (omega arith)) (small_read y (omega arith)) in
    let size : unsigned_abs (x -ℤ y) ≤ 5000000 = difference_size x y 3000000 2000000 a b in
    let read : to_z w32 (of_z w32 (to_z w32 (of_z w32 x) -ℤ to_z w32 (of_z w32 y))) ≡ x -ℤ y =
    ap (λ z. to_z w32 (of_z w32 z)) difference ∙ small_read (x -ℤ y) size in
    record {
      fits = subst (FitsSigned w32) (sym difference) (small_fits (x -ℤ y) size);
      read = read;
      near = subst (λ z. unsigned_abs z ≤ 5000000) (sym read) size;
    }
