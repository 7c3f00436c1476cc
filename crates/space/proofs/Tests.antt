-- What the tests of numbers, vectors and reach say.
use Rattle.std.proofs.Common.{◌≡◌, ℤ, pos, ◌≤ℤ◌, ◌<ℤ◌, ◌*ℤ◌, int_le, int_lt, false, List, arith}
use Rattle.std.specs.Bool.{Decides}
use Rattle.std.proofs.lemmas.Bool.Decides.{Decides-and, Decides-int_eq, not_from_Decides}
use Rattle.std.proofs.lemmas.Int.{ints}
use Rattle.space.specs.Vectors.{are_opposite, at, dot, is_zero}

pub decides_le : (x y : ℤ) → Decides (int_le x y) (x ≤ℤ y)
decides_le x y = (λ yes. grind (arith, ints), λ below. grind (arith, ints))

pub decides_lt : (x y : ℤ) → Decides (int_lt x y) (x <ℤ y)
decides_lt x y = (λ yes. grind (arith, ints), λ below. grind (arith, ints))

-- all components are zero
pub record IsZero (v : List ℤ) : Type 0 where
  pub x : at v 0 ≡ pos 0
  pub y : at v 1 ≡ pos 0
  pub z : at v 2 ≡ pos 0

-- vectors of opposite directions
pub record IsOpposite (f t : List ℤ) : Type 0 where
  pub x : at f 1 *ℤ at t 2 ≡ at f 2 *ℤ at t 1
  pub y : at f 2 *ℤ at t 0 ≡ at f 0 *ℤ at t 2
  pub z : at f 0 *ℤ at t 1 ≡ at f 1 *ℤ at t 0
  pub against : dot f t <ℤ pos 0

pub not_zero : (v : List ℤ) → is_zero v ≡ false → (at v 0 ≡ pos 0) × (at v 1 ≡ pos 0) × (at v 2 ≡ pos 0) → ⊥
not_zero v passed zero =
    not_from_Decides (is_zero v)
    (Decides-and _ _ (Decides-int_eq (at v 0) (pos 0)) (Decides-and _ _ (Decides-int_eq (at v 1) (pos 0)) (Decides-int_eq (at v 2) (pos 0)))) passed
    (zero.0, (zero.1, zero.2))

pub not_opposite : (f t : List ℤ) → are_opposite f t ≡ false → IsOpposite f t → ⊥
not_opposite f t passed o =
    not_from_Decides (are_opposite f t)
    (Decides-and _ _ (Decides-int_eq (at f 1 *ℤ at t 2) (at f 2 *ℤ at t 1))
    (Decides-and _ _ (Decides-int_eq (at f 2 *ℤ at t 0) (at f 0 *ℤ at t 2))
    (Decides-and _ _ (Decides-int_eq (at f 0 *ℤ at t 1) (at f 1 *ℤ at t 0)) (decides_lt (dot f t) (pos 0))))) passed
    (o.x, (o.y, (o.z, o.against)))

-- a comparison of equal numbers
pub le_same : (a b x y : ℤ) → a ≡ x → b ≡ y → int_le a b ≡ int_le x y
le_same a b x y p q = cc
