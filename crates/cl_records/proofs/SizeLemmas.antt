-- The sizes of a cutter by their kinds.
use Rattle.std.proofs.Common.{ℤ, pos, ◌<◌, List, [], ◌∷◌, length, IfSome, slice_get, arith}
use Rattle.space.specs.Ranges.{IsBetween}
use Rattle.cl_records.specs.Cutters.{size_or_zero}
use Rattle.cl_records.specs.Ranges.{AreKinds}
use Rattle.cl_records.specs.Kinds.{cutter_kinds, farthest_centre, largest_corner, tallest, widest}

-- the sizes that are used, each in its range or missing
pub record AreSizes (sizes : List ℤ) : Type 0 where
  pub width : IsBetween (pos 1) (pos widest) (size_or_zero sizes 0)
  pub radius : IsBetween (pos 0) (pos largest_corner) (size_or_zero sizes 1)
  pub centre : IfSome (slice_get sizes 2) (IsBetween (pos 0) (pos farthest_centre))
  pub height : IfSome (slice_get sizes 6) (IsBetween (pos 1) (pos tallest))

none : IsBetween (pos 0) (pos largest_corner) (pos 0)
none = record { from_least = omega arith; to_most = omega arith }

pub AreSizes-kinds : (sizes : List ℤ) → 0 < length sizes → AreKinds cutter_kinds sizes → AreSizes sizes
AreSizes-kinds [] some kinds = absurd (omega arith)
AreSizes-kinds (d ∷ []) some kinds = record { width = kinds.0; radius = none; centre = tt; height = tt }
AreSizes-kinds (d ∷ r ∷ []) some kinds = record { width = kinds.0; radius = kinds.1.0; centre = tt; height = tt }
AreSizes-kinds (d ∷ r ∷ e ∷ []) some kinds = record { width = kinds.0; radius = kinds.1.0; centre = kinds.1.1.0; height = tt }
AreSizes-kinds (d ∷ r ∷ e ∷ f ∷ []) some kinds = record { width = kinds.0; radius = kinds.1.0; centre = kinds.1.1.0; height = tt }
AreSizes-kinds (d ∷ r ∷ e ∷ f ∷ a ∷ []) some kinds = record { width = kinds.0; radius = kinds.1.0; centre = kinds.1.1.0; height = tt }
AreSizes-kinds (d ∷ r ∷ e ∷ f ∷ a ∷ b ∷ []) some kinds = record { width = kinds.0; radius = kinds.1.0; centre = kinds.1.1.0; height = tt }
AreSizes-kinds (d ∷ r ∷ e ∷ f ∷ a ∷ b ∷ h ∷ []) some kinds = record { width = kinds.0; radius = kinds.1.0; centre = kinds.1.1.0; height = kinds.1.1.1.1.1.1.0 }
AreSizes-kinds (d ∷ r ∷ e ∷ f ∷ a ∷ b ∷ h ∷ x ∷ more) some kinds = absurd kinds.1.1.1.1.1.1.1
