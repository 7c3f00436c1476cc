-- The planes of a box in the code's own bits.
use Rattle.std.proofs.Common.{◌≡◌, ℤ, pos, neg_ℤ, ◌-ℤ◌, ◌≤ℤ◌, All, List, [], ◌∷◌, length, to_z, of_z, w64, FitsSigned, ap, ◌∙◌, arith}
use Rattle.std.proofs.lemmas.Int.{ints, to_z-of_z}
use Rattle.std.proofs.lemmas.List.Elements.{All-cons, All-nil}
use Rattle.space.specs.Ranges.{IsBetween, metre}
use Rattle.space.specs.Vectors.{at}
use Rattle.ray_shapes.specs.declared.plane.Plane.{Plane}
use Rattle.setup_file.specs.Bodies.{box_planes, plane}
use Rattle.setup_file.specs.Limits.{most_normal, most_right_side}
use Rattle.setup_file.specs.Sound.{IsBody, IsPlane}

-- the six ends of a box are coordinates
pub record AreEnds (ends : List ℤ) : Type 0 where
  pub x0 : IsBetween (neg_ℤ (pos metre)) (pos metre) (at ends 0)
  pub y0 : IsBetween (neg_ℤ (pos metre)) (pos metre) (at ends 1)
  pub z0 : IsBetween (neg_ℤ (pos metre)) (pos metre) (at ends 2)
  pub x1 : IsBetween (neg_ℤ (pos metre)) (pos metre) (at ends 3)
  pub y1 : IsBetween (neg_ℤ (pos metre)) (pos metre) (at ends 4)
  pub z1 : IsBetween (neg_ℤ (pos metre)) (pos metre) (at ends 5)

pub ends_are : (ends : List ℤ) → All (IsBetween (neg_ℤ (pos metre)) (pos metre)) ends → length ends ≡ 6 → AreEnds ends
ends_are ends near six = record {
  x0 = near 0 (pos 0) (omega arith);
  y0 = near 1 (pos 0) (omega arith);
  z0 = near 2 (pos 0) (omega arith);
  x1 = near 3 (pos 0) (omega arith);
  y1 = near 4 (pos 0) (omega arith);
  z1 = near 5 (pos 0) (omega arith);
}

-- an end, and its negation, in the code's own bits
pub end_fits : (z : ℤ) → IsBetween (neg_ℤ (pos metre)) (pos metre) z → FitsSigned w64 z
end_fits z h =
    let at_least : neg_ℤ (pos metre) ≤ℤ z = h.from_least in
    let at_most : z ≤ℤ pos metre = h.to_most in
    omega (arith, ints)

pub end_is : (z : ℤ) → IsBetween (neg_ℤ (pos metre)) (pos metre) z → to_z w64 (of_z w64 z) ≡ z
end_is z h = to_z-of_z w64 z (end_fits z h)

pub negation_fits : (z : ℤ) → IsBetween (neg_ℤ (pos metre)) (pos metre) z → FitsSigned w64 (pos 0 -ℤ to_z w64 (of_z w64 z))
negation_fits z h =
    let at_least : neg_ℤ (pos metre) ≤ℤ z = h.from_least in
    let at_most : z ≤ℤ pos metre = h.to_most in
    let is = end_is z h in
    let fits : FitsSigned w64 (pos 0 -ℤ z) = omega (arith, ints) in
    rw is fits

pub negation_is : (z : ℤ) → IsBetween (neg_ℤ (pos metre)) (pos metre) z → to_z w64 (of_z w64 (pos 0 -ℤ to_z w64 (of_z w64 z))) ≡ neg_ℤ z
negation_is z h =
    let at_least : neg_ℤ (pos metre) ≤ℤ z = h.from_least in
    let at_most : z ≤ℤ pos metre = h.to_most in
    let fits : FitsSigned w64 (pos 0 -ℤ z) = omega (arith, ints) in
    let negated : pos 0 -ℤ z ≡ neg_ℤ z = omega (arith, ints) in
    ap (λ y. to_z w64 (of_z w64 (pos 0 -ℤ y))) (end_is z h) ∙ to_z-of_z w64 (pos 0 -ℤ z) fits ∙ negated

negated_in : (z : ℤ) → IsBetween (neg_ℤ (pos metre)) (pos metre) z → IsBetween (neg_ℤ (pos metre)) (pos metre) (neg_ℤ z)
negated_in z h =
    let at_least : neg_ℤ (pos metre) ≤ℤ z = h.from_least in
    let at_most : z ≤ℤ pos metre = h.to_most in
    record { from_least = omega (arith, ints); to_most = omega (arith, ints) }

-- a component of an axis that points along it, against it, or across it
abbrev IsUnit : ℤ → Type 0
IsUnit z = IsBetween (neg_ℤ (pos 1)) (pos 1) z

along : IsUnit (pos 1)
along = record { from_least = omega (arith, ints); to_most = omega (arith, ints) }

across : IsUnit (pos 0)
across = record { from_least = omega (arith, ints); to_most = omega (arith, ints) }

against : IsUnit (neg_ℤ (pos 1))
against = record { from_least = omega (arith, ints); to_most = omega (arith, ints) }

unit_in : (z : ℤ) → IsUnit z → IsBetween (neg_ℤ (pos most_normal)) (pos most_normal) z
unit_in z h =
    let at_least : neg_ℤ (pos 1) ≤ℤ z = h.from_least in
    let at_most : z ≤ℤ pos 1 = h.to_most in
    record { from_least = omega (arith, ints); to_most = omega (arith, ints) }

right_side_in : (z : ℤ) → IsBetween (neg_ℤ (pos metre)) (pos metre) z → IsBetween (neg_ℤ (pos most_right_side)) (pos most_right_side) z
right_side_in z h =
    let at_least : neg_ℤ (pos metre) ≤ℤ z = h.from_least in
    let at_most : z ≤ℤ pos metre = h.to_most in
    record { from_least = omega (arith, ints); to_most = omega (arith, ints) }

side : (a b c d : ℤ) → IsUnit a → IsUnit b → IsUnit c → IsBetween (neg_ℤ (pos metre)) (pos metre) d → IsPlane (plane a b c d)
side a b c d x y z w = record { a_in = unit_in a x; b_in = unit_in b y; c_in = unit_in c z; d_in = right_side_in d w }

all_six : (p q r s t u : Plane) → IsPlane p → IsPlane q → IsPlane r → IsPlane s → IsPlane t → IsPlane u → All IsPlane (p ∷ q ∷ r ∷ s ∷ t ∷ u ∷ [])
all_six p q r s t u h1 h2 h3 h4 h5 h6 =
    All-cons IsPlane p (q ∷ r ∷ s ∷ t ∷ u ∷ []) h1 (All-cons IsPlane q (r ∷ s ∷ t ∷ u ∷ []) h2 (All-cons IsPlane r (s ∷ t ∷ u ∷ []) h3
    (All-cons IsPlane s (t ∷ u ∷ []) h4 (All-cons IsPlane t (u ∷ []) h5 (All-cons IsPlane u [] h6 (All-nil IsPlane))))))

-- the planes of a box are a body
pub box_valid : (ends : List ℤ) → AreEnds ends → IsBody (box_planes ends)
box_valid ends e = record {
  some = omega arith;
  few = omega arith;
  planes = all_six
      (plane (pos 1) (pos 0) (pos 0) (at ends 3)) (plane (neg_ℤ (pos 1)) (pos 0) (pos 0) (neg_ℤ (at ends 0)))
      (plane (pos 0) (pos 1) (pos 0) (at ends 4)) (plane (pos 0) (neg_ℤ (pos 1)) (pos 0) (neg_ℤ (at ends 1)))
      (plane (pos 0) (pos 0) (pos 1) (at ends 5)) (plane (pos 0) (pos 0) (neg_ℤ (pos 1)) (neg_ℤ (at ends 2)))
      (side (pos 1) (pos 0) (pos 0) (at ends 3) along across across e.x1)
      (side (neg_ℤ (pos 1)) (pos 0) (pos 0) (neg_ℤ (at ends 0)) against across across (negated_in (at ends 0) e.x0))
      (side (pos 0) (pos 1) (pos 0) (at ends 4) across along across e.y1)
      (side (pos 0) (neg_ℤ (pos 1)) (pos 0) (neg_ℤ (at ends 1)) across against across (negated_in (at ends 1) e.y0))
      (side (pos 0) (pos 0) (pos 1) (at ends 5) across across along e.z1)
      (side (pos 0) (pos 0) (neg_ℤ (pos 1)) (neg_ℤ (at ends 2)) across across against (negated_in (at ends 2) e.z0));
}

six_same : (p q r s t u a b c d e f : Plane) → p ≡ a → q ≡ b → r ≡ c → s ≡ d → t ≡ e → u ≡ f
    → p ∷ q ∷ r ∷ s ∷ t ∷ u ∷ [] ≡ a ∷ b ∷ c ∷ d ∷ e ∷ f ∷ []
six_same p q r s t u a b c d e f h1 h2 h3 h4 h5 h6 = cc

-- the code's six planes are those of the box
pub box_is : (ends : List ℤ) → AreEnds ends → (p q r s t u : Plane)
    → p ≡ plane (pos 1) (pos 0) (pos 0) (to_z w64 (of_z w64 (at ends 3)))
    → q ≡ plane (neg_ℤ (pos 1)) (pos 0) (pos 0) (to_z w64 (of_z w64 (pos 0 -ℤ to_z w64 (of_z w64 (at ends 0)))))
    → r ≡ plane (pos 0) (pos 1) (pos 0) (to_z w64 (of_z w64 (at ends 4)))
    → s ≡ plane (pos 0) (neg_ℤ (pos 1)) (pos 0) (to_z w64 (of_z w64 (pos 0 -ℤ to_z w64 (of_z w64 (at ends 1)))))
    → t ≡ plane (pos 0) (pos 0) (pos 1) (to_z w64 (of_z w64 (at ends 5)))
    → u ≡ plane (pos 0) (pos 0) (neg_ℤ (pos 1)) (to_z w64 (of_z w64 (pos 0 -ℤ to_z w64 (of_z w64 (at ends 2)))))
    → p ∷ q ∷ r ∷ s ∷ t ∷ u ∷ [] ≡ box_planes ends
box_is ends e p q r s t u h1 h2 h3 h4 h5 h6 = six_same p q r s t u
    (plane (pos 1) (pos 0) (pos 0) (at ends 3)) (plane (neg_ℤ (pos 1)) (pos 0) (pos 0) (neg_ℤ (at ends 0)))
    (plane (pos 0) (pos 1) (pos 0) (at ends 4)) (plane (pos 0) (neg_ℤ (pos 1)) (pos 0) (neg_ℤ (at ends 1)))
    (plane (pos 0) (pos 0) (pos 1) (at ends 5)) (plane (pos 0) (pos 0) (neg_ℤ (pos 1)) (neg_ℤ (at ends 2)))
    (h1 ∙ ap (λ d. plane (pos 1) (pos 0) (pos 0) d) (end_is (at ends 3) e.x1))
    (h2 ∙ ap (λ d. plane (neg_ℤ (pos 1)) (pos 0) (pos 0) d) (negation_is (at ends 0) e.x0))
    (h3 ∙ ap (λ d. plane (pos 0) (pos 1) (pos 0) d) (end_is (at ends 4) e.y1))
    (h4 ∙ ap (λ d. plane (pos 0) (neg_ℤ (pos 1)) (pos 0) d) (negation_is (at ends 1) e.y0))
    (h5 ∙ ap (λ d. plane (pos 0) (pos 0) (pos 1) d) (end_is (at ends 5) e.z1))
    (h6 ∙ ap (λ d. plane (pos 0) (pos 0) (neg_ℤ (pos 1)) d) (negation_is (at ends 2) e.z0))
