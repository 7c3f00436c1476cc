-- The exact cutter at single places, worked by hand.
use Rattle.std.proofs.Common.{ℕ, [], ◌∷◌, pos, negsuc, arith, refl, inl, ⊎_elim}
use Rattle.std.proofs.lemmas.Int.{ints}
use Rattle.cutter_slabs.specs.Corner.{IsWithinCorner}
use Rattle.cutter_slabs.specs.Inside.{IsInside}
use Rattle.cutter_slabs.specs.Laws.{ball, slanted}
use Rattle.cutter_slabs.proofs.Heights.{own_is_enough}

-- at the height 1 the number c is below 0
within_ball : IsWithinCorner 1000 0 (pos 25) (pos 48500) 1 1
within_ball = λ g c e f. inl (omega (arith, ints, e, f))

pub within : (t : ℕ) → IsInside ball t 1 (pos 44 ∷ negsuc 0 ∷ pos 2 ∷ []) slanted
within t = record {
  forward = omega (arith, ints);
  above = omega (arith, ints);
  height = omega (arith, ints);
  shape = inl record {
    upright = refl;
    side = omega (arith, ints);
    corner = own_is_enough 1000 0 1 1 (pos 5) (pos 25) (pos 48500) (omega (arith, ints)) (omega (arith, ints)) (omega (arith, ints)) (omega arith) (omega arith) refl within_ball;
  };
}

-- at the height 1 the number c is above 0, and its square isn't at most 0
pub beside : (t : ℕ) → IsInside ball t 1 (pos 45 ∷ negsuc 0 ∷ pos 2 ∷ []) slanted → ⊥
beside t i =
    ⊎_elim (λ round. ⊎_elim (λ l. absurd l.le) (λ s. absurd s.le) (round.corner 1 1 (omega arith) (omega arith) (omega (arith, ints)) (pos 1999) (pos 3000) refl refl))
    (λ cone. let leaning = cone.leaning in absurd (omega arith)) i.shape

-- at the height 1 / 5 likewise
pub near_tip : (t : ℕ) → IsInside ball t 1 (pos 30 ∷ negsuc 0 ∷ pos 1 ∷ []) slanted → ⊥
near_tip t i =
    ⊎_elim (λ round. ⊎_elim (λ l. absurd l.le) (λ s. absurd s.le) (round.corner 1 5 (omega arith) (omega arith) (omega (arith, ints)) (pos 9999) (pos 1255000) refl refl))
    (λ cone. let leaning = cone.leaning in absurd (omega arith)) i.shape
