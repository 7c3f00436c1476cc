-- The bands of a cylinder.
use Rattle.std.proofs.Common.{◌≡◌, ℕ, zero, suc, ◌<◌, List, [], ◌∷◌, ℤ, ◌≤ℤ◌, ◌<ℤ◌, All, arith}
use Rattle.std.proofs.lemmas.Int.{ints}
use Rattle.space.specs.Vectors.{dot}
use Rattle.sweep_boxes.specs.declared.band.Band.{Band}
use Rattle.sweep_boxes.specs.Bands.{IsOnBand}

pub all_eight : {X : Type 0} (P : X → Type 0) (a b c d e f g h : X) → P a → P b → P c → P d → P e → P f → P g → P h → All P (a ∷ b ∷ c ∷ d ∷ e ∷ f ∷ g ∷ h ∷ [])
all_eight P a b c d e f g h pa pb pc pd pe pf pg ph zero x less = pa
all_eight P a b c d e f g h pa pb pc pd pe pf pg ph (suc zero) x less = pb
all_eight P a b c d e f g h pa pb pc pd pe pf pg ph (suc (suc zero)) x less = pc
all_eight P a b c d e f g h pa pb pc pd pe pf pg ph (suc (suc (suc zero))) x less = pd
all_eight P a b c d e f g h pa pb pc pd pe pf pg ph (suc (suc (suc (suc zero)))) x less = pe
all_eight P a b c d e f g h pa pb pc pd pe pf pg ph (suc (suc (suc (suc (suc zero))))) x less = pf
all_eight P a b c d e f g h pa pb pc pd pe pf pg ph (suc (suc (suc (suc (suc (suc zero)))))) x less = pg
all_eight P a b c d e f g h pa pb pc pd pe pf pg ph (suc (suc (suc (suc (suc (suc (suc zero))))))) x less = ph
all_eight P a b c d e f g h pa pb pc pd pe pf pg ph (suc (suc (suc (suc (suc (suc (suc (suc n)))))))) x less = absurd (beyond n less) where
  beyond : (n : ℕ) → suc (suc (suc (suc (suc (suc (suc (suc n))))))) < 8 → ⊥
  beyond n h = omega (arith, h)

-- no place that is held is below a band that isn't used
pub on_unused : (l : Band) (least : ℤ) (side v a : List ℤ) → l.height ≡ least → least ≤ℤ dot v a → IsOnBand l side v a
on_unused l least side v a is above = record {
  about = λ below. absurd (crossed (dot v a) least l.height is above below);
  across = λ below. absurd (crossed (dot v a) least l.height is above below);
} where
  crossed : (u least height : ℤ) → height ≡ least → least ≤ℤ u → u <ℤ height → ⊥
  crossed u least height is above below = omega (arith, ints, is, above, below)
