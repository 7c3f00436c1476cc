-- A form of degree 2 whose numbers are passed as words of 128 bits, and then of 64.
use Rattle.std.proofs.Common.{◌≡◌, [], ◌∷◌, List, length, ℤ, FitsSigned, to_z, of_z, arith, ap, subst, sym, ◌∙◌}
use Rattle.std.proofs.lemmas.Int.{to_z-of_z}
use mir.Syntax.{w64, w128}
use Rattle.space.specs.Vectors.{at}
use Rattle.width_bisect.proofs.Fitting.{FormFits}
use Rattle.width_bisect.proofs.Same.{same3, three_is}

abbrev narrow : ℤ → ℤ
narrow x = to_z w64 (of_z w64 (to_z w128 (of_z w128 x)))

pub wider : (x : ℤ) → FitsSigned w64 x → FitsSigned w128 x
wider x f = let s = f.sfits in record { sfits = omega (arith, s) }

narrowed : (x : ℤ) → FitsSigned w64 x → narrow x ≡ x
narrowed x f = ap (λ z. to_z w64 (of_z w64 z)) (to_z-of_z w128 x (wider x f)) ∙ to_z-of_z w64 x f

pub form_narrowed : (l : List ℤ) → length l ≡ 3 → FormFits l → narrow (at l 0) ∷ narrow (at l 1) ∷ narrow (at l 2) ∷ [] ≡ l
form_narrowed l long f =
    same3 _ _ _ _ _ _ (narrowed (at l 0) f.first) (narrowed (at l 1) f.middle) (narrowed (at l 2) f.last) ∙ three_is l long

-- each may be cast from 128 bits to 64
pub cast_fits : (x : ℤ) → FitsSigned w64 x → FitsSigned w64 (to_z w128 (of_z w128 x))
cast_fits x f = subst (FitsSigned w64) (sym (to_z-of_z w128 x (wider x f))) f
