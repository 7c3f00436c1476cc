-- A list of three numbers that fit their type is given back by their bits.
use Rattle.std.proofs.Common.{◌≡◌, to_z, of_z, ℕ, zero, suc, ◌≤◌, ◌<◌, List, ℤ, length, FitsSigned, arith}
use mir.Syntax.{Width}
use Rattle.space.specs.Vectors.{at}
use Rattle.space.proofs.Facts.{back}

fits_among : (w : Width) (l : List ℤ) (i : ℕ) → length l ≤ 3 → i < length l → FitsSigned w (at l 0) → FitsSigned w (at l 1)
    → FitsSigned w (at l 2) → FitsSigned w (at l i)
fits_among w l zero few inside a b c = a
fits_among w l (suc zero) few inside a b c = b
fits_among w l (suc (suc zero)) few inside a b c = c
fits_among w l (suc (suc (suc k))) few inside a b c = absurd (omega arith)

pub back3 : (w : Width) (l : List ℤ) → length l ≤ 3 → FitsSigned w (at l 0) → FitsSigned w (at l 1) → FitsSigned w (at l 2) → (k : ℕ)
    → to_z w (of_z w (at l k)) ≡ at l k
back3 w l few a b c = back w l (λ i inside. fits_among w l i few inside a b c)
