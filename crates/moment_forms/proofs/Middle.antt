-- The middle coefficient of a scalar product between two samples, by the values at both; and lists of equal numbers.
use Rattle.std.proofs.Common.{◌≡◌, Bool, true, false, ℕ, zero, suc, ◌+◌, ◌-◌, ◌^◌, ◌<◌, [], ◌∷◌, List, ℤ, pos, ◌+ℤ◌, ◌*ℤ◌, ◌-ℤ◌, ◌≤ℤ◌, ◌<ℤ◌, arith, refl, ⊎_elim, ◌∙◌}
use Rattle.space.specs.Vectors.{at, dot}
use Rattle.space.proofs.Solver.{add, mul, ring}
use Rattle.space.proofs.Terms.{dots, from}
use Rattle.bern_form.specs.Cells.{dot_on_cell}
use mir.Syntax.{w64}

-- behind the tip
pub middle_is : (p p' a c : List ℤ) → at (dot_on_cell p p' a c) 1 ≡ dot p c +ℤ dot p' a
middle_is p p' a c =
    let P = from 0 in let Q = from 3 in let A = from 6 in let C = from 9 in
    let x = λ (k : ℕ). add (mul (P k) (C k)) (mul (Q k) (A k)) in
    ring (at p 0 ∷ at p 1 ∷ at p 2 ∷ at p' 0 ∷ at p' 1 ∷ at p' 2 ∷ at a 0 ∷ at a 1 ∷ at a 2 ∷ at c 0 ∷ at c 1 ∷ at c 2 ∷ [])
    (add (add (x 0) (x 1)) (x 2)) (add (dots P C) (dots Q A)) refl

pub three_same : (x0 x1 x2 y0 y1 y2 : ℤ) → x0 ≡ y0 → x1 ≡ y1 → x2 ≡ y2 → ◌≡◌ {A = List ℤ} (x0 ∷ x1 ∷ x2 ∷ []) (y0 ∷ y1 ∷ y2 ∷ [])
three_same x0 x1 x2 y0 y1 y2 e0 e1 e2 = λ i. e0 i ∷ e1 i ∷ e2 i ∷ []

pub five_same : (x0 x1 x2 x3 x4 y0 y1 y2 y3 y4 : ℤ) → x0 ≡ y0 → x1 ≡ y1 → x2 ≡ y2 → x3 ≡ y3 → x4 ≡ y4
    → ◌≡◌ {A = List ℤ} (x0 ∷ x1 ∷ x2 ∷ x3 ∷ x4 ∷ []) (y0 ∷ y1 ∷ y2 ∷ y3 ∷ y4 ∷ [])
five_same x0 x1 x2 x3 x4 y0 y1 y2 y3 y4 e0 e1 e2 e3 e4 = λ i. e0 i ∷ e1 i ∷ e2 i ∷ e3 i ∷ e4 i ∷ []
