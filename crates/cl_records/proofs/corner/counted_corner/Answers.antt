-- The sizes are compared in 64 bits as they are.
use Rattle.std.proofs.Common.{◌≡◌, ◌∙◌, ◌*ℤ◌, ℤ, pos, Bool, FitsSigned, ap, arith, int_div, int_lt, of_z, refl, subst, sym, to_z, w32, w64}
use Rattle.std.proofs.lemmas.Int.{ints, quot_fits, to_z-of_z}
use Rattle.cl_records.proofs.corner.counted_corner.Goals as goal

wide : (x d : ℤ) → FitsSigned w32 d → x ≡ to_z w32 (of_z w32 d) → to_z w64 (of_z w64 x) ≡ d
wide x d fits is = let same = is ∙ to_z-of_z w32 d fits in ap (λ z. to_z w64 (of_z w64 z)) same ∙ to_z-of_z w64 d (omega (arith, ints, fits))

twice : (y r : ℤ) → FitsSigned w32 r → y ≡ to_z w32 (of_z w32 r) → to_z w64 (of_z w64 (pos 2 *ℤ to_z w64 (of_z w64 y))) ≡ pos 2 *ℤ r
twice y r fits is = ap (λ z. to_z w64 (of_z w64 (pos 2 *ℤ z))) (wide y r fits is) ∙ to_z-of_z w64 (pos 2 *ℤ r) (omega (arith, ints, fits))

compared : (x y d r : ℤ) (t : Bool) → FitsSigned w32 d → FitsSigned w32 r → x ≡ to_z w32 (of_z w32 d) → y ≡ to_z w32 (of_z w32 r)
    → int_lt (to_z w64 (of_z w64 x)) (to_z w64 (of_z w64 (pos 2 *ℤ to_z w64 (of_z w64 y)))) ≡ t → int_lt d (pos 2 *ℤ r) ≡ t
compared x y d r t f g is_d is_r held =
    sym (ap (λ z. int_lt z (to_z w64 (of_z w64 (pos 2 *ℤ to_z w64 (of_z w64 y))))) (wide x d f is_d) ∙ ap (int_lt d) (twice y r g is_r)) ∙ held

pub nonzero_div-result : goal.nonzero_div-result
nonzero_div-result c = (
  omega arith,
  subst (λ z. FitsSigned w32 (int_div z (pos 2))) (sym (to_z-of_z w32 c.args.d c.ranges.d)) (quot_fits w32 c.args.d (pos 2) c.ranges.d (omega arith)),
)

pub returns-else-from-clause-radius : goal.returns-else-from-clause-radius
returns-else-from-clause-radius c =
    let below = compared c.from.result c.from-2.result c.args.d c.args.r _ c.ranges.d c.ranges.r c.from.ensures c.from-2.ensures c.if-from.false in
    to_z-of_z w32 c.args.r c.ranges.r ∙ sym (rw below refl)
