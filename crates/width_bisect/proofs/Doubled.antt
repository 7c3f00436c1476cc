-- Products of two numbers, and twice such a product, in machine words.
use Rattle.std.proofs.Common.{◌≡◌, ℤ, pos, ◌+ℤ◌, ◌*ℤ◌, FitsSigned, to_z, of_z, ap, ap₂, subst, sym, ◌∙◌}
use Rattle.std.proofs.lemmas.Int.{to_z-of_z}
use mir.Syntax.{w64, w128}

abbrev word : ℤ → ℤ
word x = to_z w128 (of_z w128 x)

abbrev IsProduct : ℤ → ℤ → ℤ → Type 0
IsProduct r a b = r ≡ to_z w64 (of_z w64 a) *ℤ to_z w64 (of_z w64 b)

pub product_kept : (r a b : ℤ) → FitsSigned w128 r → FitsSigned w64 a → FitsSigned w64 b → IsProduct r a b → word r ≡ a *ℤ b
product_kept r a b fits fa fb is = to_z-of_z w128 r fits ∙ is ∙ ap₂ (λ x y. x *ℤ y) (to_z-of_z w64 a fa) (to_z-of_z w64 b fb)

-- a number that fits, and what it is
pub record IsKept (x z : ℤ) : Type 0 where
  pub fits : FitsSigned w128 x
  pub value : word x ≡ z

kept_by : (x z : ℤ) → x ≡ z → FitsSigned w128 z → IsKept x z
kept_by x z is fits = record { fits = subst (FitsSigned w128) (sym is) fits; value = ap word is ∙ to_z-of_z w128 z fits }

pub twice_kept : (r a b : ℤ) → FitsSigned w128 r → FitsSigned w64 a → FitsSigned w64 b → IsProduct r a b
    → FitsSigned w128 (pos 2 *ℤ (a *ℤ b)) → IsKept (pos 2 *ℤ word r) (pos 2 *ℤ (a *ℤ b))
twice_kept r a b fits fa fb is = kept_by (pos 2 *ℤ word r) (pos 2 *ℤ (a *ℤ b)) (ap (λ z. pos 2 *ℤ z) (product_kept r a b fits fa fb is))

-- and a square added to it
pub sum_kept : (x z r b : ℤ) → IsKept x z → FitsSigned w128 r → FitsSigned w64 b → IsProduct r b b → FitsSigned w128 (z +ℤ b *ℤ b)
    → IsKept (word x +ℤ word r) (z +ℤ b *ℤ b)
sum_kept x z r b kept fits fb is =
    kept_by (word x +ℤ word r) (z +ℤ b *ℤ b) (ap₂ (λ p q. p +ℤ q) kept.value (product_kept r b b fits fb fb is))
