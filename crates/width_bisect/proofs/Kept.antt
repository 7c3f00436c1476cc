-- A number that is computed in machine words is the one that it stands for, where that fits.
use Rattle.std.proofs.Common.{◌≡◌, ℕ, ℤ, pos, ◌+ℤ◌, ◌*ℤ◌, FitsSigned, to_z, of_z, ap, ap₂, subst, sym, ◌∙◌}
use Rattle.std.proofs.lemmas.Int.{to_z-of_z}
use mir.Syntax.{Width}

abbrev word : Width → ℤ → ℤ
word w x = to_z w (of_z w x)

-- what is put in a word fits, and what is read from it is the number
pub record IsKept (w : Width) (x z : ℤ) : Type 0 where
  pub fits : FitsSigned w x
  pub value : word w x ≡ z

kept : (w : Width) (x z : ℤ) → x ≡ z → FitsSigned w z → IsKept w x z
kept w x z is fits = record { fits = subst (FitsSigned w) (sym is) fits; value = ap (word w) is ∙ to_z-of_z w z fits }

pub itself : (w : Width) (z : ℤ) → FitsSigned w z → IsKept w z z
itself w z fits = record { fits = fits; value = to_z-of_z w z fits }

pub sum : (w : Width) (x y a b : ℤ) → IsKept w x a → IsKept w y b → FitsSigned w (a +ℤ b) → IsKept w (word w x +ℤ word w y) (a +ℤ b)
sum w x y a b h k fits = kept w (word w x +ℤ word w y) (a +ℤ b) (ap₂ (λ p q. p +ℤ q) h.value k.value) fits

pub multiple : (w : Width) (n : ℕ) (x a : ℤ) → IsKept w x a → FitsSigned w (pos n *ℤ a) → IsKept w (pos n *ℤ word w x) (pos n *ℤ a)
multiple w n x a h fits = kept w (pos n *ℤ word w x) (pos n *ℤ a) (ap (λ p. pos n *ℤ p) h.value) fits

pub product : (w : Width) (x y a b : ℤ) → IsKept w x a → IsKept w y b → FitsSigned w (a *ℤ b) → IsKept w (word w x *ℤ word w y) (a *ℤ b)
product w x y a b h k fits = kept w (word w x *ℤ word w y) (a *ℤ b) (ap₂ (λ p q. p *ℤ q) h.value k.value) fits
