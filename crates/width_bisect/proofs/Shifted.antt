-- A multiple of one number and another, halved in machine words.
use Rattle.std.proofs.Common.{◌≡◌, ℕ, ℤ, pos, ◌+ℤ◌, ◌*ℤ◌, FitsSigned, to_z, of_z, ap, ap₂, subst, sym, ◌∙◌}
use Rattle.std.specs.Int.{int_shr}
use Rattle.std.proofs.lemmas.Int.{to_z-of_z}
use mir.Syntax.{Width}

abbrev word : Width → ℤ → ℤ
word w x = to_z w (of_z w x)

-- the multiple and the sum fit, and the half is right
pub record HalvesInWord (w : Width) (k : ℕ) (a b : ℤ) : Type 0 where
  pub multiple : FitsSigned w (pos k *ℤ word w a)
  pub sum : FitsSigned w (word w (pos k *ℤ word w a) +ℤ word w b)
  pub half : word w (int_shr (word w (word w (pos k *ℤ word w a) +ℤ word w b)) 1) ≡ int_shr (pos k *ℤ a +ℤ b) 1

pub halves_in_word : (w : Width) (k : ℕ) (a b : ℤ) → FitsSigned w a → FitsSigned w b → FitsSigned w (pos k *ℤ a)
    → FitsSigned w (pos k *ℤ a +ℤ b) → FitsSigned w (int_shr (pos k *ℤ a +ℤ b) 1) → HalvesInWord w k a b
halves_in_word w k a b fa fb multiple sum half =
    let multiple_is = ap (λ z. pos k *ℤ z) (to_z-of_z w a fa) in
    let sum_is = ap₂ (λ p q. p +ℤ q) (ap (word w) multiple_is ∙ to_z-of_z w (pos k *ℤ a) multiple) (to_z-of_z w b fb) in
    record {
      multiple = subst (FitsSigned w) (sym multiple_is) multiple;
      sum = subst (FitsSigned w) (sym sum_is) sum;
      half = ap (λ z. word w (int_shr z 1)) (ap (word w) sum_is ∙ to_z-of_z w (pos k *ℤ a +ℤ b) sum)
          ∙ to_z-of_z w (int_shr (pos k *ℤ a +ℤ b) 1) half;
    }
