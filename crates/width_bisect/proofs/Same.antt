-- Lists of three and of five numbers.
use Rattle.std.proofs.Common.{◌≡◌, [], ◌∷◌, List, length, ℤ, arith, ap, refl, ◌∙◌}
use Rattle.space.specs.Vectors.{at}

-- those whose numbers are equal
pub same3 : (a b c d e f : ℤ) → a ≡ d → b ≡ e → c ≡ f → a ∷ b ∷ c ∷ [] ≡ d ∷ e ∷ f ∷ []
same3 a b c d e f h k l = ap (λ z. z ∷ b ∷ c ∷ []) h ∙ ap (λ z. d ∷ z ∷ c ∷ []) k ∙ ap (λ z. d ∷ e ∷ z ∷ []) l

pub same5 : (a b c d e f g h i j : ℤ) → a ≡ f → b ≡ g → c ≡ h → d ≡ i → e ≡ j → a ∷ b ∷ c ∷ d ∷ e ∷ [] ≡ f ∷ g ∷ h ∷ i ∷ j ∷ []
same5 a b c d e f g h i j p q r s t =
    ap (λ z. z ∷ b ∷ c ∷ d ∷ e ∷ []) p ∙ ap (λ z. f ∷ z ∷ c ∷ d ∷ e ∷ []) q ∙ ap (λ z. f ∷ g ∷ z ∷ d ∷ e ∷ []) r
    ∙ ap (λ z. f ∷ g ∷ h ∷ z ∷ e ∷ []) s ∙ ap (λ z. f ∷ g ∷ h ∷ i ∷ z ∷ []) t

-- one of three, by its numbers
pub three_is : (l : List ℤ) → length l ≡ 3 → at l 0 ∷ at l 1 ∷ at l 2 ∷ [] ≡ l
three_is [] e = absurd (omega (arith, e))
three_is (a ∷ []) e = absurd (omega (arith, e))
three_is (a ∷ b ∷ []) e = absurd (omega (arith, e))
three_is (a ∷ b ∷ c ∷ []) e = refl
three_is (a ∷ b ∷ c ∷ d ∷ l) e = absurd (omega (arith, e))
