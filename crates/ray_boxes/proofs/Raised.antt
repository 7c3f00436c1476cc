-- n raised to degree 4 and then scaled is n scaled and then raised.
use Rattle.std.proofs.Common.{◌≡◌, true, false, ◌||◌, ℕ, zero, suc, ◌<◌, [], ◌∷◌, List, ℤ, pos, negsuc, ◌*ℤ◌, ◌-ℤ◌, ◌<ℤ◌, ◌≤ℤ◌, ◌⊎◌, Bool, arith, refl, ap, ◌∙◌, ⊎_elim}
use Rattle.space.specs.Vectors.{at}
use Rattle.space.proofs.Solver.{Term, var, num, add, mul, ring}
use Rattle.space.proofs.Terms.{from}
use Rattle.bern_form.specs.Forms.{lifted, scaled2, scaled4}

same5 : (a b c d e f g h i j : ℤ) → a ≡ f → b ≡ g → c ≡ h → d ≡ i → e ≡ j → a ∷ b ∷ c ∷ d ∷ e ∷ [] ≡ f ∷ g ∷ h ∷ i ∷ j ∷ []
same5 a b c d e f g h i j p q r s t =
    ap (λ z. z ∷ b ∷ c ∷ d ∷ e ∷ []) p ∙ ap (λ z. f ∷ z ∷ c ∷ d ∷ e ∷ []) q ∙ ap (λ z. f ∷ g ∷ z ∷ d ∷ e ∷ []) r ∙ ap (λ z. f ∷ g ∷ h ∷ z ∷ e ∷ []) s ∙ ap (λ z. f ∷ g ∷ h ∷ i ∷ z ∷ []) t

abbrev ones : ℕ → Term
ones zero = num (pos 1)
ones (suc zero) = num (pos 2)
ones (suc (suc k)) = num (pos 1)

abbrev conv : (ℕ → Term) → (ℕ → Term) → ℕ → Term
conv a b zero = mul (a 0) (b 0)
conv a b (suc zero) = add (mul (a 0) (b 1)) (mul (a 1) (b 0))
conv a b (suc (suc zero)) = add (add (mul (a 0) (b 2)) (mul (a 1) (b 1))) (mul (a 2) (b 0))
conv a b (suc (suc (suc zero))) = add (mul (a 1) (b 2)) (mul (a 2) (b 1))
conv a b (suc (suc (suc (suc k)))) = mul (a 2) (b 2)

pub raised_is : (f : ℤ) (n : List ℤ) → scaled4 f (lifted n) ≡ lifted (scaled2 f n)
raised_is f n =
    let e = at n 0 ∷ at n 1 ∷ at n 2 ∷ f ∷ [] in let F = var 3 in
    let x = λ (k : ℕ). mul F (conv (from 0) ones k) in let y = conv (λ k. mul F (var k)) ones in
    same5 _ _ _ _ _ _ _ _ _ _ (ring e (x 0) (y 0) refl) (ring e (x 1) (y 1) refl) (ring e (x 2) (y 2) refl) (ring e (x 3) (y 3) refl) (ring e (x 4) (y 4) refl)
