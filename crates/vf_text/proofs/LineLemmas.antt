-- The last byte of a line.
use Rattle.std.proofs.Common.{◌≡◌, ℕ, ◌++◌, List, [], ◌∷◌, Bool, true, false, eqb, cond, refl, ap, ◌∙◌}
use Rattle.vf_text.specs.Lines.{without_last}

cond-cons : (b : Bool) (x : ℕ) (xs ys : List ℕ) → x ∷ cond b xs ys ≡ cond b (x ∷ xs) (x ∷ ys)
cond-cons true x xs ys = refl
cond-cons false x xs ys = refl

-- a text with its last byte apart
pub without_last-push : (end : ℕ) (front : List ℕ) (last : ℕ) → without_last end (front ++ last ∷ []) ≡ cond (eqb last end) front (front ++ last ∷ [])
without_last-push end [] last = refl
without_last-push end (b ∷ []) last = cond-cons (eqb last end) b [] (last ∷ [])
without_last-push end (b ∷ c ∷ front) last = ap (λ l. b ∷ l) (without_last-push end (c ∷ front) last) ∙ cond-cons (eqb last end) b (c ∷ front) (c ∷ (front ++ last ∷ []))
