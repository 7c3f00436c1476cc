-- Blanks at the end of a text.
use Rattle.std.proofs.Common.{◌≡◌, ℕ, ◌++◌, List, [], ◌∷◌, true, false, refl, ap}
use Rattle.vf_text.specs.Blanks.{is_blank, unless_last_blank, without_last_blanks}

-- a blank at the end is left out
pub without_last_blanks-blank : (front : List ℕ) (last : ℕ) → is_blank last ≡ true → without_last_blanks (front ++ last ∷ []) ≡ without_last_blanks front
without_last_blanks-blank [] last blank = rw blank refl
without_last_blanks-blank (b ∷ front) last blank = ap (unless_last_blank b) (without_last_blanks-blank front last blank)

-- a text that ends in no blank stays
pub without_last_blanks-other : (front : List ℕ) (last : ℕ) → is_blank last ≡ false → without_last_blanks (front ++ last ∷ []) ≡ front ++ last ∷ []
without_last_blanks-other [] last other = rw other refl
without_last_blanks-other (b ∷ []) last other = ap (unless_last_blank b) (without_last_blanks-other [] last other)
without_last_blanks-other (b ∷ c ∷ front) last other = ap (unless_last_blank b) (without_last_blanks-other (c ∷ front) last other)
