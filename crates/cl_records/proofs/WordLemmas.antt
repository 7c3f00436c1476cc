-- The first of some words that letters spell.
use Rattle.std.proofs.Common.{◌≡◌, ℕ, suc, ◌+◌, ◌<◌, List, ◌∷◌, length, drop, get_or, false, refl, sym, ap, ◌∙◌, drop-cons, add-one}
use Rattle.std.specs.Str.{str_eq_ignore_ascii_case}
use Rattle.cl_records.specs.Words.{named}

named-skip : {A : Type 0} (name : A → List ℕ) (item : A) (items : List A) (letters : List ℕ) → str_eq_ignore_ascii_case letters (name item) ≡ false → named name (item ∷ items) letters ≡ named name items letters
named-skip name item items letters other = rw other refl

-- a word that the letters don't spell is passed over
pub named-next : {A : Type 0} (name : A → List ℕ) (items : List A) (letters : List ℕ) (i : ℕ) (none : A) → i < length items → str_eq_ignore_ascii_case letters (name (get_or items i none)) ≡ false → named name (drop i items) letters ≡ named name (drop (i + 1) items) letters
named-next name items letters i none within other =
    ap (λ l. named name l letters) (drop-cons items i none within) ∙ named-skip name (get_or items i none) (drop (suc i) items) letters other ∙ ap (λ k. named name (drop k items) letters) (sym (add-one i))
