-- A list that grows by what a function makes of each item of another.
use Rattle.std.proofs.Common.{◌≡◌, ℕ, ◌+◌, ◌<◌, ◌≤◌, List, [], ◌∷◌, ◌++◌, length, get_or, map, take, sym, ap, ◌∙◌}
use Rattle.std.proofs.lemmas.List.{map-append, take_all, take_more}

-- one more item is there
pub grown_more : {A B : Type 0} (f : A → B) (xs : List A) (i : ℕ) (d : A) (ys zs : List B) → i < length xs → ys ≡ map f (take i xs)
    → zs ≡ ys ++ f (get_or xs i d) ∷ [] → zs ≡ map f (take (i + 1) xs)
grown_more f xs i d ys zs lt so_far is =
    is ∙ ap (λ l. l ++ f (get_or xs i d) ∷ []) so_far ∙ sym (map-append f (take i xs) (get_or xs i d ∷ [])) ∙ ap (map f) (sym (take_more xs i d lt))

-- all items are there
pub grown_all : {A B : Type 0} (f : A → B) (xs : List A) (i : ℕ) (ys : List B) → length xs ≤ i → ys ≡ map f (take i xs) → ys ≡ map f xs
grown_all f xs i ys over so_far = so_far ∙ ap (map f) (take_all i xs over)
