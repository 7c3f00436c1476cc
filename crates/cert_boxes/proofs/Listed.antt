-- Items of a list that pass a test.
use Rattle.std.proofs.Common.{◌≡◌, ℕ, zero, suc, ◌<◌, Bool, true, false, not, ◌||◌, List, [], ◌∷◌, length, get_or, arith, refl, ap, sym, ⊎_elim, ◌∙◌}
use Rattle.std.specs.List.{Contains, list_all, list_any}
use Rattle.std.proofs.lemmas.Bool.{and_parts, not_from_true, or_cases, or_from}
use Rattle.std.proofs.lemmas.List.Folds.{list_any_at}

-- the first item is listed, and so is each one of the rest
pub first_listed : {X : Type 0} (x : X) (xs : List X) → Contains (x ∷ xs) x
first_listed x xs = (0, omega arith, refl)

pub rest_listed : {X : Type 0} (x : X) (xs : List X) (y : X) → Contains xs y → Contains (x ∷ xs) y
rest_listed x xs y there = (suc there.0, (let l = there.1 in omega arith), there.2)

-- where some item passes, there is one
pub some_item : {X : Type 0} (test : X → Bool) (xs : List X) → list_any test xs ≡ true → (x : X) × Contains xs x × (test x ≡ true)
some_item test [] h = cc
some_item test (x ∷ xs) h =
    ⊎_elim
    (λ here. (x, first_listed x xs, here))
    (λ later. let found = some_item test xs later in (found.0, rest_listed x xs found.0 found.1, found.2))
    (or_cases (test x) (list_any test xs) h)

pub any_listed : {X : Type 0} (test : X → Bool) (xs : List X) (x : X) → Contains xs x → test x ≡ true → list_any test xs ≡ true
any_listed test xs x there passes = list_any_at test xs there.0 x there.1 (ap test there.2 ∙ passes)

-- where each item passes, a listed one does
all_placed : {X : Type 0} (test : X → Bool) (xs : List X) → list_all test xs ≡ true → (i : ℕ) (d : X) → i < length xs → test (get_or xs i d) ≡ true
all_placed test [] all i d low = absurd (omega arith)
all_placed test (x ∷ xs) all zero d low = (and_parts (test x) (list_all test xs) all).0
all_placed test (x ∷ xs) all (suc i) d low = all_placed test xs (and_parts (test x) (list_all test xs) all).1 i d (omega arith)

pub all_listed : {X : Type 0} (test : X → Bool) (xs : List X) → list_all test xs ≡ true → (x : X) → Contains xs x → test x ≡ true
all_listed test xs all x there = sym (ap test there.2) ∙ all_placed test xs all there.0 x there.1

pub all_at_place : {X : Type 0} (test : X → Bool) (xs : List X) → list_all test xs ≡ true → (i : ℕ) (d : X) → i < length xs → test (get_or xs i d) ≡ true
all_at_place test xs all i d low = all_placed test xs all i d low

-- and none fails
pub none_fails : {X : Type 0} (test : X → Bool) (xs : List X) → list_all test xs ≡ true → list_any (λ x. not (test x)) xs ≡ false
none_fails test [] all = refl
none_fails test (x ∷ xs) all =
    let both = and_parts (test x) (list_all test xs) all in
    or_from (not (test x)) (list_any (λ y. not (test y)) xs) (not_from_true (test x) both.0) (none_fails test xs both.1)

-- two tests that agree on the items that pass a third
pub any_same : {X : Type 0} (ok p q : X → Bool) → ((x : X) → ok x ≡ true → p x ≡ q x) → (xs : List X) → list_all ok xs ≡ true → list_any p xs ≡ list_any q xs
any_same ok p q each [] all = refl
any_same ok p q each (x ∷ xs) all =
    let both = and_parts (ok x) (list_all ok xs) all in
    ap (λ b. b || list_any p xs) (each x both.0) ∙ ap (λ b. q x || b) (any_same ok p q each xs both.1)
