-- What is found first in lists that are joined.
use Rattle.std.proofs.Common.{◌≡◌, ℕ, zero, suc, ◌+◌, ◌<◌, ◌≤◌, Bool, true, false, cond, List, [], ◌∷◌, ◌++◌, length, get_or, take, drop, map, Option, Some, None, arith, refl, ap, sym, ⊎_elim, ◌⊎◌, inl, inr, ◌∙◌}
use Rattle.std.specs.List.{Contains, find, flat_map, range_with_len, slice_get}
use Rattle.std.specs.Option.{option_or}
use Rattle.std.proofs.lemmas.Grind.{flat_map-append}
use Rattle.std.proofs.lemmas.Bool.{cases_lt}
use Rattle.std.proofs.lemmas.List.{take-append-drop, take_more, append-nil}
use Rattle.std.proofs.lemmas.List.Folds.{find-append}
use Rattle.std.proofs.lemmas.Option.{get_or_from_slice_get}

-- what is not found passes nowhere
first_fails : {X : Type 0} (b : Bool) (x : X) (rest : Option X) → cond b (Some x) rest ≡ None → b ≡ false
first_fails true x rest h = cc
first_fails false x rest h = refl

rest_fails : {X : Type 0} (b : Bool) (x : X) (rest : Option X) → cond b (Some x) rest ≡ None → rest ≡ None
rest_fails true x rest h = cc
rest_fails false x rest h = h

passes_not : {X : Type 0} (test : X → Bool) (xs : List X) → find test xs ≡ None → (i : ℕ) (x : X) → i < length xs → get_or xs i x ≡ x → test x ≡ false
passes_not test [] none i x low there = absurd (omega arith)
passes_not test (y ∷ xs) none zero x low there = ap test (sym there) ∙ first_fails (test y) y (find test xs) none
passes_not test (y ∷ xs) none (suc i) x low there = passes_not test xs (rest_fails (test y) y (find test xs) none) i x (omega arith) there

pub none_found : {X : Type 0} (test : X → Bool) (xs : List X) → find test xs ≡ None → (x : X) → Contains xs x → test x ≡ false
none_found test xs none x there = passes_not test xs none there.0 x there.1 there.2

-- tests that agree on a list find the same
pub found_same : {X : Type 0} (p q : X → Bool) (xs : List X) → ((k : ℕ) (d : X) → k < length xs → p (get_or xs k d) ≡ q (get_or xs k d)) → find p xs ≡ find q xs
found_same p q [] each = refl
found_same p q (x ∷ xs) each =
    ap (λ b. cond b (Some x) (find p xs)) (each 0 x (omega arith)) ∙ ap (λ o. cond (q x) (Some x) o) (found_same p q xs (λ k d low. each (suc k) d (omega arith)))

pub found_along_same : {X : Type 0} (p q : X → Bool) (at : ℕ → X) → ((l : ℕ) → p (at l) ≡ q (at l)) → (ls : List ℕ) → find p (map at ls) ≡ find q (map at ls)
found_along_same p q at each [] = refl
found_along_same p q at each (l ∷ ls) = ap (λ b. cond b (Some (at l)) (find p (map at ls))) (each l) ∙ ap (λ o. cond (q (at l)) (Some (at l)) o) (found_along_same p q at each ls)

-- the first number, or a later one
first_or_later : (a b : ℕ) → a ≤ b → (a ≡ b) ⊎ (a + 1 ≤ b)
first_or_later a b le = ⊎_elim (λ less. inr (omega arith)) (λ no. inl (omega arith)) (cases_lt a b)

-- along the numbers from one on none passes, or one passes first
pub none_along : {X : Type 0} (test : X → Bool) (at : ℕ → X) (from many : ℕ) → ((l : ℕ) → from ≤ l → l < from + many → test (at l) ≡ false) → find test (map at (range_with_len from many)) ≡ None
none_along test at from zero none = refl
none_along test at from (suc many) none =
    ap (λ b. cond b (Some (at from)) (find test (map at (range_with_len (from + 1) many)))) (none from (omega arith) (omega arith))
    ∙ none_along test at (from + 1) many (λ l after before. none l (omega arith) (omega arith))

pub first_along : {X : Type 0} (test : X → Bool) (at : ℕ → X) (from many l : ℕ) → from ≤ l → l < from + many → ((k : ℕ) → from ≤ k → k < l → test (at k) ≡ false) → test (at l) ≡ true
    → find test (map at (range_with_len from many)) ≡ Some (at l)
first_along test at from zero l after before none is = absurd (omega arith)
first_along test at from (suc many) l after before none is =
    ⊎_elim
    (λ here. let same : from ≡ l = here in
    ap (λ b. cond b (Some (at from)) (find test (map at (range_with_len (from + 1) many)))) (ap (λ k. test (at k)) same ∙ is) ∙ ap (λ k. Some (at k)) same)
    (λ later.
    ap (λ b. cond b (Some (at from)) (find test (map at (range_with_len (from + 1) many)))) (none from (omega arith) (omega arith))
    ∙ first_along test at (from + 1) many l (omega arith) (omega arith) (λ k first low. none k (omega arith) low) is)
    (first_or_later from l after)

-- an item at its place
pub placed : {X : Type 0} (xs : List X) (n : ℕ) (x : X) → slice_get xs n ≡ Some x → n < length xs
placed [] n x there = cc
placed (y ∷ ys) zero x there = omega arith
placed (y ∷ ys) (suc n) x there = let low = placed ys n x there in omega arith

pub item_at : {X : Type 0} (xs : List X) (n : ℕ) (x : X) → slice_get xs n ≡ Some x → get_or xs n x ≡ x
item_at xs n x there = get_or_from_slice_get xs n x x there

-- one list more
joined_more : {X Y : Type 0} (test : Y → Bool) (f : X → List Y) (xs : List X) (n : ℕ) (d : X) → n < length xs
    → find test (flat_map f (take (n + 1) xs)) ≡ option_or (find test (flat_map f (take n xs))) (find test (f (get_or xs n d)))
joined_more test f xs n d low =
    let item = get_or xs n d in
    ap (λ l. find test (flat_map f l)) (take_more xs n d low)
    ∙ ap (find test) (flat_map-append f (take n xs) (item ∷ []) ∙ ap (λ l. flat_map f (take n xs) ++ l) (append-nil (f item)))
    ∙ find-append test (flat_map f (take n xs)) (f item)

pub none_more : {X Y : Type 0} (test : Y → Bool) (f : X → List Y) (xs : List X) (n : ℕ) (d : X) → n < length xs → find test (flat_map f (take n xs)) ≡ None → find test (f (get_or xs n d)) ≡ None
    → find test (flat_map f (take (n + 1) xs)) ≡ None
none_more test f xs n d low before here = joined_more test f xs n d low ∙ ap (λ o. option_or o (find test (f (get_or xs n d)))) before ∙ here

pub found_in : {X Y : Type 0} (test : Y → Bool) (f : X → List Y) (xs : List X) (n : ℕ) (d : X) (y : Y) → n < length xs → find test (flat_map f (take n xs)) ≡ None → find test (f (get_or xs n d)) ≡ Some y
    → find test (flat_map f xs) ≡ Some y
found_in test f xs n d y low before here =
    let front = take (n + 1) xs in let back = drop (n + 1) xs in
    ap (λ l. find test (flat_map f l)) (sym (take-append-drop (n + 1) xs))
    ∙ ap (find test) (flat_map-append f front back)
    ∙ find-append test (flat_map f front) (flat_map f back)
    ∙ ap (λ o. option_or o (find test (flat_map f back))) (joined_more test f xs n d low ∙ ap (λ o. option_or o (find test (f (get_or xs n d)))) before ∙ here)

-- lists of lists that are joined first
pub joined_twice : {X Y : Type 0} (f : X → List Y) (lists : List (List X)) → flat_map f (flat_map (λ list. list) lists) ≡ flat_map (λ list. flat_map f list) lists
joined_twice f [] = refl
joined_twice f (xs ∷ rest) = flat_map-append f xs (flat_map (λ list. list) rest) ∙ ap (λ l. flat_map f xs ++ l) (joined_twice f rest)
