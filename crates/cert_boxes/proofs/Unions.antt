-- What some span of a list passes, by one span, by the spans so far and by two parts of the list; and ranges that meet.
use Rattle.std.proofs.Common.{◌≡◌, ℕ, ◌+◌, ◌<◌, ◌≤◌, min, max, Bool, true, false, leb, ltb, ◌||◌, ◌&&◌, List, [], ◌∷◌, length, get_or, take, drop, arith, refl, ap, sym, ⊎_elim, ◌∙◌}
use Rattle.std.specs.List.{list_any}
use Rattle.std.proofs.lemmas.Bool.{and_from, and_parts, cases_lt, le-leb, leb-true, lt-ltb, ltb-true, or_cases, or_left, or_right}
use Rattle.std.proofs.lemmas.List.{take-append-drop, take_all}
use Rattle.std.proofs.lemmas.List.Folds.{list_any-append, list_any_more}
use Rattle.cert_boxes.proofs.Covers.{same_tests}

pub no_items : {X : Type 0} (t : X → Bool) (xs : List X) → length xs ≡ 0 → list_any t xs ≡ false
no_items t [] none = refl
no_items t (x ∷ xs) none = absurd (omega arith)

or_none : (a : Bool) → a ≡ (a || false)
or_none true = refl
or_none false = refl

pub one_item : {X : Type 0} (t : X → Bool) (xs : List X) (d : X) → length xs ≡ 1 → t (get_or xs 0 d) ≡ list_any t xs
one_item t [] d one = absurd (omega arith)
one_item t (x ∷ []) d one = or_none (t x)
one_item t (x ∷ y ∷ xs) d one = absurd (omega arith)

pub two_parts : {X : Type 0} (t : X → Bool) (xs : List X) (n : ℕ) → (list_any t (take n xs) || list_any t (drop n xs)) ≡ list_any t xs
two_parts t xs n = sym (list_any-append t (take n xs) (drop n xs)) ∙ ap (list_any t) (take-append-drop n xs)

-- one span more that was joined
or_thrice : (a b c : Bool) → ((a || b) || c) ≡ (a || (b || c))
or_thrice true b c = refl
or_thrice false b c = refl

pub joined_more : {X : Type 0} (t : X → Bool) (xs : List X) (i : ℕ) (d : X) (first old new : Bool) → i < length xs → old ≡ (first || list_any t (take i xs)) → new ≡ (old || t (get_or xs i d))
    → new ≡ (first || list_any t (take (i + 1) xs))
joined_more t xs i d first old new low is more =
    more ∙ ap (λ b. b || t (get_or xs i d)) is ∙ or_thrice first (list_any t (take i xs)) (t (get_or xs i d)) ∙ ap (λ b. first || b) (sym (list_any_more t xs i d low))

-- the first span is one of them
or_again : (a b : Bool) → (a || (a || b)) ≡ (a || b)
or_again true b = refl
or_again false b = refl

first_again : {X : Type 0} (t : X → Bool) (xs : List X) (d : X) → 0 < length xs → (t (get_or xs 0 d) || list_any t xs) ≡ list_any t xs
first_again t [] d some = absurd (omega arith)
first_again t (x ∷ xs) d some = or_again (t x) (list_any t xs)

pub all_joined : {X : Type 0} (t : X → Bool) (xs : List X) (i : ℕ) (d : X) (first old : Bool) → 0 < length xs → length xs ≤ i → first ≡ t (get_or xs 0 d) → old ≡ (first || list_any t (take i xs))
    → old ≡ list_any t xs
all_joined t xs i d first old some all begins is =
    is ∙ ap (λ b. b || list_any t (take i xs)) begins ∙ ap (λ l. t (get_or xs 0 d) || list_any t l) (take_all i xs all) ∙ first_again t xs d some

-- the range of two ranges that meet
pub met : (a b x y l : ℕ) → x ≤ b → a ≤ y → (leb (min a x) l && ltb l (max b y)) ≡ ((leb a l && ltb l b) || (leb x l && ltb l y))
met a b x y l xb ay =
    let first = leb a l && ltb l b in let last = leb x l && ltb l y in let lo = min a x in let hi = max b y in
    same_tests (leb lo l && ltb l hi) (first || last)
    (λ both.
    let ends = and_parts (leb lo l) (ltb l hi) both in let low = leb-true lo l ends.0 in let high = ltb-true l hi ends.1 in
    ⊎_elim
    (λ soon. or_right first last (and_from (leb x l) (ltb l y) (le-leb x l (omega arith)) (lt-ltb l y (omega arith))))
    (λ later.
    ⊎_elim (λ within. or_left first last (and_from (leb a l) (ltb l b) (le-leb a l later) (lt-ltb l b within)))
    (λ past. or_right first last (and_from (leb x l) (ltb l y) (le-leb x l (omega arith)) (lt-ltb l y (omega arith))))
    (cases_lt l b))
    (cases_lt l a))
    (λ some.
    ⊎_elim
    (λ h. let ends = and_parts (leb a l) (ltb l b) h in let low = leb-true a l ends.0 in let high = ltb-true l b ends.1 in and_from (leb lo l) (ltb l hi) (le-leb lo l (omega arith)) (lt-ltb l hi (omega arith)))
    (λ h. let ends = and_parts (leb x l) (ltb l y) h in let low = leb-true x l ends.0 in let high = ltb-true l y ends.1 in and_from (leb lo l) (ltb l hi) (le-leb lo l (omega arith)) (lt-ltb l hi (omega arith)))
    (or_cases first last some))

-- an end that is lowered to a bound says the same below it
lowered : (b bound l : ℕ) → l < bound → ltb l (min b bound) ≡ ltb l b
lowered b bound l low =
    same_tests (ltb l (min b bound)) (ltb l b) (λ h. let less = ltb-true l (min b bound) h in lt-ltb l b (omega arith)) (λ h. let less = ltb-true l b h in lt-ltb l (min b bound) (omega arith))

pub below_bound : (a b bound l : ℕ) → l < bound → (leb a l && ltb l (min b bound)) ≡ (leb a l && ltb l b)
below_bound a b bound l low = ap (λ c. leb a l && c) (lowered b bound l low)

-- no index is in a range that ends where it begins, or before
pub no_index : (a b bound l : ℕ) → l < bound → min b bound ≤ a → false ≡ (leb a l && ltb l b)
no_index a b bound l low ends =
    same_tests false (leb a l && ltb l b) (λ h. let apart : false ≡ true = h in cc) (λ h. let both = and_parts (leb a l) (ltb l b) h in let after = leb-true a l both.0 in let before = ltb-true l b both.1 in absurd (omega arith))
