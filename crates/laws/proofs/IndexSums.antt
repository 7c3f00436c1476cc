-- Sums over the indices below a number, of one, two and three of them.
use Rattle.std.proofs.Common.{◌≡◌, ℕ, zero, suc, ◌+◌, List, [], ◌∷◌, map, arith, refl, sym, ap, ◌∙◌}
use Rattle.std.specs.List.{flat_map, range_with_len, sum_by}
use Rattle.std.proofs.lemmas.List.FromFn.{sum_by-map-range_with_len_more}
use Rattle.std.proofs.lemmas.List.Sums.{sum_by-append, sum_by-cons}

-- the sum of what the indices below n have
abbrev pub over : (ℕ → ℕ) → ℕ → ℕ
over f zero = 0
over f (suc n) = over f n + f n

pub over_made : {X : Type 0} (g : X → ℕ) (f : ℕ → X) (n : ℕ) → sum_by g (map f (range_with_len 0 n)) ≡ over (λ k. g (f k)) n
over_made g f zero = refl
over_made g f (suc n) =
    let more : suc n ≡ n + 1 = omega arith in
    ap (λ m. sum_by g (map f (range_with_len 0 m))) more ∙ sum_by-map-range_with_len_more g f 0 n n (omega arith) ∙ ap (λ s. s + g (f n)) (over_made g f n)

-- a sum over joined lists is the sum of their sums
pub sum_joined : {X A : Type 0} (g : A → ℕ) (f : X → List A) (xs : List X) → sum_by g (flat_map f xs) ≡ sum_by (λ x. sum_by g (f x)) xs
sum_joined g f [] = refl
sum_joined g f (x ∷ xs) =
    sum_by-append g (f x) (flat_map f xs) ∙ ap (λ s. sum_by g (f x) + s) (sum_joined g f xs) ∙ sym (sum_by-cons (λ y. sum_by g (f y)) x xs)

pub over_same : (f g : ℕ → ℕ) (n : ℕ) → ((k : ℕ) → f k ≡ g k) → over f n ≡ over g n
over_same f g zero same = refl
over_same f g (suc n) same = let e = over_same f g n same in let s = same n in omega (arith, e, s)

-- the indices below a + b are those below a and then b more
over_split : (f : ℕ → ℕ) (a b : ℕ) → over f (a + b) ≡ over f a + over (λ k. f (a + k)) b
over_split f a zero = let e : a + 0 ≡ a = omega arith in ap (over f) e ∙ omega arith
over_split f a (suc b) =
    let e : a + suc b ≡ suc (a + b) = omega arith in
    ap (over f) e ∙ (let s = over_split f a b in omega (arith, s))

over_plus : (f g : ℕ → ℕ) (n : ℕ) → over (λ k. f k + g k) n ≡ over f n + over g n
over_plus f g zero = refl
over_plus f g (suc n) = let s = over_plus f g n in omega (arith, s)

-- what each index i below n, each j below m and each l below p have, together
abbrev pub over_three : (ℕ → ℕ → ℕ → ℕ) → ℕ → ℕ → ℕ → ℕ
over_three c n m p = over (λ i. over (λ j. over (c i j) p) m) n

three_same : (c d : ℕ → ℕ → ℕ → ℕ) (n m p : ℕ) → ((i j l : ℕ) → c i j l ≡ d i j l) → over_three c n m p ≡ over_three d n m p
three_same c d n m p same = let e : c ≡ d = λ x i j l. same i j l x in ap (λ h. over_three h n m p) e

-- the same, one of the three numbers cut in two
pub cut_first : (c d : ℕ → ℕ → ℕ → ℕ) (a b m p : ℕ) → ((i j l : ℕ) → c (a + i) j l ≡ d i j l)
    → over_three c (a + b) m p ≡ over_three c a m p + over_three d b m p
cut_first c d a b m p same =
    over_split (λ i. over (λ j. over (c i j) p) m) a b ∙ ap (λ s. over_three c a m p + s) (three_same (λ i. c (a + i)) d b m p same)

pub cut_second : (c d : ℕ → ℕ → ℕ → ℕ) (n a b p : ℕ) → ((i j l : ℕ) → c i (a + j) l ≡ d i j l)
    → over_three c n (a + b) p ≡ over_three c n a p + over_three d n b p
cut_second c d n a b p same =
    let x : ℕ → ℕ = λ i. over (λ j. over (c i j) p) a in
    let y : ℕ → ℕ = λ i. over (λ j. over (c i (a + j)) p) b in
    over_same (λ i. over (λ j. over (c i j) p) (a + b)) (λ i. x i + y i) n (λ i. over_split (λ j. over (c i j) p) a b)
    ∙ over_plus x y n
    ∙ ap (λ s. over_three c n a p + s) (three_same (λ i j. c i (a + j)) d n b p same)

pub cut_third : (c d : ℕ → ℕ → ℕ → ℕ) (n m p a b : ℕ) → p ≡ a + b → ((i j l : ℕ) → c i j (a + l) ≡ d i j l)
    → over_three c n m p ≡ over_three c n m a + over_three d n m b
cut_third c d n m p a b is same =
    let x : ℕ → ℕ → ℕ = λ i j. over (c i j) a in
    let y : ℕ → ℕ → ℕ = λ i j. over (λ l. c i j (a + l)) b in
    ap (over_three c n m) is
    ∙ over_same (λ i. over (λ j. over (c i j) (a + b)) m) (λ i. over (x i) m + over (y i) m) n
    (λ i. over_same (λ j. over (c i j) (a + b)) (λ j. x i j + y i j) m (λ j. over_split (c i j) a b) ∙ over_plus (x i) (y i) m)
    ∙ over_plus (λ i. over (x i) m) (λ i. over (y i) m) n
    ∙ ap (λ s. over_three c n m a + s) (three_same (λ i j l. c i j (a + l)) d n m b same)
