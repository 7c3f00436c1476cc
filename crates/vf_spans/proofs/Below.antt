-- Counts over the indices below a bound.
use Rattle.std.proofs.Common.{◌≡◌, ℕ, suc, zero, ◌+◌, ◌<◌, ◌≤◌, List, [], ◌∷◌, length, map, cond, Bool, true, false, ◌&&◌, not, arith, refl, sym, ap, ap₂, ◌∙◌, subst}
use Rattle.std.specs.List.{count_by, range_with_len}
use Rattle.std.proofs.lemmas.List.Sums.{sum_by-cons}
use Rattle.std.proofs.lemmas.List.FromFn.{sum_by-map-range_with_len_more}
use Rattle.vf_spans.specs.Members.{has, count_below}
use Rattle.vf_spans.specs.Edges.{inside, flags_of, AreEdges}
use Rattle.vf_spans.proofs.Flags.{has-flags, same_bound}

-- tests that say the same give one count
pub count_by_same : {X : Type 0} → (p q : X → Bool) → ((x : X) → p x ≡ q x) → (xs : List X) → count_by p xs ≡ count_by q xs
count_by_same p q e [] = refl
count_by_same p q e (x ∷ xs) =
    sum_by-cons (λ y. cond (p y) 1 0) x xs
    ∙ ap₂ (λ m n. m + n) (ap (λ b. cond b 1 0) (e x)) (count_by_same p q e xs)
    ∙ sym (sum_by-cons (λ y. cond (q y) 1 0) x xs)

pub count_by_map : {X : Type 0} → (p : X → Bool) (xs : List X) → count_by (λ flag. flag) (map p xs) ≡ count_by p xs
count_by_map p [] = refl
count_by_map p (x ∷ xs) =
    sum_by-cons (λ (b : Bool). cond b 1 0) (p x) (map p xs)
    ∙ ap (λ n. cond (p x) 1 0 + n) (count_by_map p xs)
    ∙ sym (sum_by-cons (λ y. cond (p y) 1 0) x xs)

abbrev pub one_if : Bool → ℕ
one_if b = cond b 1 0

-- one index more
pub one_more : (p : ℕ → Bool) (n : ℕ) → count_below (n + 1) p ≡ count_below n p + cond (p n) 1 0
one_more p n =
    sym (count_by_map p (range_with_len 0 (n + 1)))
    ∙ sum_by-map-range_with_len_more (λ (b : Bool). cond b 1 0) p 0 n n (omega arith)
    ∙ ap (λ k. k + cond (p n) 1 0) (count_by_map p (range_with_len 0 n))

same_more : (b : Bool) (n : ℕ) → cond b n 0 + cond b 1 0 ≡ cond b (n + 1) 0
same_more true n = refl
same_more false n = refl

none_more : (b : Bool) → let none : ℕ = 0 in cond b none none ≡ none
none_more true = refl
none_more false = refl

pub same_bound_same : (p : ℕ → Bool) (m n : ℕ) → m ≡ n → count_below m p ≡ count_below n p
same_bound_same p m n e = ap (λ k. count_below k p) e

-- n indices more, at which the test says one thing
pub more_below : (p : ℕ → Bool) (b : Bool) (from n : ℕ) → ((x : ℕ) → from ≤ x → x < from + n → p x ≡ b) → count_below (from + n) p ≡ count_below from p + cond b n 0
more_below p b from zero h =
    let none = none_more b in
    let size = same_bound_same p (from + 0) from (omega arith) in
    omega arith
more_below p b from (suc n) h =
    let before = more_below p b from n (λ x le lt. h x le (omega arith)) in
    let size = same_bound_same p (from + suc n) (from + n + 1) (omega arith) in
    let last : one_if (p (from + n)) ≡ one_if b = ap one_if (h (from + n) (omega arith) (omega arith)) in
    let next = one_more p (from + n) in
    let both = same_more b n in
    let up : suc n ≡ n + 1 = omega arith in
    let all : cond b (suc n) 0 ≡ cond b (n + 1) 0 = ap (λ k. cond b k 0) up in
    omega arith

-- a set's flag is that of its edges
pub flag_is : (bound : ℕ) (es xs : List ℕ) (v : List Bool) → AreEdges bound es → flags_of bound es ≡ v → xs ≡ es → (x : ℕ) → inside xs x ≡ has v x
flag_is bound es xs v h is same x = ap (λ z. inside z x) same ∙ sym (has-flags bound es x h) ∙ ap (λ z. has z x) is

pub and_true : (b c : Bool) → (b && (c && not false)) ≡ (b && c)
and_true true true = refl
and_true true false = refl
and_true false c = refl

pub and_same : (b c : Bool) → (b && (b && c)) ≡ (b && c)
and_same true c = refl
and_same false c = refl

-- the edges of another set with the same bound
pub edges_here : (b b' : ℕ) (es es' xs : List ℕ) (v v' : List Bool) → flags_of b es ≡ v → flags_of b' es' ≡ v' → length v' ≡ length v → AreEdges b' es' → xs ≡ es' → AreEdges b xs
edges_here b b' es es' xs v v' p q e h same =
    subst (λ (z : List ℕ). AreEdges b z) (sym same) (subst (λ (n : ℕ). AreEdges n es') (same_bound b b' es es' v v' p q e) h)

-- a count by the edges is one by the flags
pub counted : (n b k : ℕ) (p q : ℕ → Bool) → n ≡ count_below b p → b ≡ k → ((x : ℕ) → p x ≡ q x) → n ≡ count_below k q
counted n b k p q e size same = e ∙ count_by_same p q same (range_with_len 0 b) ∙ ap (λ m. count_below m q) size
