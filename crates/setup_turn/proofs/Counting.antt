-- Sets that have as many indices.
use Rattle.std.proofs.Common.{◌≡◌, ℕ, suc, zero, ◌+◌, ◌-◌, ◌<◌, ◌≤◌, Bool, true, false, cond, List, [], ◌∷◌, length, take, drop, arith, refl, sym, ap, ap₂, ◌∙◌, ⊎_elim, min, reverse}
use Rattle.std.proofs.lemmas.Bool.{cases_lt}
use Rattle.std.proofs.lemmas.List.{get_or-drop, get_or-reverse, get_or-take, get_or_past, length-reverse, length-take}
use Rattle.std.proofs.lemmas.List.Sorted.{IsPermutation-reverse, sum_by-IsPermutation}
use Rattle.std.proofs.lemmas.List.Sums.{sum_by-cons}
use Rattle.vf_spans.specs.Members.{count_of, has}
use Rattle.setup_turn.specs.Moved.{IsMovedSet, IsReversed, IsTurnedSet, LiesWithin}
use Rattle.setup_turn.specs.Places.{room_of}

one_flag : (flag : Bool) (flags : List Bool) → count_of (flag ∷ flags) ≡ cond flag 1 0 + count_of flags
one_flag flag flags = sum_by-cons (λ (b : Bool). cond b 1 0) flag flags

pub count_none : (flags : List Bool) → ((i : ℕ) → has flags i ≡ false) → count_of flags ≡ 0
count_none [] none = refl
count_none (flag ∷ flags) none =
    one_flag flag flags ∙ ap (λ b. cond b 1 0 + count_of flags) (none 0)
    ∙ (let rest = count_none flags (λ i. none (suc i)) in omega arith)

count_same : (xs ys : List Bool) → ((i : ℕ) → has xs i ≡ has ys i) → count_of xs ≡ count_of ys
count_same [] ys same = sym (count_none ys (λ i. sym (same i)))
count_same (x ∷ xs) [] same = count_none (x ∷ xs) same
count_same (x ∷ xs) (y ∷ ys) same =
    one_flag x xs ∙ ap₂ (λ (b : Bool) (n : ℕ). cond b 1 0 + n) (same 0) (count_same xs ys (λ i. same (suc i))) ∙ sym (one_flag y ys)

count_after : (set : List Bool) (n : ℕ) → ((i : ℕ) → i < n → has set i ≡ false) → count_of set ≡ count_of (drop n set)
count_after set zero none = refl
count_after [] (suc n) none = refl
count_after (x ∷ xs) (suc n) none =
    one_flag x xs ∙ ap (λ b. cond b 1 0 + count_of xs) (none 0 (omega arith))
    ∙ (let q : 0 + count_of xs ≡ count_of xs = omega arith in q)
    ∙ count_after xs n (λ i low. none (suc i) (omega arith))

has_drop : (set : List Bool) (n i : ℕ) → has (drop n set) i ≡ has set (n + i)
has_drop set n i = get_or-drop n set i false

count_moved : (set moved : List Bool) (first to : ℕ) → ((i : ℕ) → has set i ≡ true → first ≤ i) → IsMovedSet set first to moved → count_of moved ≡ count_of set
count_moved set moved first to from is =
    count_after moved to is.below
    ∙ count_same (drop to moved) (drop first set) (λ i. has_drop moved to i ∙ is.same i ∙ sym (has_drop set first i))
    ∙ sym (count_after set first (λ i low. below i low (has set i) refl))
  where
    below : (i : ℕ) → i < first → (b : Bool) → has set i ≡ b → b ≡ false
    below i low true h = absurd (let le = from i h in omega arith)
    below i low false h = refl

has_take : (set : List Bool) (n i : ℕ) → ((k : ℕ) → n ≤ k → has set k ≡ false) → has (take n set) i ≡ has set i
has_take set n i none =
    ⊎_elim
    (λ (low : i < n). get_or-take n set i false low)
    (λ (past : n ≤ i). get_or_past (take n set) i false (let size = length-take n set in omega arith) ∙ sym (none i past))
    (cases_lt i n)

no_flag : (set : List Bool) (i : ℕ) (b : Bool) → has set i ≡ b → (has set i ≡ true → ⊥) → b ≡ false
no_flag set i true is never = absurd (never is)
no_flag set i false is never = refl

count_reversed : (set moved : List Bool) (first to : ℕ) → LiesWithin set first (first + (to + 1)) → to < length moved → IsReversed set first to moved
    → count_of moved ≡ count_of set
count_reversed set moved first to within low is =
    let part = take (to + 1) moved in
    let size : length part ≡ to + 1 = length-take (to + 1) moved ∙ (let q : min (to + 1) (length moved) ≡ to + 1 = omega arith in q) in
    let past : (k : ℕ) → to + 1 ≤ k → has moved k ≡ false = λ k le. is.above k (omega arith) in
    let turned : (k : ℕ) → has (reverse part) k ≡ has (drop first set) k =
    λ k. ⊎_elim
    (λ (near : k < to + 1).
    get_or-reverse part k false (omega arith)
    ∙ ap (has part) (let q : length part - 1 - k ≡ to - k = omega arith in q)
    ∙ has_take moved (to + 1) (to - k) past
    ∙ is.same k (omega arith)
    ∙ sym (has_drop set first k))
    (λ (far : to + 1 ≤ k).
    get_or_past (reverse part) k false (let q = length-reverse part in omega arith)
    ∙ sym (has_drop set first k ∙ no_flag set (first + k) (has set (first + k)) refl (λ h. let before = within.before (first + k) h in omega arith)))
    (cases_lt k (to + 1)) in
    count_same moved part (λ i. sym (has_take moved (to + 1) i past))
    ∙ sym (sum_by-IsPermutation (λ (b : Bool). cond b 1 0) part (reverse part) (IsPermutation-reverse part))
    ∙ count_same (reverse part) (drop first set) turned
    ∙ sym (count_after set first (λ i near. no_flag set i (has set i) refl (λ h. let from = within.from i h in omega arith)))

-- a set on its new ray has as many indices as on its old one
pub count_turned : (reversed : Bool) (set moved : List Bool) (first to points : ℕ) → LiesWithin set first (first + room_of reversed to points) → to < length moved
    → IsTurnedSet reversed set first to moved → count_of moved ≡ count_of set
count_turned false set moved first to points within low is = count_moved set moved first to within.from is
count_turned true set moved first to points within low is = count_reversed set moved first to within low is
