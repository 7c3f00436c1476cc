-- A line of edits as numbers from zero on and a rest.
use Rattle.std.proofs.Common.{◌≡◌, Bool, ℕ, zero, suc, ◌+◌, ◌-◌, ◌<◌, ◌≤◌, List, [], ◌∷◌, ◌++◌, length, take, min, get_or, slice_index, Result, MatchOption, MatchResult, Ok, Err, arith, refl, sym, ap, ◌∙◌}
use Rattle.std.specs.List.{range_with_len}
use Rattle.std.specs.List.Sorted.{IsBinarySearchResult}
use Rattle.std.specs.Ordering.{nat_cmp}
use Rattle.std.specs.Prelude.{if◌then◌else◌}
use Rattle.std.specs.Result.{IsOk, is_ok, result_ok}
use Rattle.std.proofs.Math.ListN.{get_or-append}
use Rattle.std.proofs.Math.Seq.{take-append-add}
use Rattle.std.proofs.lemmas.List.{append-nil, append_assoc, get_or-append_right, get_or-take, length-append, length-take-le, take-append-le}
use Rattle.std.proofs.lemmas.List.FromFn.{get_or-range_with_len, length-range_with_len}
use Rattle.std.proofs.lemmas.List.Sorted.{searched}
use native.Mathlib.Decide.{dec_le}
use mathlib.Core.Logic.{dite}
use Rattle.vf_spans.specs.Edges.{Ascends}

-- the numbers from zero on, and then the rest
abbrev pub joined : ℕ → List ℕ → List ℕ
joined straight rest = range_with_len 0 straight ++ rest

pub length_joined : (straight : ℕ) (rest : List ℕ) → length (joined straight rest) ≡ straight + length rest
length_joined straight rest =
    let both = length-append (range_with_len 0 straight) rest in
    let size = length-range_with_len 0 straight in omega (arith, both, size)

-- a number of the straight part is at its own place
pub straight_at : (straight : ℕ) (rest : List ℕ) (k : ℕ) → k < straight → slice_index (joined straight rest) k ≡ k
straight_at straight rest k low =
    let size = length-range_with_len 0 straight in
    let ahead = get_or-append (range_with_len 0 straight) rest 0 k (omega (arith, low, size)) in
    let here = get_or-range_with_len 0 straight k 0 low in omega (arith, ahead, here)

-- after it comes the rest
pub rest_at : (straight : ℕ) (rest : List ℕ) (k : ℕ) → straight ≤ k → slice_index (joined straight rest) k ≡ slice_index rest (k - straight)
rest_at straight rest k from = get_or-append_right (range_with_len 0 straight) rest straight k 0 (length-range_with_len 0 straight) from

-- the first of the numbers from one on
take_range : (a n m : ℕ) → n ≤ m → take n (range_with_len a m) ≡ range_with_len a n
take_range a zero m low = refl
take_range a (suc n) zero low = absurd (omega (arith, low))
take_range a (suc n) (suc m) low = ap (λ (l : List ℕ). a ∷ l) (take_range (a + 1) n m (omega (arith, low)))

-- one number more
range_more : (a n last : ℕ) → a + n ≡ last → range_with_len a (suc n) ≡ range_with_len a n ++ last ∷ []
range_more a zero last is = ap (λ (x : ℕ). x ∷ []) (omega (arith, is))
range_more a (suc n) last is = ap (λ (l : List ℕ). a ∷ l) (range_more (a + 1) n last (omega (arith, is)))

-- the first of a line are the first of its straight part, and then the first of the rest
pub take_joined : (straight at : ℕ) (rest : List ℕ) → take at (joined straight rest) ≡ joined (min straight at) (take (at - straight) rest)
take_joined straight at rest =
    let size = length-range_with_len 0 straight in
    dite (dec_le at straight)
    (λ low.
    let all : min straight at ≡ at = omega arith in
    let none : at - straight ≡ 0 = omega arith in
    take-append-le at (range_with_len 0 straight) rest (omega (arith, low, size))
    ∙ take_range 0 at straight low
    ∙ sym (append-nil (range_with_len 0 at))
    ∙ (λ i. range_with_len 0 (sym all i) ++ take (sym none i) rest))
    (λ high.
    let all : min straight at ≡ straight = omega arith in
    let part : at ≡ length (range_with_len 0 straight) + (at - straight) = omega (arith, high, size) in
    ap (λ n. take n (joined straight rest)) part
    ∙ take-append-add (range_with_len 0 straight) rest (at - straight)
    ∙ ap (λ n. joined n (take (at - straight) rest)) (sym all))

-- the first of its straight part are their own numbers
pub first_straight : (straight at : ℕ) (rest : List ℕ) → at ≤ straight → take at (joined straight rest) ≡ range_with_len 0 at
first_straight straight at rest low =
    let size = length-range_with_len 0 straight in
    take-append-le at (range_with_len 0 straight) rest (omega (arith, low, size)) ∙ take_range 0 at straight low

-- an edit that goes on straight is one number more
pub goes_straight : (straight at : ℕ) (rest : List ℕ) → at ≤ straight → joined (at + 1) [] ≡ take at (joined straight rest) ++ at ∷ []
goes_straight straight at rest low =
    let more : at + 1 ≡ suc at = omega arith in
    append-nil (range_with_len 0 (at + 1))
    ∙ ap (λ n. range_with_len 0 n) more
    ∙ range_more 0 at at (omega arith)
    ∙ ap (λ (l : List ℕ). l ++ at ∷ []) (sym (first_straight straight at rest low))

-- numbers from one on, in two parts
range_split : (a n m : ℕ) → range_with_len a (n + m) ≡ range_with_len a n ++ range_with_len (a + n) m
range_split a zero m =
    let none : zero + m ≡ m = omega arith in
    let same : a ≡ a + zero = omega arith in
    ap (range_with_len a) none ∙ ap (λ b. range_with_len b m) same
range_split a (suc n) m =
    let more : suc n + m ≡ suc (n + m) = omega arith in
    let same : a + 1 + n ≡ a + suc n = omega arith in
    ap (range_with_len a) more
    ∙ ap (λ (l : List ℕ). a ∷ l) (range_split (a + 1) n m)
    ∙ ap (λ b. a ∷ (range_with_len (a + 1) n ++ range_with_len b m)) same

-- `count` edits that go on straight are `count` numbers more
pub goes_straight_by : (at count : ℕ) (line : List ℕ) → take at line ≡ range_with_len 0 at
    → joined (at + count) [] ≡ take at line ++ range_with_len at count
goes_straight_by at count line first =
    let same : 0 + at ≡ at = omega arith in
    append-nil (range_with_len 0 (at + count))
    ∙ range_split 0 at count
    ∙ (λ i. sym first i ++ range_with_len (same i) count)

-- any other is added to the rest
pub goes_on : (straight at edit : ℕ) (rest : List ℕ)
    → joined (min straight at) (take (at - straight) rest ++ edit ∷ []) ≡ take at (joined straight rest) ++ edit ∷ []
goes_on straight at edit rest =
    sym (append_assoc (range_with_len 0 (min straight at)) (take (at - straight) rest) (edit ∷ []))
    ∙ ap (λ (l : List ℕ). l ++ edit ∷ []) (sym (take_joined straight at rest))

-- what a push that succeeds leaves
pub pushed : {T E X : Type 0} (r : Result T E) (after before : List X) → IsOk r → (if is_ok r then after else before) ≡ after
pushed r after before ok = ap (λ (b : Bool). if b then after else before) ok

-- numbers that ascend don't fall
not_falling : (numbers : List ℕ) → Ascends numbers → (i k : ℕ) → i ≤ k → k < length numbers → get_or numbers i 0 ≤ get_or numbers k 0
not_falling numbers ascend i k up low =
    dite (dec_le k i)
    (λ down.
    let is : slice_index numbers i ≡ slice_index numbers k = let same : i ≡ k = omega (arith, up, down) in ap (slice_index numbers) same in
    omega (arith, is))
    (λ more. let order = ascend i k (omega (arith, more)) low in omega (arith, order))

-- a search among them says where a number is
search_tells : (numbers : List ℕ) (x : ℕ) (r : Result ℕ ℕ)
    → MatchResult r (λ i. (i < length numbers) × (get_or numbers i 0 ≡ x))
    (λ i. (i ≤ length numbers) × ((k : ℕ) → k < i → get_or numbers k 0 < x)
    × ((k : ℕ) → i ≤ k → k < length numbers → x < get_or numbers k 0))
    → MatchOption (result_ok r) ((k : ℕ) → k < length numbers → slice_index numbers k ≡ x → ⊥)
    (λ k. (k < length numbers) × (slice_index numbers k ≡ x))
search_tells numbers x (Ok i) found = found
search_tells numbers x (Err i) none =
    λ k low is.
    dite (dec_le i k)
    (λ from. let above = none.2 k from low in omega (arith, above, is))
    (λ less. let below = none.1 k (omega (arith, less)) in omega (arith, below, is))

pub found_in : (numbers : List ℕ) (x : ℕ) (r : Result ℕ ℕ) → Ascends numbers → IsBinarySearchResult (λ y. nat_cmp y x) numbers r
    → MatchOption (result_ok r) ((k : ℕ) → k < length numbers → slice_index numbers k ≡ x → ⊥)
    (λ k. (k < length numbers) × (slice_index numbers k ≡ x))
found_in numbers x r ascend is =
    search_tells numbers x r (searched numbers x r is (λ i k up low. not_falling numbers ascend i k up low))

-- the rest of a line ascends as the line does, and so do its first numbers
pub rest_ascends : (straight many : ℕ) (rest : List ℕ) → many ≤ length rest → Ascends (joined straight rest) → Ascends (take many rest)
rest_ascends straight many rest within ascend = λ k m less low.
    let size = length-take-le many rest within in
    let one = get_or-take many rest k 0 (omega (arith, less, low, size)) in
    let other = get_or-take many rest m 0 (omega (arith, low, size)) in
    let all = length_joined straight rest in
    let order = ascend (straight + k) (straight + m) (omega (arith, less)) (omega (arith, low, size, within, all)) in
    let first = rest_at straight rest (straight + k) (omega arith) in
    let second = rest_at straight rest (straight + m) (omega arith) in
    let here : slice_index rest (straight + k - straight) ≡ slice_index rest k =
    let e : straight + k - straight ≡ k = omega arith in ap (slice_index rest) e in
    let there : slice_index rest (straight + m - straight) ≡ slice_index rest m =
    let e : straight + m - straight ≡ m = omega arith in ap (slice_index rest) e in
    omega (arith, one, other, order, first, second, here, there)

-- a line that is seen as straight numbers and a rest
module _ (straight : ℕ) (rest line : List ℕ) (seen : joined straight rest ≡ line) where
  pub seen_length : length line ≡ straight + length rest
  seen_length = sym (ap length seen) ∙ length_joined straight rest

  pub seen_straight : (k : ℕ) → k < straight → slice_index line k ≡ k
  seen_straight k low = sym (ap (λ (l : List ℕ). slice_index l k) seen) ∙ straight_at straight rest k low

  pub seen_rest : (k : ℕ) → straight ≤ k → slice_index line k ≡ slice_index rest (k - straight)
  seen_rest k from = sym (ap (λ (l : List ℕ). slice_index l k) seen) ∙ rest_at straight rest k from

  module _ (at edit : ℕ) (within : at ≤ length line) where
    pub ahead_within : at - straight ≤ length rest
    ahead_within = let all = seen_length in omega (arith, within, all)

    -- what a search among the rest of the first says of all the first
    pub stands_nowhere : straight ≤ edit → ((k : ℕ) → k < length (take (at - straight) rest)
        → slice_index (take (at - straight) rest) k ≡ edit → ⊥) → (k : ℕ) → k < at → slice_index line k ≡ edit → ⊥
    stands_nowhere above none k low is =
        dite (dec_le straight k)
        (λ from.
        let size = length-take-le (at - straight) rest ahead_within in
        let here = get_or-take (at - straight) rest (k - straight) 0 (omega (arith, from, low)) in
        let there = seen_rest k from in
        none (k - straight) (omega (arith, from, low, size)) (here ∙ sym there ∙ is))
        (λ less. let own = seen_straight k (omega (arith, less)) in omega (arith, own, is, above, less))

    pub stands_behind : (k : ℕ) → k < length (take (at - straight) rest) → slice_index (take (at - straight) rest) k ≡ edit
        → (straight + k < at) × (slice_index line (straight + k) ≡ edit)
    stands_behind k low is =
        let size = length-take-le (at - straight) rest ahead_within in
        let here = get_or-take (at - straight) rest k 0 (omega (arith, low, size)) in
        let there = seen_rest (straight + k) (omega arith) in
        let same : slice_index rest (straight + k - straight) ≡ slice_index rest k =
        let e : straight + k - straight ≡ k = omega arith in ap (slice_index rest) e in
        (omega (arith, low, size), there ∙ same ∙ sym here ∙ is)
