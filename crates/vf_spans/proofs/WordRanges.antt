-- From ranges to words and back: what the two walks have done so far, and that they end with the same set.
use Rattle.std.proofs.Common.{◌≡◌, ◌≢◌, ℕ, ◌+◌, ◌*◌, ◌/◌, ◌%◌, ◌<◌, ◌≤◌, List, length, take, Bool, true, false, IsTrue, ◌&&◌, ◌||◌, leb, ltb, Some, ⊎_elim, arith, sym, ap, ap₂, ◌∙◌, subst}
use Rattle.std.specs.Prelude.{slice_get}
use Rattle.std.specs.List.{list_any}
use Rattle.std.proofs.lemmas.Bool.{and_parts, and_right, both_ways, cases_eq, cases_lt, eq-eqb, ne_eqb, lt-leb, lt-ltb, le-leb, le-ltb, ltb-true}
use Rattle.std.proofs.lemmas.List.{take_all}
use Rattle.std.proofs.lemmas.List.Folds.{list_any_more}
use Rattle.std.proofs.lemmas.Option.{get_or_from_slice_get}
use Rattle.vf_spans.specs.Members.{has, in_range, ranges_of}
use Rattle.vf_spans.specs.Words.{has_bit, in_word, HasNoneFrom, IsNext, IsRun}
use Rattle.vf_spans.proofs.InRanges.{members}
use Rattle.vf_spans.proofs.Same.{same_sets}
use Rattle.vf_spans.proofs.WordFlags.{or_false, past_bound}

-- one range more
pub range_more : (v : List Bool) (n i : ℕ) (range : ℕ × ℕ) → n < length (ranges_of v) → slice_get (ranges_of v) n ≡ Some range
    → list_any (in_range i) (take (n + 1) (ranges_of v)) ≡ (list_any (in_range i) (take n (ranges_of v)) || in_range i range)
range_more v n i range lt e =
    list_any_more (in_range i) (ranges_of v) n range lt
    ∙ ap (λ r. list_any (in_range i) (take n (ranges_of v)) || in_range i r) (get_or_from_slice_get (ranges_of v) n range range e)

-- all ranges
pub ranges_all : (v w : List Bool) (n : ℕ) → length w ≡ length v → length (ranges_of v) ≤ n → ((i : ℕ) → has w i ≡ list_any (in_range i) (take n (ranges_of v))) → w ≡ v
ranges_all v w n size le done =
    same_sets w v (record { bound = size; indices = λ i. done i ∙ ap (list_any (in_range i)) (take_all n (ranges_of v) le) ∙ sym (members v i) })

-- nothing is walked yet
pub none_walked : (v : List Bool) (k : ℕ) → (ltb k 0 && has v k) ≡ false
none_walked v k = ap (λ b. b && has v k) (le-ltb k 0 (omega arith))

-- the whole set is walked
pub all_walked : (v s : List Bool) (i : ℕ) → length s ≡ length v → HasNoneFrom v i → ((k : ℕ) → has s k ≡ (ltb k i && has v k)) → s ≡ v
all_walked v s i size none done =
    same_sets s v (record {
      bound = size;
      indices = λ k. done k
          ∙ ⊎_elim (λ (lt : k < i). ap (λ b. b && has v k) (lt-ltb k i lt))
          (λ (le : i ≤ k). ap (λ b. b && has v k) (le-ltb k i le) ∙ sym (none k le)) (cases_lt k i);
    })

-- an index of the set is below its bound
pub within_bound : (v : List Bool) (i : ℕ) → has v i ≡ true → i ≤ length v
within_bound v i is = ⊎_elim (λ (lt : i < length v). omega arith) (λ (le : length v ≤ i). absurd (both_ways (has v i) (past_bound v i le) is)) (cases_lt i (length v))

-- a run from an index of the set on isn't empty
pub run_some : (v : List Bool) (i lo hi : ℕ) → IsNext v i lo → IsRun v lo hi → lo < hi
run_some v i lo hi next run =
    let from = run.from in
    ⊎_elim (λ (lt : lo < hi). lt)
    (λ (le : hi ≤ lo). let same : hi ≡ lo = omega arith in absurd (both_ways (has v lo) (ap (has v) (sym same) ∙ run.ends) next.member)) (cases_lt lo hi)

-- what was walked is below the next index
pub walked_below : (v s : List Bool) (i lo : ℕ) → i ≤ lo → ((k : ℕ) → has s k ≡ (ltb k i && has v k)) → (k : ℕ) → IsTrue (has s k) → k < lo
walked_below v s i lo from done k is =
    let lt = ltb-true k i (and_parts (ltb k i) (has v k) (sym (done k) ∙ is)).0 in omega (arith, lt, from)

-- one run more is walked
pub run_walked : (v s t : List Bool) (i lo hi : ℕ) → IsNext v i lo → IsRun v lo hi → ((k : ℕ) → has s k ≡ (ltb k i && has v k))
    → ((k : ℕ) → has t k ≡ (has s k || (leb lo k && ltb k hi))) → (k : ℕ) → has t k ≡ (ltb k hi && has v k)
run_walked v s t i lo hi next run done added k =
    let from = next.from in
    let grows = run.from in
    let old = added k ∙ ap (λ b. b || (leb lo k && ltb k hi)) (done k) in
    ⊎_elim
    (λ (lt : k < lo).
    old ∙ ap (λ b. (ltb k i && has v k) || (b && ltb k hi)) (lt-leb lo k lt)
    ∙ or_false (ltb k i && has v k)
    ∙ ⊎_elim (λ (here : k < i). ap (λ b. b && has v k) (lt-ltb k i here ∙ sym (lt-ltb k hi (omega (arith, here, from, grows)))))
    (λ (past : i ≤ k). let none = next.least k past lt in and_right (ltb k i) (has v k) none ∙ sym (and_right (ltb k hi) (has v k) none)) (cases_lt k i))
    (λ (le : lo ≤ k).
    old ∙ ap₂ (λ p q. (p && has v k) || (q && ltb k hi)) (le-ltb k i (omega (arith, le, from))) (le-leb lo k le)
    ∙ ⊎_elim (λ (lt : k < hi). let before = lt-ltb k hi lt in before ∙ sym (ap₂ (λ p q. p && q) before (run.members k le lt)))
    (λ (past : hi ≤ k). let beyond = le-ltb k hi past in beyond ∙ sym (ap (λ p. p && has v k) beyond)) (cases_lt k hi)) (cases_lt k lo)

-- below the range the set is as it was
pub before_range : (v : List Bool) (lo hi i : ℕ) → i < lo → has v i ≡ (has v i || (leb lo i && ltb i hi))
before_range v lo hi i lt = sym (ap (λ b. has v i || (b && ltb i hi)) (lt-leb lo i lt) ∙ or_false (has v i))

past_range : (v : List Bool) (lo hi i : ℕ) → hi ≤ i → has v i ≡ (has v i || (leb lo i && ltb i hi))
past_range v lo hi i le = sym (ap (λ b. has v i || b) (and_right (leb lo i) (ltb i hi) (le-ltb i hi le)) ∙ or_false (has v i))

-- another word is written than that of the index
other_written : (v w : List Bool) (n bits i : ℕ) → length w ≡ length v → i / 64 ≢ n
    → ((k : ℕ) → k < length v → has w k ≡ (has v k || in_word n bits k)) → has w i ≡ has v i
other_written v w n bits i size other added =
    ⊎_elim (λ (lt : i < length v). added i lt ∙ ap (λ b. has v i || (b && has_bit bits (i % 64))) (ne_eqb (i / 64) n other) ∙ or_false (has v i))
    (λ (le : length v ≤ i). past_bound w i (subst (λ m. m ≤ i) (sym size) le) ∙ sym (past_bound v i le)) (cases_lt i (length v))

-- the range's indices in one word more
pub word_written : (v s t : List Bool) (n bits lo hi : ℕ) → hi ≤ length v → length s ≡ length v → length t ≡ length s
    → ((i : ℕ) → i < 64 * n → has s i ≡ (has v i || (leb lo i && ltb i hi))) → ((i : ℕ) → 64 * n ≤ i → has s i ≡ has v i)
    → ((i : ℕ) → i < length s → has t i ≡ (has s i || in_word n bits i)) → ((k : ℕ) → k < 64 → has_bit bits k ≡ (leb lo (64 * n + k) && ltb (64 * n + k) hi))
    → (i : ℕ) → i < 64 * (n + 1) → has t i ≡ (has v i || (leb lo i && ltb i hi))
word_written v s t n bits lo hi within size more done rest added are i lt =
    ⊎_elim
    (λ (e : i / 64 ≡ n).
    let at : 64 * n + i % 64 ≡ i = omega arith in
    ⊎_elim
    (λ (low : i < length s).
    added i low
    ∙ ap₂ (λ p b. p || (b && has_bit bits (i % 64))) (rest i (omega arith)) (eq-eqb (i / 64) n e)
    ∙ ap (λ b. has v i || b) (are (i % 64) (omega arith) ∙ ap (λ m. leb lo m && ltb m hi) at))
    (λ (high : length s ≤ i).
    past_bound t i (omega arith) ∙ sym (past_bound v i (omega arith)) ∙ past_range v lo hi i (omega arith)) (cases_lt i (length s)))
    (λ (e : i / 64 ≢ n). other_written s t n bits i more e added ∙ done i (omega arith)) (cases_eq (i / 64) n)

pub past_written : (v s t : List Bool) (n bits : ℕ) → length s ≡ length v → length t ≡ length s → ((i : ℕ) → 64 * n ≤ i → has s i ≡ has v i)
    → ((i : ℕ) → i < length s → has t i ≡ (has s i || in_word n bits i)) → (i : ℕ) → 64 * (n + 1) ≤ i → has t i ≡ has v i
past_written v s t n bits size more rest added i le =
    let other : i / 64 ≢ n = omega arith in other_written s t n bits i more other added ∙ rest i (omega arith)

-- all its indices
pub range_written : (v s : List Bool) (n lo hi : ℕ) → hi ≤ 64 * n → ((i : ℕ) → i < 64 * n → has s i ≡ (has v i || (leb lo i && ltb i hi)))
    → ((i : ℕ) → 64 * n ≤ i → has s i ≡ has v i) → (i : ℕ) → has s i ≡ (has v i || (leb lo i && ltb i hi))
range_written v s n lo hi past done rest i =
    ⊎_elim (λ (lt : i < 64 * n). done i lt) (λ (le : 64 * n ≤ i). rest i le ∙ past_range v lo hi i (omega arith)) (cases_lt i (64 * n))
