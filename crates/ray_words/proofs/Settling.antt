-- At which indices no move has to be tested: by the wanted points of a word, and after a delta is given.
use Rattle.std.proofs.Common.{◌≡◌, ℕ, ◌+◌, ◌-◌, ◌*◌, ◌/◌, ◌%◌, ◌^◌, ◌<◌, ◌≤◌, ◌⊎◌, inl, inr, Bool, true, false, not, ◌&&◌, ◌||◌, List, eqb, ⊎_elim, arith, refl, sym, ap, ap₂, ◌∙◌, subst}
use Rattle.std.proofs.lemmas.Bool.{and_parts, eqb-true, false_from_ne_true, not-true}
use Rattle.std.proofs.lemmas.Bool.Decides.{nat_tests}
use Rattle.vf_spans.specs.Members.{has, in_range}
use Rattle.vf_spans.specs.Words.{has_bit, in_word}
use Rattle.vf_spans.proofs.WordBits.{has_bit-not}
use Rattle.dexel_rays.specs.declared.word_sets.WordDelta.{WordDelta}
use Rattle.dexel_rays.specs.Sets.{Sets}
use Rattle.ray_words.specs.Rays.{HasNoneWanted, IsGiven, is_wanted_at}

-- of one more point some move is sure
still_unwanted : (stock part fixture sure more : Bool) → (part || (fixture || (stock && not sure))) ≡ false
    → (part || (fixture || (stock && not (sure || more)))) ≡ false
still_unwanted stock true fixture sure more e = e
still_unwanted stock false true sure more e = e
still_unwanted false false false sure more e = refl
still_unwanted true false false true more e = refl
still_unwanted true false false false more e = cc

-- after a delta is given no further point is wanted
given_unwanted : (d d' : Sets) (n : ℕ) (delta : WordDelta) (l : ℕ) → IsGiven d n delta d' → is_wanted_at d l ≡ false
    → is_wanted_at d' l ≡ false
given_unwanted d d' n delta l given e =
    ap₂ (λ p q. p || q) (ap (λ s. has s l) given.part)
    (ap₂ (λ p q. p || q) (ap (λ s. has s l) given.fixture) (ap₂ (λ p q. p && not q) (ap (λ s. has s l) given.stock) (given.sure l)))
    ∙ still_unwanted (has d.stock l) (has d.part l) (has d.fixture l) (has d.sure l) (in_word n delta.sure l) e

-- so a settled range is one still
pub given_settled : (d d' : Sets) (n : ℕ) (delta : WordDelta) (settled : ℕ × ℕ) → IsGiven d n delta d' → HasNoneWanted d settled
    → HasNoneWanted d' settled
given_settled d d' n delta settled given none = λ l there. given_unwanted d d' n delta l given (none l there)

-- a word has the bits of the wanted points from the index 64 n on
abbrev pub IsWantedWord : Sets → ℕ → ℕ → Type 0
IsWantedWord d n wanted = (b : ℕ) → b < 64 → has_bit wanted b ≡ is_wanted_at d (64 * n + b)

-- a bit that isn't set in it is a point that is no candidate
unwanted_bit : (d : Sets) (n wanted b : ℕ) → IsWantedWord d n wanted → wanted < 2 ^ 64 → b < 64 → has_bit (2 ^ 64 - 1 - wanted) b ≡ true
    → is_wanted_at d (64 * n + b) ≡ false
unwanted_bit d n wanted b bits fits lt clear =
    sym (bits b lt) ∙ not-true (has_bit wanted b) (sym (has_bit-not wanted b fits lt) ∙ clear)

-- the same by the index
unwanted_in : (d : Sets) (n wanted l : ℕ) → IsWantedWord d n wanted → wanted < 2 ^ 64 → in_word n (2 ^ 64 - 1 - wanted) l ≡ true
    → is_wanted_at d l ≡ false
unwanted_in d n wanted l bits fits here =
    let two = and_parts (eqb (l / 64) n) (has_bit (2 ^ 64 - 1 - wanted) (l % 64)) here in
    let word : l / 64 ≡ n = eqb-true (l / 64) n two.0 in
    let index : 64 * n + l % 64 ≡ l = omega arith in
    subst (λ i. is_wanted_at d i ≡ false) index (unwanted_bit d n wanted (l % 64) bits fits (omega arith) two.1)

-- a range that has besides the indices of a settled one only such points is settled
pub grown_settled : (d : Sets) (n wanted : ℕ) (settled settled' : ℕ × ℕ) → IsWantedWord d n wanted → wanted < 2 ^ 64
    → ((l : ℕ) → in_range l settled' ≡ true → (in_range l settled ≡ true) ⊎ (in_word n (2 ^ 64 - 1 - wanted) l ≡ true))
    → HasNoneWanted d settled → HasNoneWanted d settled'
grown_settled d n wanted settled settled' bits fits grown none =
    λ l there. ⊎_elim (λ (before : in_range l settled ≡ true). none l before)
    (λ (here : in_word n (2 ^ 64 - 1 - wanted) l ≡ true). unwanted_in d n wanted l bits fits here) (grown l there)

-- a point that no body has is no candidate
bare : (part fixture stock sure : Bool) → part ≡ false → fixture ≡ false → stock ≡ false → (part || (fixture || (stock && not sure))) ≡ false
bare true fixture stock sure p f s = p
bare false true stock sure p f s = f
bare false false true sure p f s = cc
bare false false false sure p f s = refl

-- a range from one index on and below another that has each index of the three bodies
pub record IsSpan (d : Sets) (from to : ℕ) : Type 0 where
  pub stock : (i : ℕ) → has d.stock i ≡ true → (from ≤ i) × (i < to)
  pub part : (i : ℕ) → has d.part i ≡ true → (from ≤ i) × (i < to)
  pub fixture : (i : ℕ) → has d.fixture i ≡ true → (from ≤ i) × (i < to)

none_beside : (set : List Bool) (from to l : ℕ) → ((i : ℕ) → has set i ≡ true → (from ≤ i) × (i < to)) → (l < from) ⊎ (to ≤ l) → has set l ≡ false
none_beside set from to l all out =
    false_from_ne_true (has set l)
    (λ t. let inside = all l t in
    ⊎_elim (λ (low : l < from). omega (arith, inside.0)) (λ (high : to ≤ l). omega (arith, inside.1)) out)

bare_beside : (d : Sets) (from to l : ℕ) → IsSpan d from to → (l < from) ⊎ (to ≤ l) → is_wanted_at d l ≡ false
bare_beside d from to l span out =
    bare (has d.part l) (has d.fixture l) (has d.stock l) (has d.sure l) (none_beside d.part from to l span.part out)
    (none_beside d.fixture from to l span.fixture out) (none_beside d.stock from to l span.stock out)

pub none_before : (d : Sets) (from to : ℕ) → IsSpan d from to → HasNoneWanted d (0, from)
none_before d from to span l there =
    let lt : l < from = grind (arith, nat_tests) in bare_beside d from to l span (inl lt)

pub none_past : (d : Sets) (from to end : ℕ) → IsSpan d from to → HasNoneWanted d (to, end)
none_past d from to end span l there =
    let le : to ≤ l = grind (arith, nat_tests) in bare_beside d from to l span (inr le)
