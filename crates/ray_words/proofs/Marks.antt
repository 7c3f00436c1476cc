-- A stretch of words as sets: its words by number, and the flags of the words that are picked from it.
use Rattle.std.proofs.Common.{◌≡◌, ℕ, ◌+◌, ◌-◌, ◌*◌, ◌/◌, ◌%◌, ◌<◌, ◌≤◌, List, length, get_or, cond, Bool, true, false, leb, ⊎_elim, ◌⊎◌, inl, inr, arith, refl, sym, ap, ap₂, ◌∙◌}
use Rattle.std.proofs.lemmas.Bool.{cases_lt, le-leb, lt-leb}
use Rattle.std.proofs.lemmas.List.{get_or_past}
use Rattle.std.proofs.lemmas.List.FromFn.{length-map-range_with_len, get_or-map-range_with_len}
use Rattle.vf_spans.specs.Members.{has}
use Rattle.vf_spans.specs.Words.{has_bit}
use Rattle.vf_spans.proofs.WordBits.{has_bit-zero}
use Rattle.vf_spans.proofs.Same.{same_sets}
use Rattle.dexel_rays.specs.declared.word_sets.WordSets.{WordSets}
use Rattle.dexel_rays.specs.Sets.{HaveBound}
use Rattle.ray_words.specs.Kept.{no_bits, word_at, mark_at, marks_of, sets_of, IsUnmarked}

-- the stretch has word n
pub record InStretch (first : ℕ) (ws : List WordSets) (n : ℕ) : Type 0 where
  pub from : first ≤ n
  pub below : n < first + length ws

-- a word of the stretch is found by its place
pub word_at-in : (first : ℕ) (ws : List WordSets) (n k : ℕ) → first + k ≡ n → word_at first ws n ≡ get_or ws k no_bits
word_at-in first ws n k e =
    let yes : leb first n ≡ true = le-leb first n (omega arith) in
    let at : n - first ≡ k = omega arith in
    ap₂ (λ b m. cond b (get_or ws m no_bits) no_bits) yes at

-- before the stretch no bit is set
pub word_at-before : (first : ℕ) (ws : List WordSets) (n : ℕ) → n < first → word_at first ws n ≡ no_bits
word_at-before first ws n lt = ap (λ b. cond b (get_or ws (n - first) no_bits) no_bits) (lt-leb first n lt)

-- nor past it
pub word_at-past : (first : ℕ) (ws : List WordSets) (n : ℕ) → first + length ws ≤ n → word_at first ws n ≡ no_bits
word_at-past first ws n le = word_at-in first ws n (n - first) (omega arith) ∙ get_or_past ws (n - first) no_bits (omega arith)

-- a word is one of the stretch, or no bit of it is set
pub word_cases : (first : ℕ) (ws : List WordSets) (n : ℕ) → InStretch first ws n ⊎ (word_at first ws n ≡ no_bits)
word_cases first ws n =
    ⊎_elim (λ (lt : n < first). inr (word_at-before first ws n lt))
    (λ (le : first ≤ n). ⊎_elim (λ (lt : n < first + length ws). inl (record { from = le; below = lt }))
    (λ (past : first + length ws ≤ n). inr (word_at-past first ws n past)) (cases_lt n (first + length ws))) (cases_lt n first)

-- every index is in some word
pub in_some_word : (i : ℕ) → 64 * (i / 64) + i % 64 ≡ i
in_some_word i = omega arith

-- the set has its bound
pub length-marks : (pick : WordSets → ℕ) (bound first : ℕ) (ws : List WordSets) → length (marks_of pick bound first ws) ≡ bound
length-marks pick bound first ws = length-map-range_with_len (mark_at pick first ws) 0 bound

-- below the bound a flag is that of its word
pub has-marks : (pick : WordSets → ℕ) (bound first : ℕ) (ws : List WordSets) (i : ℕ) → i < bound
    → has (marks_of pick bound first ws) i ≡ mark_at pick first ws i
has-marks pick bound first ws i lt = get_or-map-range_with_len (mark_at pick first ws) 0 bound i i false lt (omega arith)

-- at and beyond the bound none is set
pub has-marks-past : (pick : WordSets → ℕ) (bound first : ℕ) (ws : List WordSets) (i : ℕ) → bound ≤ i
    → has (marks_of pick bound first ws) i ≡ false
has-marks-past pick bound first ws i le =
    get_or_past (marks_of pick bound first ws) i false (let size = length-marks pick bound first ws in omega arith)

-- the flag of a bit of word n
pub mark_at-bit : (pick : WordSets → ℕ) (first : ℕ) (ws : List WordSets) (n b : ℕ) → b < 64
    → mark_at pick first ws (64 * n + b) ≡ has_bit (pick (word_at first ws n)) b
mark_at-bit pick first ws n b lt =
    let word : (64 * n + b) / 64 ≡ n = omega arith in
    let bit : (64 * n + b) % 64 ≡ b = omega arith in
    ap₂ (λ m k. has_bit (pick (word_at first ws m)) k) word bit

-- no flag is set in a word that has no bits
pub none_marked : (pick : WordSets → ℕ) (first : ℕ) (ws : List WordSets) (i : ℕ) → pick no_bits ≡ 0 → word_at first ws (i / 64) ≡ no_bits
    → mark_at pick first ws i ≡ false
none_marked pick first ws i zero none =
    ap (λ w. has_bit (pick w) (i % 64)) none ∙ ap (λ m. has_bit m (i % 64)) zero ∙ has_bit-zero (i % 64)

-- and so none of such a word is in the set
pub has_none : (pick : WordSets → ℕ) (bound first : ℕ) (ws : List WordSets) (n b : ℕ) → pick no_bits ≡ 0 → word_at first ws n ≡ no_bits
    → b < 64
    → has (marks_of pick bound first ws) (64 * n + b) ≡ false
has_none pick bound first ws n b zero none lt =
    let word : (64 * n + b) / 64 ≡ n = omega arith in
    ⊎_elim (λ (below : 64 * n + b < bound).
    has-marks pick bound first ws (64 * n + b) below
    ∙ none_marked pick first ws (64 * n + b) zero (ap (λ m. word_at first ws m) word ∙ none))
    (λ (past : bound ≤ 64 * n + b). has-marks-past pick bound first ws (64 * n + b) past) (cases_lt (64 * n + b) bound)

-- at a word that the stretch hasn't, no move was sure or possible
pub is_unmarked : (stock part fixture : List Bool) (first : ℕ) (ws : List WordSets) (n : ℕ) → word_at first ws n ≡ no_bits
    → IsUnmarked (sets_of stock part fixture first ws) n
is_unmarked stock part fixture first ws n none = record {
  sure = λ b lt. has_none (λ w. w.sure) (length stock) first ws n b refl none lt;
  possible = λ b lt. has_none (λ w. w.possible) (length stock) first ws n b refl none lt;
}

-- a stretch of no words is the empty set
pub no_marks : (pick : WordSets → ℕ) (bound first : ℕ) (ws : List WordSets) (i : ℕ) → pick no_bits ≡ 0 → length ws ≡ 0
    → has (marks_of pick bound first ws) i ≡ false
no_marks pick bound first ws i zero none =
    let empty : word_at first ws (i / 64) ≡ no_bits =
    ⊎_elim (λ (lt : i / 64 < first). word_at-before first ws (i / 64) lt)
    (λ (le : first ≤ i / 64). word_at-past first ws (i / 64) (omega arith)) (cases_lt (i / 64) first) in
    ap (λ m. has (marks_of pick bound first ws) m) (sym (in_some_word i))
    ∙ has_none pick bound first ws (i / 64) (i % 64) zero empty (omega arith)

-- the bits that are picked from each word of the stretch are the flags of the set
abbrev pub AreBits : (WordSets → ℕ) → List Bool → ℕ → List WordSets → Type 0
AreBits pick flags first ws =
    (n : ℕ) → InStretch first ws n → (b : ℕ) → b < 64 → has_bit (pick (word_at first ws n)) b ≡ has flags (64 * n + b)

-- at an index the flag of such a stretch is that of the set
bits_mark : (pick : WordSets → ℕ) (flags : List Bool) (first : ℕ) (ws : List WordSets) (i : ℕ) → AreBits pick flags first ws
    → InStretch first ws (i / 64) → mark_at pick first ws i ≡ has flags i
bits_mark pick flags first ws i bits here = bits (i / 64) here (i % 64) (omega arith) ∙ ap (λ m. has flags m) (in_some_word i)

-- the flag of a longer stretch, at a word that it has and at one that it has not
same_mark : (pick : WordSets → ℕ) (bound first first' : ℕ) (ws ws' : List WordSets) (i : ℕ) → pick no_bits ≡ 0 → i < bound
    → AreBits pick (marks_of pick bound first ws) first' ws' → ((n : ℕ) → InStretch first ws n → InStretch first' ws' n)
    → mark_at pick first' ws' i ≡ has (marks_of pick bound first ws) i
same_mark pick bound first first' ws ws' i zero lt bits more =
    ⊎_elim (λ (here : InStretch first ws (i / 64)). bits_mark pick (marks_of pick bound first ws) first' ws' i bits (more (i / 64) here))
    (λ (none : word_at first ws (i / 64) ≡ no_bits).
    ⊎_elim (λ (here : InStretch first' ws' (i / 64)). bits_mark pick (marks_of pick bound first ws) first' ws' i bits here)
    (λ (none' : word_at first' ws' (i / 64) ≡ no_bits).
    none_marked pick first' ws' i zero none' ∙ sym (has-marks pick bound first ws i lt ∙ none_marked pick first ws i zero none))
    (word_cases first' ws' (i / 64))) (word_cases first ws (i / 64))

-- another stretch that has at least the words of the first, with the bits of its set, is the same set
pub same_marks : (pick : WordSets → ℕ) (bound first first' : ℕ) (ws ws' : List WordSets) → pick no_bits ≡ 0
    → AreBits pick (marks_of pick bound first ws) first' ws' → ((n : ℕ) → InStretch first ws n → InStretch first' ws' n)
    → marks_of pick bound first' ws' ≡ marks_of pick bound first ws
same_marks pick bound first first' ws ws' zero bits more =
    same_sets (marks_of pick bound first' ws') (marks_of pick bound first ws) (record {
      bound = length-marks pick bound first' ws' ∙ sym (length-marks pick bound first ws);
      indices = λ i. ⊎_elim
          (λ (lt : i < bound). has-marks pick bound first' ws' i lt ∙ same_mark pick bound first first' ws ws' i zero lt bits more)
          (λ (le : bound ≤ i). has-marks-past pick bound first' ws' i le ∙ sym (has-marks-past pick bound first ws i le))
          (cases_lt i bound);
    })

-- the five sets have the bound of the stock
pub have_bound : (stock part fixture : List Bool) (first : ℕ) (ws : List WordSets) (bound : ℕ) → length stock ≡ bound
    → length part ≡ length stock → length fixture ≡ length stock
    → HaveBound bound (sets_of stock part fixture first ws)
have_bound stock part fixture first ws bound s p f = record {
  stock = s;
  part = p ∙ s;
  fixture = f ∙ s;
  sure = length-marks (λ w. w.sure) (length stock) first ws ∙ s;
  possible = length-marks (λ w. w.possible) (length stock) first ws ∙ s;
}
