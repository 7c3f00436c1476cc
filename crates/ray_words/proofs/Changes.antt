-- One word of a stretch is written: what it makes of the sets.
use Rattle.std.proofs.Common.{◌≡◌, ◌≢◌, ℕ, ◌+◌, ◌-◌, ◌*◌, ◌/◌, ◌%◌, ◌<◌, ◌≤◌, List, length, set, Bool, false, ◌&&◌, ⊎_elim, arith, sym, ap, ap₂, ◌∙◌}
use Rattle.std.proofs.lemmas.Bool.{cases_eq, cases_lt, eq-eqb, ne_eqb}
use Rattle.std.proofs.lemmas.List.{get_or-set_same, get_or-set_other}
use Rattle.std.proofs.Math.ListN.{length-set}
use Rattle.vf_spans.specs.Members.{has}
use Rattle.vf_spans.specs.Words.{has_bit, in_word}
use Rattle.dexel_rays.specs.declared.word_sets.WordSets.{WordSets}
use Rattle.ray_words.specs.Kept.{no_bits, word_at, marks_of}
use Rattle.ray_words.proofs.Marks.{InStretch, AreBits, word_at-in, word_at-before, in_some_word, length-marks, has-marks, has-marks-past}

-- the stretch has the same number of words as before
pub still_in : (first : ℕ) (ws : List WordSets) (k : ℕ) (w : WordSets) (m : ℕ) → InStretch first (set ws k w) m → InStretch first ws m
still_in first ws k w m here = let size = length-set ws k w in record { from = here.from; below = let below = here.below in omega arith }

-- the word that was written
pub written_here : (first : ℕ) (ws : List WordSets) (k : ℕ) (w : WordSets) (n : ℕ) → first + k ≡ n → k < length ws
    → word_at first (set ws k w) n ≡ w
written_here first ws k w n at there = word_at-in first (set ws k w) n k at ∙ get_or-set_same ws k w no_bits there

-- the others are as before
pub written_other : (first : ℕ) (ws : List WordSets) (k : ℕ) (w : WordSets) (n m : ℕ) → first + k ≡ n → m ≢ n
    → word_at first (set ws k w) m ≡ word_at first ws m
written_other first ws k w n m at other =
    ⊎_elim
    (λ (lt : m < first). word_at-before first (set ws k w) m lt ∙ sym (word_at-before first ws m lt))
    (λ (le : first ≤ m).
    word_at-in first (set ws k w) m (m - first) (omega arith)
    ∙ get_or-set_other ws k (m - first) w no_bits (omega arith)
    ∙ sym (word_at-in first ws m (m - first) (omega arith))) (cases_lt m first)

-- a word is written whose picked bits are those from before, changed by the bits of a delta in one of two ways
pub record IsWritten (change : Bool → Bool → Bool) (pick : WordSets → ℕ) (bound first : ℕ) (ws : List WordSets) (n k : ℕ) (w : WordSets)
    (delta : ℕ) : Type 0 where
  pub at : first + k ≡ n
  pub there : k < length ws
  pub stays : (x : Bool) → change x false ≡ x
  pub beyond : (b : ℕ) → b < 64 → bound ≤ 64 * n + b → change false (has_bit delta b) ≡ false
  pub bits : (b : ℕ) → b < 64 → has_bit (pick w) b ≡ change (has_bit (pick (word_at first ws n)) b) (has_bit delta b)

-- a bit of word n is one of the delta
in_word-here : (n delta b : ℕ) → b < 64 → in_word n delta (64 * n + b) ≡ has_bit delta b
in_word-here n delta b lt =
    let word : (64 * n + b) / 64 ≡ n = omega arith in
    let bit : (64 * n + b) % 64 ≡ b = omega arith in
    ap₂ (λ t k. t && has_bit delta k) (eq-eqb ((64 * n + b) / 64) n word) bit

-- one of another word is not
in_word-other : (n delta m b : ℕ) → b < 64 → m ≢ n → in_word n delta (64 * m + b) ≡ false
in_word-other n delta m b lt other =
    ap (λ t. t && has_bit delta ((64 * m + b) % 64)) (ne_eqb ((64 * m + b) / 64) n (λ e. other (omega arith)))

-- the flag of a bit, by the bits of the words from before
written_bit : (change : Bool → Bool → Bool) (pick : WordSets → ℕ) (bound first : ℕ) (ws : List WordSets) (n k : ℕ) (w : WordSets)
    (delta m b : ℕ)
    → IsWritten change pick bound first ws n k w delta → b < 64
    → has_bit (pick (word_at first (set ws k w) m)) b ≡ change (has_bit (pick (word_at first ws m)) b) (in_word n delta (64 * m + b))
written_bit change pick bound first ws n k w delta m b h lt =
    ⊎_elim
    (λ (e : m ≡ n).
    ap (λ j. has_bit (pick (word_at first (set ws k w) j)) b) e
    ∙ ap (λ v. has_bit (pick v) b) (written_here first ws k w n h.at h.there)
    ∙ h.bits b lt
    ∙ ap (λ t. change (has_bit (pick (word_at first ws n)) b) t) (sym (in_word-here n delta b lt))
    ∙ ap (λ j. change (has_bit (pick (word_at first ws j)) b) (in_word n delta (64 * j + b))) (sym e))
    (λ (other : m ≢ n).
    ap (λ v. has_bit (pick v) b) (written_other first ws k w n m h.at other)
    ∙ sym (h.stays (has_bit (pick (word_at first ws m)) b))
    ∙ ap (λ t. change (has_bit (pick (word_at first ws m)) b) t) (sym (in_word-other n delta m b lt other))) (cases_eq m n)

-- beyond the bound the delta changes nothing
written_past : (change : Bool → Bool → Bool) (pick : WordSets → ℕ) (bound first : ℕ) (ws : List WordSets) (n k : ℕ) (w : WordSets)
    (delta i : ℕ)
    → IsWritten change pick bound first ws n k w delta → bound ≤ i → change false (in_word n delta i) ≡ false
written_past change pick bound first ws n k w delta i h le =
    ⊎_elim
    (λ (e : i / 64 ≡ n). ap (λ t. change false (t && has_bit delta (i % 64))) (eq-eqb (i / 64) n e)
    ∙ h.beyond (i % 64) (omega arith) (omega arith))
    (λ (other : i / 64 ≢ n). ap (λ t. change false (t && has_bit delta (i % 64))) (ne_eqb (i / 64) n other) ∙ h.stays false)
    (cases_eq (i / 64) n)

-- the set afterwards, at every index
pub written_marks : (change : Bool → Bool → Bool) (pick : WordSets → ℕ) (bound first : ℕ) (ws : List WordSets) (n k : ℕ) (w : WordSets)
    (delta i : ℕ)
    → IsWritten change pick bound first ws n k w delta
    → has (marks_of pick bound first (set ws k w)) i ≡ change (has (marks_of pick bound first ws) i) (in_word n delta i)
written_marks change pick bound first ws n k w delta i h =
    ⊎_elim
    (λ (lt : i < bound).
    has-marks pick bound first (set ws k w) i lt
    ∙ written_bit change pick bound first ws n k w delta (i / 64) (i % 64) h (omega arith)
    ∙ ap₂ (λ t j. change t (in_word n delta j)) (sym (has-marks pick bound first ws i lt)) (in_some_word i))
    (λ (le : bound ≤ i).
    has-marks-past pick bound first (set ws k w) i le
    ∙ sym (written_past change pick bound first ws n k w delta i h le)
    ∙ ap (λ t. change t (in_word n delta i)) (sym (has-marks-past pick bound first ws i le))) (cases_lt i bound)

-- its bound is the one from before
pub same_bound : (pick : WordSets → ℕ) (bound first : ℕ) (ws : List WordSets) (k : ℕ) (w : WordSets)
    → length (marks_of pick bound first (set ws k w)) ≡ length (marks_of pick bound first ws)
same_bound pick bound first ws k w = length-marks pick bound first (set ws k w) ∙ sym (length-marks pick bound first ws)

-- the words have the bits of that set
pub written_bits : (change : Bool → Bool → Bool) (pick : WordSets → ℕ) (bound first : ℕ) (ws : List WordSets) (n k : ℕ) (w : WordSets)
    (delta : ℕ)
    → IsWritten change pick bound first ws n k w delta → AreBits pick (marks_of pick bound first ws) first ws
    → AreBits pick (marks_of pick bound first (set ws k w)) first (set ws k w)
written_bits change pick bound first ws n k w delta h bits =
    λ m here b lt. written_bit change pick bound first ws n k w delta m b h lt
    ∙ ap (λ t. change t (in_word n delta (64 * m + b))) (bits m (still_in first ws k w m here) b lt)
    ∙ sym (written_marks change pick bound first ws n k w delta (64 * m + b) h)

-- the bits of a body stay where the written word has the same
pub body_bits : (pick : WordSets → ℕ) (flags : List Bool) (first : ℕ) (ws : List WordSets) (n k : ℕ) (w : WordSets) → first + k ≡ n
    → k < length ws
    → pick w ≡ pick (word_at first ws n) → AreBits pick flags first ws → AreBits pick flags first (set ws k w)
body_bits pick flags first ws n k w at there same bits =
    λ m here b lt. ⊎_elim
    (λ (e : m ≡ n).
    ap (λ j. has_bit (pick (word_at first (set ws k w) j)) b) e
    ∙ ap (λ v. has_bit (pick v) b) (written_here first ws k w n at there)
    ∙ ap (λ v. has_bit v b) same
    ∙ ap (λ j. has_bit (pick (word_at first ws j)) b) (sym e))
    (λ (other : m ≢ n). ap (λ v. has_bit (pick v) b) (written_other first ws k w n m at other)) (cases_eq m n)
    ∙ bits m (still_in first ws k w m here) b lt
