-- The set that words stand for: which flags are set, and what a change of one word or of all makes of them.
use Rattle.std.proofs.Common.{◌≡◌, ◌≢◌, ℕ, ◌+◌, ◌-◌, ◌*◌, ◌/◌, ◌%◌, ◌^◌, ◌<◌, ◌≤◌, List, length, get_or, set, replicate, cond, Bool, true, false, not, ◌&&◌, ◌||◌, eqb, ltb, ⊎_elim, arith, refl, sym, ap, ap₂, ◌∙◌, subst}
use Rattle.std.specs.Prelude.{bit_and}
use Rattle.std.proofs.lemmas.Bool.{cases_eq, cases_lt, eq-eqb, ne_eqb, lt-ltb, le-ltb}
use Rattle.std.proofs.lemmas.List.{get_or_past, get_or-set_same, get_or-set_other, get_or-replicate}
use Rattle.std.proofs.Math.ListN.{length-set, length-replicate}
use Rattle.std.proofs.lemmas.List.FromFn.{length-map-range_with_len, get_or-map-range_with_len}
use Rattle.vf_spans.specs.declared.merge.Operation.{Operation}
use Rattle.vf_spans.specs.declared.merge.Operation.TheVariants.{Union, Minus, Meet}
use Rattle.vf_spans.specs.Merge.{combined}
use Rattle.vf_spans.specs.Members.{has}
use Rattle.vf_spans.specs.Words.{has_bit, in_words, in_word, words_below, flags_of_words, AreWords}
use Rattle.vf_spans.proofs.WordBits.{has_bit-zero, has_bit-and, has_bit-not}

and_true : (b : Bool) → (b && true) ≡ b
and_true true = refl
and_true false = refl

and_false : (b : Bool) → (b && false) ≡ false
and_false true = refl
and_false false = refl

pub or_false : (b : Bool) → (b || false) ≡ b
or_false true = refl
or_false false = refl

pub length-words : (bound : ℕ) (ws : List ℕ) → length (flags_of_words bound ws) ≡ bound
length-words bound ws = length-map-range_with_len (in_words ws) 0 bound

pub has-words : (bound : ℕ) (ws : List ℕ) (i : ℕ) → AreWords bound ws → has (flags_of_words bound ws) i ≡ in_words ws i
has-words bound ws i h =
    ⊎_elim
    (λ (lt : i < bound). get_or-map-range_with_len (in_words ws) 0 bound i i false lt (omega arith))
    (λ (le : bound ≤ i). get_or_past (flags_of_words bound ws) i false (let l = length-words bound ws in omega arith) ∙ sym (h.within i le)) (cases_lt i bound)

-- a set's flag is that of its words
pub flag_in_words : (bound : ℕ) (ws : List ℕ) (v : List Bool) → AreWords bound ws → flags_of_words bound ws ≡ v → (i : ℕ) → in_words ws i ≡ has v i
flag_in_words bound ws v h is i = sym (has-words bound ws i h) ∙ ap (λ z. has z i) is

pub bound_of_words : (bound : ℕ) (ws : List ℕ) (v : List Bool) → flags_of_words bound ws ≡ v → bound ≡ length v
bound_of_words bound ws v is = sym (length-words bound ws) ∙ ap length is

-- two sets with one bound have as many words
pub same_size : (b b' : ℕ) (ws ws' : List ℕ) (v v' : List Bool) → AreWords b ws → AreWords b' ws' → flags_of_words b ws ≡ v → flags_of_words b' ws' ≡ v' → length v' ≡ length v → length ws' ≡ length ws
same_size b b' ws ws' v v' h h' is is' e =
    let p = bound_of_words b ws v is in
    let q = bound_of_words b' ws' v' is' in
    h'.size ∙ ap words_below (q ∙ e ∙ sym p) ∙ sym h.size

-- past the last word no flag is set
pub past_words : (ws : List ℕ) (i : ℕ) → 64 * length ws ≤ i → in_words ws i ≡ false
past_words ws i le = ap (λ w. has_bit w (i % 64)) (get_or_past ws (i / 64) 0 (omega arith)) ∙ has_bit-zero (i % 64)

pub in_words-at : (ws : List ℕ) (n b : ℕ) → b < 64 → in_words ws (64 * n + b) ≡ has_bit (get_or ws n 0) b
in_words-at ws n b lt =
    let word : (64 * n + b) / 64 ≡ n = omega arith in
    let bit : (64 * n + b) % 64 ≡ b = omega arith in
    ap₂ (λ m k. has_bit (get_or ws m 0) k) word bit

-- one word is written
pub in_words-set : (ws : List ℕ) (n w i : ℕ) → n < length ws → in_words (set ws n w) i ≡ cond (eqb (i / 64) n) (has_bit w (i % 64)) (in_words ws i)
in_words-set ws n w i lt =
    ⊎_elim
    (λ (e : i / 64 ≡ n).
    ap (λ m. has_bit m (i % 64)) (ap (λ m. get_or (set ws n w) m 0) e ∙ get_or-set_same ws n w 0 lt)
    ∙ ap (λ b. cond b (has_bit w (i % 64)) (in_words ws i)) (sym (eq-eqb (i / 64) n e)))
    (λ (e : i / 64 ≢ n).
    ap (λ m. has_bit m (i % 64)) (get_or-set_other ws n (i / 64) w 0 e)
    ∙ ap (λ b. cond b (has_bit w (i % 64)) (in_words ws i)) (sym (ne_eqb (i / 64) n e))) (cases_eq (i / 64) n)

pub in_words-cleared : (ws : List ℕ) (n : ℕ) → n < length ws → ((i : ℕ) → i < 64 * n → in_words ws i ≡ false) → (i : ℕ) → i < 64 * (n + 1) → in_words (set ws n 0) i ≡ false
in_words-cleared ws n lt before i below =
    in_words-set ws n 0 i lt
    ∙ ⊎_elim
    (λ (e : i / 64 ≡ n). ap (λ b. cond b (has_bit 0 (i % 64)) (in_words ws i)) (eq-eqb (i / 64) n e) ∙ has_bit-zero (i % 64))
    (λ (e : i / 64 ≢ n). ap (λ b. cond b (has_bit 0 (i % 64)) (in_words ws i)) (ne_eqb (i / 64) n e) ∙ before i (omega arith)) (cases_eq (i / 64) n)

pub set_within : (bound : ℕ) (ws : List ℕ) (n w : ℕ) → AreWords bound ws → n < length ws → ((b : ℕ) → b < 64 → bound ≤ 64 * n + b → has_bit w b ≡ false) → AreWords bound (set ws n w)
set_within bound ws n w h lt within = record {
  size = length-set ws n w ∙ h.size;
  within = λ i le.
      in_words-set ws n w i lt
      ∙ ⊎_elim
      (λ (e : i / 64 ≡ n). ap (λ b. cond b (has_bit w (i % 64)) (in_words ws i)) (eq-eqb (i / 64) n e) ∙ within (i % 64) (omega arith) (omega arith))
      (λ (e : i / 64 ≢ n). ap (λ b. cond b (has_bit w (i % 64)) (in_words ws i)) (ne_eqb (i / 64) n e) ∙ h.within i le) (cases_eq (i / 64) n);
}

pub past_bound : (v : List Bool) (i : ℕ) → length v ≤ i → has v i ≡ false
past_bound v i le = get_or_past v i false le

-- a word was written that is what was there without these bits
pub minus_written : (v v' : List Bool) (n w bits : ℕ) → ((k : ℕ) → k < 64 → has_bit w k ≡ (has v (64 * n + k) && not (has_bit bits k)))
    → ((i : ℕ) → has v' i ≡ cond (eqb (i / 64) n) (has_bit w (i % 64)) (has v i)) → (i : ℕ) → has v' i ≡ (has v i && not (in_word n bits i))
minus_written v v' n w bits here written i =
    written i
    ∙ ⊎_elim
    (λ (e : i / 64 ≡ n).
    let at : 64 * n + i % 64 ≡ i = omega arith in
    let yes : eqb (i / 64) n ≡ true = eq-eqb (i / 64) n e in
    ap (λ b. cond b (has_bit w (i % 64)) (has v i)) yes
    ∙ here (i % 64) (omega arith)
    ∙ ap (λ m. has v m && not (has_bit bits (i % 64))) at
    ∙ ap (λ b. has v i && not (b && has_bit bits (i % 64))) (sym yes))
    (λ (e : i / 64 ≢ n).
    let no : eqb (i / 64) n ≡ false = ne_eqb (i / 64) n e in
    ap (λ b. cond b (has_bit w (i % 64)) (has v i)) no
    ∙ sym (and_true (has v i))
    ∙ ap (λ b. has v i && not (b && has_bit bits (i % 64))) (sym no)) (cases_eq (i / 64) n)

-- a word was written that is what was there and those of these bits that are below the bound
pub or_written : (v v' : List Bool) (n w bits left : ℕ) → left ≡ length v - 64 * n → ((k : ℕ) → k < 64 → has_bit w k ≡ (has v (64 * n + k) || (has_bit bits k && ltb k left)))
    → ((i : ℕ) → has v' i ≡ cond (eqb (i / 64) n) (has_bit w (i % 64)) (has v i)) → (i : ℕ) → i < length v → has v' i ≡ (has v i || in_word n bits i)
or_written v v' n w bits left size here written i lt =
    written i
    ∙ ⊎_elim
    (λ (e : i / 64 ≡ n).
    let at : 64 * n + i % 64 ≡ i = omega arith in
    let yes : eqb (i / 64) n ≡ true = eq-eqb (i / 64) n e in
    ap (λ b. cond b (has_bit w (i % 64)) (has v i)) yes
    ∙ here (i % 64) (omega arith)
    ∙ ap₂ (λ m b. has v m || (has_bit bits (i % 64) && b)) at (lt-ltb (i % 64) left (omega arith))
    ∙ ap (λ b. has v i || b) (and_true (has_bit bits (i % 64)))
    ∙ ap (λ b. has v i || (b && has_bit bits (i % 64))) (sym yes))
    (λ (e : i / 64 ≢ n).
    let no : eqb (i / 64) n ≡ false = ne_eqb (i / 64) n e in
    ap (λ b. cond b (has_bit w (i % 64)) (has v i)) no
    ∙ sym (or_false (has v i))
    ∙ ap (λ b. has v i || (b && has_bit bits (i % 64))) (sym no)) (cases_eq (i / 64) n)

-- such a word has no bit beyond the bound
pub or_within : (v : List Bool) (n w bits left : ℕ) → left ≡ length v - 64 * n → ((k : ℕ) → k < 64 → has_bit w k ≡ (has v (64 * n + k) || (has_bit bits k && ltb k left)))
    → (b : ℕ) → b < 64 → length v ≤ 64 * n + b → has_bit w b ≡ false
or_within v n w bits left size here b lt le =
    here b lt
    ∙ ap₂ (λ p q. p || (has_bit bits b && q)) (past_bound v (64 * n + b) le) (le-ltb b left (omega arith))
    ∙ and_false (has_bit bits b)

pub none_combined : (op : Operation) → combined op false false ≡ false
none_combined Union = refl
none_combined Minus = refl
none_combined Meet = refl

-- the words that the operation made of those of two sets with one bound
pub record AreCombined (op : Operation) (bound : ℕ) (v v' : List Bool) (out : List ℕ) : Type 0 where
  pub words : AreWords bound out
  pub flags : (i : ℕ) → in_words out i ≡ combined op (has v i) (has v' i)

pub are_combined : (op : Operation) (bound : ℕ) (ws xs ws' out : List ℕ) (v v' : List Bool) → AreWords bound ws → flags_of_words bound ws ≡ v → xs ≡ ws
    → AreWords (length v') ws' → ((i : ℕ) → in_words ws' i ≡ has v' i) → length v' ≡ length v → length out ≡ length xs
    → ((i : ℕ) → in_words out i ≡ combined op (in_words xs i) (in_words ws' i)) → AreCombined op bound v v' out
are_combined op bound ws xs ws' out v v' h is same h' flags one size made =
    let b = bound_of_words bound ws v is in
    let old : (i : ℕ) → in_words xs i ≡ has v i = λ i. ap (λ z. in_words z i) same ∙ flag_in_words bound ws v h is i in
    record {
      words = record {
        size = size ∙ ap length same ∙ h.size;
        within = λ i le. made i ∙ ap₂ (combined op) (old i ∙ past_bound v i (omega arith)) (h'.within i (omega arith)) ∙ none_combined op;
      };
      flags = λ i. made i ∙ ap₂ (combined op) (old i) (flags i);
    }

-- the words of a set as a slice
pub words_here : (bound : ℕ) (ws xs : List ℕ) (v : List Bool) → AreWords bound ws → flags_of_words bound ws ≡ v → xs ≡ ws → AreWords (length v) xs
words_here bound ws xs v h is same =
    subst (λ (n : ℕ). AreWords n xs) (bound_of_words bound ws v is) (subst (λ (z : List ℕ). AreWords bound z) (sym same) h)

pub flags_here : (bound : ℕ) (ws xs : List ℕ) (v : List Bool) → AreWords bound ws → flags_of_words bound ws ≡ v → xs ≡ ws → (i : ℕ) → in_words xs i ≡ has v i
flags_here bound ws xs v h is same i = ap (λ z. in_words z i) same ∙ flag_in_words bound ws v h is i

-- no flag is set in words that are all 0
pub in_words-zeros : (n i : ℕ) → in_words (replicate n 0) i ≡ false
in_words-zeros n i =
    ap (λ w. has_bit w (i % 64))
    (⊎_elim (λ (lt : i / 64 < n). get_or-replicate n (i / 64) 0 0 lt)
    (λ (le : n ≤ i / 64). get_or_past (replicate n 0) (i / 64) 0 (let size = length-replicate n (let none : ℕ = 0 in none) in omega arith)) (cases_lt (i / 64) n))
    ∙ has_bit-zero (i % 64)

pub are_zeros : (bound n : ℕ) (ws : List ℕ) → ws ≡ replicate n 0 → n ≡ words_below bound → AreWords bound ws
are_zeros bound n ws e size = record {
  size = ap length e ∙ length-replicate n (let none : ℕ = 0 in none) ∙ size;
  within = λ i le. ap (λ z. in_words z i) e ∙ in_words-zeros n i;
}

-- what the operators make of two words or three of sets
and_again : (p q r : Bool) → ((p && q) && r) ≡ (p && (q && r))
and_again true q r = refl
and_again false q r = refl

pub bits_meet : (a b : List ℕ) (n k : ℕ) → k < 64 → has_bit (bit_and (get_or a n 0) (get_or b n 0)) k ≡ (in_words a (64 * n + k) && in_words b (64 * n + k))
bits_meet a b n k lt =
    has_bit-and (get_or a n 0) (get_or b n 0) k ∙ ap₂ (λ p q. p && q) (sym (in_words-at a n k lt)) (sym (in_words-at b n k lt))

pub bits_minus : (a b : List ℕ) (n k : ℕ) → get_or b n 0 < 2 ^ 64 → k < 64
    → has_bit (bit_and (get_or a n 0) (2 ^ 64 - 1 - get_or b n 0)) k ≡ (in_words a (64 * n + k) && not (in_words b (64 * n + k)))
bits_minus a b n k fits lt =
    has_bit-and (get_or a n 0) (2 ^ 64 - 1 - get_or b n 0) k
    ∙ ap₂ (λ p q. p && q) (sym (in_words-at a n k lt)) (has_bit-not (get_or b n 0) k fits lt ∙ ap not (sym (in_words-at b n k lt)))

pub bits_meet_minus : (a b c : List ℕ) (n k : ℕ) → get_or c n 0 < 2 ^ 64 → k < 64
    → has_bit (bit_and (bit_and (get_or a n 0) (get_or b n 0)) (2 ^ 64 - 1 - get_or c n 0)) k ≡ (in_words a (64 * n + k) && (in_words b (64 * n + k) && not (in_words c (64 * n + k))))
bits_meet_minus a b c n k fits lt =
    has_bit-and (bit_and (get_or a n 0) (get_or b n 0)) (2 ^ 64 - 1 - get_or c n 0) k
    ∙ ap₂ (λ p q. p && q) (bits_meet a b n k lt) (has_bit-not (get_or c n 0) k fits lt ∙ ap not (sym (in_words-at c n k lt)))
    ∙ and_again (in_words a (64 * n + k)) (in_words b (64 * n + k)) (not (in_words c (64 * n + k)))

-- every index is in some word
pub in_some_word : (i : ℕ) → 64 * (i / 64) + i % 64 ≡ i
in_some_word i = omega arith
