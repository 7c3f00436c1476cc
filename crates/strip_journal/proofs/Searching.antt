-- What a binary search among the changes of an edit finds.
use Rattle.std.proofs.Common.{◌≡◌, ℕ, ◌/◌, ◌%◌, ◌<◌, Bool, true, false, ◌&&◌, IsTrue, nat_eq, List, length, get_or, ◌≢◌, arith, sym, ap, ap₂, ◌∙◌, subst, ⊎_elim}
use Rattle.std.specs.List.{list_any}
use Rattle.std.specs.List.Sorted.{IsPartitionedBy, IsPartitionPoint}
use Rattle.std.proofs.lemmas.Bool.{cases_eq, eq-eqb, ne_eqb}
use Rattle.std.proofs.lemmas.Bool.Decides.{nat_tests}
use Rattle.std.proofs.Math.Bool.{and-false}
use Rattle.std.proofs.lemmas.List.{get_or_default}
use Rattle.std.proofs.lemmas.List.Elements.{All-from_all_within}
use Rattle.std.proofs.lemmas.List.Folds.{list_any_at, list_any_none}
use native.Mathlib.Decide.{dec_le}
use mathlib.Core.Logic.{dite}
use Rattle.vf_spans.specs.Words.{has_bit, in_word}
use Rattle.strip_marks.specs.declared.change.WordChange.{WordChange}
use Rattle.strip_marks.specs.Marks.{AreInOrder, among, is_ahead}
use Rattle.strip_journal.specs.Looking.{at_word}

-- no change, for a place beyond the last
abbrev pub no_change : WordChange
no_change = record { ray = 0; word = 0; sure = 0; possible = 0 }

-- what comes before a change that comes before a word does so too
ahead_ahead : (a b c : WordChange) → IsTrue (is_ahead a b) → is_ahead b c ≡ true → is_ahead a c ≡ true
ahead_ahead a b c first then = grind (arith, nat_tests)

-- what comes before another is at another word
ahead_differs : (a b : WordChange) → IsTrue (is_ahead a b) → a.ray ≡ b.ray → a.word ≡ b.word → ⊥
ahead_differs a b ahead ray word = grind (arith, nat_tests)

-- so is what comes before a word, and what comes after a change that doesn't
word_differs : (a : WordChange) (n word : ℕ) → is_ahead a (at_word n word) ≡ true → a.ray ≡ n → a.word ≡ word → ⊥
word_differs a n word ahead ray same = grind (arith, nat_tests)

behind_differs : (a b : WordChange) (n word : ℕ) → is_ahead a (at_word n word) ≡ false → IsTrue (is_ahead a b) → b.ray ≡ n → b.word ≡ word
    → ⊥
behind_differs a b n word at behind ray same = grind (arith, nat_tests)

-- changes in order are split by a word
pub changes_parted : (changes : List WordChange) (n word : ℕ) → AreInOrder changes
    → IsPartitionedBy (λ change. is_ahead change (at_word n word)) changes
changes_parted changes n word order i k d up few ahead =
    dite (dec_le k i)
    (λ same.
    let e : get_or changes k d ≡ get_or changes i d = let at : k ≡ i = omega (arith, up, same) in ap (λ m. get_or changes m d) at in
    rw (← e) ahead)
    (λ later. ahead_ahead (get_or changes i d) (get_or changes k d) (at_word n word) (order.each i k d (omega (arith, later)) few) ahead)

-- a test that no other change passes is passed by some where the one passes it
alone : (test : WordChange → Bool) (changes : List WordChange) (p : ℕ) (b : Bool) → p < length changes
    → test (get_or changes p no_change) ≡ b
    → ((i : ℕ) → i < length changes → (i ≡ p → ⊥) → test (get_or changes i no_change) ≡ false) → list_any test changes ≡ b
alone test changes p true low is other = list_any_at test changes p no_change low is
alone test changes p false low is other =
    list_any_none test changes
    (All-from_all_within (λ change. test change ≡ false) changes
    (λ i d from few. ap test (get_or_default changes i d no_change few) ∙ each i few))
  where
    each : (i : ℕ) → i < length changes → test (get_or changes i no_change) ≡ false
    each i few =
        dite (dec_le i p)
        (λ below. dite (dec_le p i)
        (λ here. let at : p ≡ i = omega (arith, below, here) in ap (λ m. test (get_or changes m no_change)) (sym at) ∙ is)
        (λ sooner. other i few (λ same. omega (arith, same, sooner))))
        (λ later. other i few (λ same. omega (arith, same, later)))

-- of two pairs of numbers that differ one has two that differ
elsewhere_at : (bit : Bool) (a n b word : ℕ) → (a ≡ n → word ≡ b → ⊥) → (nat_eq a n && (nat_eq b word && bit)) ≡ false
elsewhere_at bit a n b word other =
    ⊎_elim
    (λ (same : a ≡ n).
    ⊎_elim
    (λ (too : word ≡ b). absurd (other same too))
    (λ (differs : word ≢ b).
    ap (λ (t : Bool). nat_eq a n && (t && bit)) (ne_eqb b word (λ e. differs (sym e))) ∙ and-false (nat_eq a n)) (cases_eq word b))
    (λ (differs : a ≢ n). ap (λ (t : Bool). t && (nat_eq b word && bit)) (ne_eqb a n differs)) (cases_eq a n)

-- a change at another word hasn't the index
elsewhere : (pick : WordChange → ℕ) (n l : ℕ) (change : WordChange) → (change.ray ≡ n → change.word ≡ l / 64 → ⊥)
    → (nat_eq change.ray n && in_word change.word (pick change) l) ≡ false
elsewhere pick n l change other = elsewhere_at (has_bit (pick change) (l % 64)) change.ray n (l / 64) change.word other

-- a change at this word has it where the word has the bit
here : (pick : WordChange → ℕ) (n l : ℕ) (change : WordChange) → change.ray ≡ n → change.word ≡ l / 64
    → (nat_eq change.ray n && in_word change.word (pick change) l) ≡ has_bit (pick change) (l % 64)
here pick n l change ray word =
    ap₂ (λ (t u : Bool). t && (u && has_bit (pick change) (l % 64))) (eq-eqb change.ray n ray) (eq-eqb (l / 64) change.word (sym word))

-- an index is among the changes where the change at its word has its bit
pub among_at : (pick : WordChange → ℕ) (changes : List WordChange) (n l p : ℕ) → AreInOrder changes → p < length changes
    → (get_or changes p no_change).ray ≡ n → (get_or changes p no_change).word ≡ l / 64
    → among pick changes n l ≡ has_bit (pick (get_or changes p no_change)) (l % 64)
among_at pick changes n l p order low ray word =
    alone (λ change. nat_eq change.ray n && in_word change.word (pick change) l) changes p _ low
    (here pick n l (get_or changes p no_change) ray word)
    (λ i few other.
    elsewhere pick n l (get_or changes i no_change)
    (λ ray_too word_too.
    dite (dec_le p i)
    (λ from.
    ahead_differs (get_or changes p no_change) (get_or changes i no_change) (order.each p i no_change (omega (arith, from, other)) few)
    (ray ∙ sym ray_too) (word ∙ sym word_too))
    (λ sooner.
    ahead_differs (get_or changes i no_change) (get_or changes p no_change) (order.each i p no_change (omega (arith, sooner)) low)
    (ray_too ∙ sym ray) (word_too ∙ sym word))))

-- where no change at its word is at the place of the word, it is among none
pub among_none : (pick : WordChange → ℕ) (changes : List WordChange) (n l p : ℕ) → AreInOrder changes
    → IsPartitionPoint (λ change. is_ahead change (at_word n (l / 64)) ≡ true)
    (λ change. is_ahead change (at_word n (l / 64)) ≡ false) changes p
    → (p < length changes → (get_or changes p no_change).ray ≡ n → (get_or changes p no_change).word ≡ l / 64 → ⊥)
    → among pick changes n l ≡ false
among_none pick changes n l p order point other =
    list_any_none (λ change. nat_eq change.ray n && in_word change.word (pick change) l) changes
    (All-from_all_within (λ change. (nat_eq change.ray n && in_word change.word (pick change) l) ≡ false) changes
    (λ i d from few.
    ap (λ (change : WordChange). nat_eq change.ray n && in_word change.word (pick change) l) (get_or_default changes i d no_change few)
    ∙ elsewhere pick n l (get_or changes i no_change) (none_at i few)))
  where
    none_at : (i : ℕ) → i < length changes → (get_or changes i no_change).ray ≡ n → (get_or changes i no_change).word ≡ l / 64 → ⊥
    none_at i few ray word =
        dite (dec_le p i)
        (λ from.
        dite (dec_le i p)
        (λ last.
        let at : i ≡ p = omega (arith, from, last) in
        let there =
        subst (λ m. m < length changes → (get_or changes m no_change).ray ≡ n → (get_or changes m no_change).word ≡ l / 64 → ⊥) (sym at)
        other in
        there few ray word)
        (λ later.
        behind_differs (get_or changes p no_change) (get_or changes i no_change) n (l / 64)
        (point.1 p no_change (omega arith) (omega (arith, from, few))) (order.each p i no_change (omega (arith, later)) few) ray word))
        (λ sooner. word_differs (get_or changes i no_change) n (l / 64) (point.0 i no_change (omega arith) (omega (arith, sooner)))
        ray word)
