-- Lists of changes: which indices are among them, and in what order they are.
use Rattle.std.proofs.Common.{◌≡◌, ◌≢◌, ℕ, ◌+◌, ◌-◌, ◌/◌, ◌%◌, ◌<◌, ◌≤◌, ◌==◌, Bool, true, false, ◌&&◌, ◌||◌, IsTrue, if◌then◌else◌, List, [], ◌∷◌, ◌++◌, length, get_or, take, drop, arith, refl, sym, ap, ap₂, ◌∙◌, subst, ⊎_elim, eqb, ltb}
use Rattle.std.specs.List.{All}
use Rattle.std.proofs.lemmas.Bool.{and_parts, and_right, cases_Bool, cases_eq, cases_lt, eq-eqb, lt-ltb, ne_eqb, or_right}
use Rattle.std.proofs.lemmas.List.{get_or-append_right, get_or_append_left, get_or_default, take_all}
use Rattle.std.proofs.lemmas.List.Elements.{All-cons, All-nil}
use Rattle.std.proofs.lemmas.List.Folds.{list_any-append, list_any_none}
use Rattle.std.proofs.Math.ListN.{length-append}
use Rattle.std.proofs.Math.Seq.{drop-append_seam}
use borrow.Author.Tests.{ltb-true}
use Rattle.vf_spans.specs.Words.{has_bit, in_word}
use Rattle.vf_spans.proofs.WordBits.{has_bit-zero}
use Rattle.dexel_rays.specs.declared.word_sets.WordDelta.{WordDelta}
use Rattle.ray_words.specs.Rays.{IsKept, KeptSets}
use Rattle.strip_marks.specs.declared.change.WordChange.{WordChange}
use Rattle.strip_marks.specs.Marks.{AreInOrder, among, is_ahead}
use Rattle.strip_marks.specs.RayMarks.{HaveWordsBelow, IsAtKept, IsChangeIn}
use Rattle.strip_marks.specs.Words.{noted}

pub or_false : (a : Bool) → (a || false) ≡ a
or_false true = refl
or_false false = refl

-- the index is among two lists of changes if it is among one of them
pub among_append : (pick : WordChange → ℕ) (xs ys : List WordChange) (n l : ℕ)
    → among pick (xs ++ ys) n l ≡ (among pick xs n l || among pick ys n l)
among_append pick xs ys n l = list_any-append (λ change. eqb change.ray n && in_word change.word (pick change) l) xs ys

-- a change of another ray, or of a word without the index, doesn't have it
pub other_ray : (pick : WordChange → ℕ) (change : WordChange) (n l : ℕ) → change.ray ≢ n
    → (eqb change.ray n && in_word change.word (pick change) l) ≡ false
other_ray pick change n l ne = ap (λ t. t && in_word change.word (pick change) l) (ne_eqb change.ray n ne)

pub other_word : (pick : WordChange → ℕ) (change : WordChange) (n l : ℕ) → l / 64 ≢ change.word
    → (eqb change.ray n && in_word change.word (pick change) l) ≡ false
other_word pick change n l ne =
    ap (λ t. eqb change.ray n && (t && has_bit (pick change) (l % 64))) (ne_eqb (l / 64) change.word ne) ∙ and_right
    (eqb change.ray n) false refl

pub among_none : (pick : WordChange → ℕ) (changes : List WordChange) (n l : ℕ)
    → All (λ change. (eqb change.ray n && in_word change.word (pick change) l) ≡ false) changes → among pick changes n l ≡ false
among_none pick changes n l none = list_any_none (λ change. eqb change.ray n && in_word change.word (pick change) l) changes none

-- what is noted of a word has its bits at its indices, and none elsewhere
abbrev pub change_at : ℕ → ℕ → WordDelta → WordChange
change_at n k delta = record { ray = n; word = k; sure = delta.sure; possible = delta.possible }

abbrev pub is_same : WordDelta → Bool
is_same delta = delta.sure == 0 && delta.possible == 0

pub noted_here : (pick : WordChange → ℕ) (n k : ℕ) (delta : WordDelta) (l : ℕ) → l / 64 ≡ k
    → (is_same delta ≡ true → pick (change_at n k delta) ≡ 0)
    → among pick (noted n k delta) n l ≡ has_bit (pick (change_at n k delta)) (l % 64)
noted_here pick n k delta l here none =
    ⊎_elim
    (λ (e : is_same delta ≡ true). ap (λ t. among pick (if t then [] else change_at n k delta ∷ []) n l) e ∙ sym
    (ap (λ w. has_bit w (l % 64)) (none e) ∙ has_bit-zero (l % 64)))
    (λ (e : is_same delta ≡ false). ap (λ t. among pick (if t then [] else change_at n k delta ∷ []) n l) e
    ∙ or_false (eqb n n && (eqb (l / 64) k && has_bit (pick (change_at n k delta)) (l % 64)))
    ∙ ap₂ (λ s t. s && (t && has_bit (pick (change_at n k delta)) (l % 64))) (eq-eqb n n refl) (eq-eqb (l / 64) k here))
    (cases_Bool (is_same delta))

pub all_noted : (P : WordChange → Type 0) (n k : ℕ) (delta : WordDelta) → P (change_at n k delta) → All P (noted n k delta)
all_noted P n k delta p =
    ⊎_elim
    (λ (e : is_same delta ≡ true). subst (λ (t : Bool). All P (if t then [] else change_at n k delta ∷ [])) (sym e) (All-nil P))
    (λ (e : is_same delta ≡ false). subst (λ (t : Bool). All P (if t then [] else change_at n k delta ∷ [])) (sym e)
    (All-cons P (change_at n k delta) [] p (All-nil P)))
    (cases_Bool (is_same delta))

-- which change comes before which
pub ahead_by_word : (a b : WordChange) → a.ray ≡ b.ray → a.word < b.word → IsTrue (is_ahead a b)
ahead_by_word a b e lt = or_right (ltb a.ray b.ray) (eqb a.ray b.ray && ltb a.word b.word)
    (ap₂ (λ s t. s && t) (eq-eqb a.ray b.ray e) (lt-ltb a.word b.word lt))

pub ahead_by_ray : (a b : WordChange) → a.ray < b.ray → IsTrue (is_ahead a b)
ahead_by_ray a b lt = ap (λ t. t || (eqb a.ray b.ray && ltb a.word b.word)) (lt-ltb a.ray b.ray lt)

other_side : (a b : Bool) → (a || b) ≡ true → a ≡ false → b ≡ true
other_side true b h e = cc
other_side false b h e = h

pub word_of_ahead : (a b : WordChange) → a.ray ≡ b.ray → IsTrue (is_ahead a b) → a.word < b.word
word_of_ahead a b e h =
    let same : ltb a.ray b.ray ≡ false =
    ⊎_elim (λ (t : ltb a.ray b.ray ≡ true). absurd (omega (arith, ltb-true a.ray b.ray t))) (λ (t : ltb a.ray b.ray ≡ false). t)
    (cases_Bool (ltb a.ray b.ray)) in
    ltb-true a.word b.word (and_parts (eqb a.ray b.ray) (ltb a.word b.word)
    (other_side (ltb a.ray b.ray) (eqb a.ray b.ray && ltb a.word b.word) h same)).1

-- an empty list and one with a single change are in order, and so are two lists, each change of the first before each of the second
pub order_few : (changes : List WordChange) → length changes ≤ 1 → AreInOrder changes
order_few changes few = record { each = λ i k d lt within. absurd (omega arith) }

pub order_append : (xs ys : List WordChange) → AreInOrder xs → AreInOrder ys
    → ((i k : ℕ) (d : WordChange) → i < length xs → k < length ys → IsTrue (is_ahead (get_or xs i d) (get_or ys k d))) → AreInOrder
    (xs ++ ys)
order_append xs ys first last between = record {
  each = λ i k d lt within.
      let size : length (xs ++ ys) ≡ length xs + length ys = length-append xs ys in
      let right : (j : ℕ) → length xs ≤ j → get_or (xs ++ ys) j d ≡ get_or ys (j - length xs) d = λ j le. get_or-append_right xs ys
      (length xs) j d refl le in
      let left : (j : ℕ) → j < length xs → get_or (xs ++ ys) j d ≡ get_or xs j d = λ j less. get_or_append_left xs ys d j less in
      ⊎_elim
      (λ (near : k < length xs). subst (λ (x : WordChange). IsTrue (is_ahead x (get_or (xs ++ ys) k d))) (sym (left i (omega arith)))
      (subst (λ (y : WordChange). IsTrue (is_ahead (get_or xs i d) y)) (sym (left k near)) (first.each i k d lt near)))
      (λ (far : length xs ≤ k).
      subst (λ (y : WordChange). IsTrue (is_ahead (get_or (xs ++ ys) i d) y)) (sym (right k far))
      (⊎_elim
      (λ (near : i < length xs). subst (λ (x : WordChange). IsTrue (is_ahead x (get_or ys (k - length xs) d))) (sym (left i near))
      (between i (k - length xs) d near (omega arith)))
      (λ (beyond : length xs ≤ i). subst (λ (x : WordChange). IsTrue (is_ahead x (get_or ys (k - length xs) d))) (sym (right i beyond))
      (last.each (i - length xs) (k - length xs) d (omega arith) (omega arith)))
      (cases_lt i (length xs))))
      (cases_lt k (length xs));
}

-- changes of one ray in order are at words that ascend
pub words_ascend : (bound n lo hi most : ℕ) (changes : List WordChange) → All (IsChangeIn bound n lo hi) changes → AreInOrder changes
    → hi ≤ most → HaveWordsBelow most changes
words_ascend bound n lo hi most changes each order le = record {
  below = λ i d lt. omega (arith, (each i d lt).below);
  order = λ i k d le lt.
      ⊎_elim
      (λ (e : i ≡ k). let same : (get_or changes i d).word ≡ (get_or changes k d).word = ap
      (λ j. (get_or changes j d).word) e in omega arith)
      (λ (ne : i ≢ k).
      let less = word_of_ahead (get_or changes i d) (get_or changes k d) ((each i d (omega arith)).ray ∙ sym (each k d lt).ray)
      (order.each i k d (omega arith) lt) in omega arith)
      (cases_eq i k);
}

-- where the words from the first change's to the last one's are kept, that of each change is
pub kept_between : (ray : KeptSets) (changes : List WordChange) (most count : ℕ) (z : WordChange) → HaveWordsBelow most changes
    → count ≡ length changes
    → ((n : ℕ) → (get_or changes 0 z).word ≤ n → n < (get_or changes (count - 1) z).word + 1 → IsKept ray n) → All (IsAtKept ray) changes
kept_between ray changes most count z h e kept k d lt =
    let last : (get_or changes k z).word ≤ (get_or changes (count - 1) z).word = h.order k (count - 1) z (omega arith) (omega arith) in
    subst (λ (c : WordChange). IsKept ray c.word) (get_or_default changes k z d lt)
    (kept (get_or changes k z).word (h.order 0 k z (omega arith) lt) (omega arith))

-- a list that goes on is no shorter
pub tail_within : (before after added slice : List WordChange) (start : ℕ) → after ≡ before ++ added → slice ≡ after → start ≡ length before → start ≤ length slice
tail_within before after added slice start joined same at =
    let many = ap (λ (l : List WordChange). length l) (same ∙ joined) in omega (arith, at, many, length-append before added)

-- what a list goes on with comes after its length
pub tail_of : (before after added slice : List WordChange) (start : ℕ) → after ≡ before ++ added → slice ≡ after → start ≡ length before
    → take (length slice - start) (drop start slice) ≡ added
tail_of before after added slice start joined same at =
    ap₂ (λ (s : List WordChange) (k : ℕ). take (length s - k) (drop k s)) (same ∙ joined) at
    ∙ ap (take (length (before ++ added) - length before)) (drop-append_seam before added)
    ∙ take_all (length (before ++ added) - length before) added (omega (arith, length-append before added))
