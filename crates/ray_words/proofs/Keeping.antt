-- A new stretch with the words of the sets, and what a longer one keeps.
use Rattle.std.proofs.Common.{◌≡◌, ℕ, ◌+◌, ◌-◌, ◌*◌, ◌<◌, ◌≤◌, List, [], ◌∷◌, ◌++◌, length, get_or, Bool, ⊎_elim, arith, refl, sym, ap, ◌∙◌, subst, length-append}
use Rattle.std.proofs.lemmas.Bool.{cases_lt}
use Rattle.std.proofs.lemmas.List.{get_or_append_left, get_or_push}
use Rattle.vf_spans.specs.Members.{has}
use Rattle.vf_spans.specs.Words.{has_bit, words_below}
use Rattle.vf_spans.proofs.WordBits.{has_bit-zero}
use Rattle.dexel_rays.specs.declared.word_sets.WordSets.{WordSets}
use Rattle.dexel_rays.specs.Sets.{Sets}
use Rattle.ray_words.specs.Rays.{IsWordAt, KeptSets}
use Rattle.ray_words.specs.Kept.{no_bits, word_at, marks_of, sets_of, AreWordsFrom, IsStretch, IsUnmarked, IsWordRay}
use Rattle.ray_words.proofs.WrittenRays.{IsSeenAs}
use Rattle.ray_words.proofs.Marks.{InStretch, word_at-in, same_marks}

-- one word more
pub words_more : (d : Sets) (first : ℕ) (ws : List WordSets) (w : WordSets) (n : ℕ) → AreWordsFrom d first ws → first + length ws ≡ n
    → IsWordAt d n w → AreWordsFrom d first (ws ++ w ∷ [])
words_more d first ws w n before size here =
    λ k lt. let all : length (ws ++ w ∷ []) ≡ length ws + 1 = length-append ws (w ∷ []) in
    ⊎_elim
    (λ (earlier : k < length ws). subst (λ v. IsWordAt d (first + k) v) (sym (get_or_append_left ws (w ∷ []) no_bits k earlier))
    (before k earlier))
    (λ (le : length ws ≤ k).
    let last : length ws ≡ k = omega arith in
    let at : n ≡ first + k = omega arith in
    subst (λ v. IsWordAt d (first + k) v) (sym (get_or_push ws w no_bits k last))
    (subst (λ (m : ℕ). IsWordAt d m w) at here)) (cases_lt k (length ws))

-- the words of a new stretch by number
pub word_from : (d : Sets) (first : ℕ) (ws : List WordSets) (n : ℕ) → AreWordsFrom d first ws → InStretch first ws n
    → IsWordAt d n (word_at first ws n)
word_from d first ws n words here =
    let from = here.from in
    let below = here.below in
    let at : first + (n - first) ≡ n = omega arith in
    subst (λ v. IsWordAt d n v) (sym (word_at-in first ws n (n - first) at))
    (subst (λ (m : ℕ). IsWordAt d m (get_or ws (n - first) no_bits)) at (words (n - first) (omega arith)))

-- a stretch with the words of the sets, which has all that were kept
pub record IsLonger (stock part fixture : List Bool) (first : ℕ) (ws : List WordSets) (first' : ℕ) (ws' : List WordSets) : Type 0 where
  pub within : first' + length ws' ≤ words_below (length stock)
  pub from : 0 < length ws → first' ≤ first
  pub to : 0 < length ws → first + length ws ≤ first' + length ws'
  pub words : AreWordsFrom (sets_of stock part fixture first ws) first' ws'

-- so a word that was kept still is
still_has : (first : ℕ) (ws : List WordSets) (first' : ℕ) (ws' : List WordSets) → (0 < length ws → first' ≤ first)
    → (0 < length ws → first + length ws ≤ first' + length ws')
    → (n : ℕ) → InStretch first ws n → InStretch first' ws' n
still_has first ws first' ws' from to n here =
    let a = here.from in
    let b = here.below in
    let some : 0 < length ws = omega arith in
    let c = from some in
    let e = to some in
    record { from = omega arith; below = omega arith }

-- five sets of the same bodies and the same marks
same_sets_of : (stock part fixture : List Bool) (u u' q q' : List Bool) → u ≡ u' → q ≡ q'
    → let a : Sets = record { stock = stock; part = part; fixture = fixture; sure = u; possible = q } in
    let b : Sets = record { stock = stock; part = part; fixture = fixture; sure = u'; possible = q' } in a ≡ b
same_sets_of stock part fixture u u' q q' eu eq = cc

-- the longer stretch leaves the five sets as they are
pub longer_sets : (stock part fixture : List Bool) (first : ℕ) (ws : List WordSets) (first' : ℕ) (ws' : List WordSets)
    → IsLonger stock part fixture first ws first' ws'
    → sets_of stock part fixture first' ws' ≡ sets_of stock part fixture first ws
longer_sets stock part fixture first ws first' ws' h =
    let more = still_has first ws first' ws' h.from h.to in
    let all = λ (n : ℕ) (here : InStretch first' ws' n). word_from (sets_of stock part fixture first ws) first' ws' n h.words here in
    same_sets_of stock part fixture (marks_of (λ w. w.sure) (length stock) first' ws') (marks_of (λ w. w.sure) (length stock) first ws)
    (marks_of (λ w. w.possible) (length stock) first' ws') (marks_of (λ w. w.possible) (length stock) first ws)
    (same_marks (λ w. w.sure) (length stock) first first' ws ws' refl (λ n here. (all n here).sure) more)
    (same_marks (λ w. w.possible) (length stock) first first' ws ws' refl (λ n here. (all n here).possible) more)

-- and with it the ray is a ray
pub longer_ray : (stock part fixture : List Bool) (first : ℕ) (ws : List WordSets) (first' : ℕ) (ws' : List WordSets)
    → IsWordRay stock part fixture first ws
    → IsLonger stock part fixture first ws first' ws' → IsWordRay stock part fixture first' ws'
longer_ray stock part fixture first ws first' ws' r h = record {
  part_bound = r.part_bound;
  fixture_bound = r.fixture_bound;
  within = h.within;
  bits = λ n from below. let here : InStretch first' ws' n = record { from = from; below = below } in
      subst (λ d. IsWordAt d n (word_at first' ws' n)) (sym (longer_sets stock part fixture first ws first' ws' h))
      (word_from (sets_of stock part fixture first ws) first' ws' n h.words here);
}

-- three words of the bodies, with none sure and none possible, where the sets have no mark
pub fresh_word : (r : KeptSets) (stock part fixture : List Bool) (first : ℕ) (ws : List WordSets) (n s p f : ℕ)
    → IsSeenAs stock part fixture first ws r
    → ((b : ℕ) → b < 64 → has_bit s b ≡ has stock (64 * n + b)) → ((b : ℕ) → b < 64 → has_bit p b ≡ has part (64 * n + b))
    → ((b : ℕ) → b < 64 → has_bit f b ≡ has fixture (64 * n + b)) → IsUnmarked r.sets n
    → IsWordAt r.sets n (record { stock = s; part = p; fixture = f; sure = 0; possible = 0 })
fresh_word r stock part fixture first ws n s p f is s0 p0 f0 none = record {
  stock = λ b lt. s0 b lt ∙ ap (λ k. has k.sets.stock (64 * n + b)) is;
  part = λ b lt. p0 b lt ∙ ap (λ k. has k.sets.part (64 * n + b)) is;
  fixture = λ b lt. f0 b lt ∙ ap (λ k. has k.sets.fixture (64 * n + b)) is;
  sure = λ b lt. has_bit-zero b ∙ sym (none.sure b lt);
  possible = λ b lt. has_bit-zero b ∙ sym (none.possible b lt);
}

-- such a stretch, from the words of a ray that is seen as r
pub made_longer : (r : KeptSets) (stock part fixture : List Bool) (first : ℕ) (ws : List WordSets) (lo hi : ℕ) (s : ℕ × ℕ)
    (ws' : List WordSets)
    → IsSeenAs stock part fixture first ws r → IsStretch r lo hi s → lo < hi → length ws' ≡ s.1 - s.0 → AreWordsFrom r.sets s.0 ws'
    → IsLonger stock part fixture first ws s.0 ws'
made_longer r stock part fixture first ws lo hi s ws' is stretch some size words =
    let same_first : first ≡ r.first = ap (λ (v : KeptSets). v.first) is in
    let same_count : length ws ≡ r.count = ap (λ (v : KeptSets). v.count) is in
    let bound : length r.sets.stock ≡ length stock = ap (λ (v : KeptSets). length v.sets.stock) (sym is) in
    let from = stretch.from in
    let to = stretch.to in
    let within = stretch.within in
    record {
      within = omega arith;
      from = λ any. let low = stretch.kept_from (omega arith) in omega arith;
      to = λ any. let high = stretch.kept_to (omega arith) in omega arith;
      words = subst (λ (v : KeptSets). AreWordsFrom v.sets s.0 ws') (sym is) words;
    }
