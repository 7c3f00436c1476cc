-- One word of a ray is written: what a delta that is given or taken away makes of the sets.
use Rattle.std.proofs.Common.{◌≡◌, ℕ, ◌+◌, ◌-◌, ◌<◌, ◌≤◌, List, length, get_or, set, Bool, true, false, not, ◌&&◌, ◌||◌, arith, refl, sym, ap, ◌∙◌, subst}
use Rattle.std.proofs.lemmas.Bool.{false_from_ne_true}
use Rattle.std.proofs.lemmas.List.{get_or_read}
use Rattle.std.proofs.Math.ListN.{length-set}
use Rattle.vf_spans.specs.Words.{has_bit, words_below}
use Rattle.dexel_rays.specs.declared.word_sets.WordDelta.{WordDelta}
use Rattle.dexel_rays.specs.declared.word_sets.WordSets.{WordSets}
use Rattle.dexel_rays.specs.WordSets.{IsWordWith, IsWordWithout}
use Rattle.ray_words.specs.Rays.{IsBelow, IsGiven, IsKept, IsTaken, KeptSets}
use Rattle.ray_words.specs.Kept.{no_bits, word_at, marks_of, sets_of, kept_of, IsWordRay}
use Rattle.ray_words.proofs.Marks.{InStretch, AreBits, word_at-in}
use Rattle.ray_words.proofs.Changes.{IsWritten, same_bound, written_marks, written_bits, body_bits}

-- a ray from the bits of its five sets
pub ray_from_bits : (stock part fixture : List Bool) (first : ℕ) (ws : List WordSets) → length part ≡ length stock
    → length fixture ≡ length stock
    → first + length ws ≤ words_below (length stock) → AreBits (λ w. w.stock) stock first ws → AreBits (λ w. w.part) part first ws
    → AreBits (λ w. w.fixture) fixture first ws → AreBits (λ w. w.sure) (marks_of (λ w. w.sure) (length stock) first ws) first ws
    → AreBits (λ w. w.possible) (marks_of (λ w. w.possible) (length stock) first ws) first ws → IsWordRay stock part fixture first ws
ray_from_bits stock part fixture first ws p f within s0 p0 f0 u0 q0 = record {
  part_bound = p;
  fixture_bound = f;
  within = within;
  bits = λ n from below. let here : InStretch first ws n = record { from = from; below = below } in
      record { stock = s0 n here; part = p0 n here; fixture = f0 n here; sure = u0 n here; possible = q0 n here };
}

-- the bits of each of the five from a ray
pub stock_bits : (stock part fixture : List Bool) (first : ℕ) (ws : List WordSets) → IsWordRay stock part fixture first ws
    → AreBits (λ w. w.stock) stock first ws
stock_bits stock part fixture first ws h = λ n here. (h.bits n here.from here.below).stock

-- of the part
pub part_bits : (stock part fixture : List Bool) (first : ℕ) (ws : List WordSets) → IsWordRay stock part fixture first ws
    → AreBits (λ w. w.part) part first ws
part_bits stock part fixture first ws h = λ n here. (h.bits n here.from here.below).part

-- of the fixture
pub fixture_bits : (stock part fixture : List Bool) (first : ℕ) (ws : List WordSets) → IsWordRay stock part fixture first ws
    → AreBits (λ w. w.fixture) fixture first ws
fixture_bits stock part fixture first ws h = λ n here. (h.bits n here.from here.below).fixture

-- of what is sure
pub sure_bits : (stock part fixture : List Bool) (first : ℕ) (ws : List WordSets) → IsWordRay stock part fixture first ws
    → AreBits (λ w. w.sure) (marks_of (λ w. w.sure) (length stock) first ws) first ws
sure_bits stock part fixture first ws h = λ n here. (h.bits n here.from here.below).sure

-- of what is possible
pub possible_bits : (stock part fixture : List Bool) (first : ℕ) (ws : List WordSets) → IsWordRay stock part fixture first ws
    → AreBits (λ w. w.possible) (marks_of (λ w. w.possible) (length stock) first ws) first ws
possible_bits stock part fixture first ws h = λ n here. (h.bits n here.from here.below).possible

-- the word that is written in a ray: the bodies of the one from before, and its marks changed by a delta
pub record IsWordWritten (change : Bool → Bool → Bool) (bound first : ℕ) (ws : List WordSets) (n k : ℕ) (w : WordSets)
    (delta : WordDelta) : Type 0 where
  pub stock : w.stock ≡ (word_at first ws n).stock
  pub part : w.part ≡ (word_at first ws n).part
  pub fixture : w.fixture ≡ (word_at first ws n).fixture
  pub sure : IsWritten change (λ w. w.sure) bound first ws n k w delta.sure
  pub possible : IsWritten change (λ w. w.possible) bound first ws n k w delta.possible

-- with it the ray is a ray again
pub written_ray : (change : Bool → Bool → Bool) (stock part fixture : List Bool) (first : ℕ) (ws : List WordSets) (n k : ℕ) (w : WordSets)
    (delta : WordDelta)
    → IsWordRay stock part fixture first ws → IsWordWritten change (length stock) first ws n k w delta
    → IsWordRay stock part fixture first (set ws k w)
written_ray change stock part fixture first ws n k w delta h d =
    let at = d.sure.at in
    let there = d.sure.there in
    let within = h.within in
    let size = length-set ws k w in
    ray_from_bits stock part fixture first (set ws k w) h.part_bound h.fixture_bound (omega arith)
    (body_bits (λ w. w.stock) stock first ws n k w at there d.stock (stock_bits stock part fixture first ws h))
    (body_bits (λ w. w.part) part first ws n k w at there d.part (part_bits stock part fixture first ws h))
    (body_bits (λ w. w.fixture) fixture first ws n k w at there d.fixture (fixture_bits stock part fixture first ws h))
    (written_bits change (λ w. w.sure) (length stock) first ws n k w delta.sure d.sure (sure_bits stock part fixture first ws h))
    (written_bits change (λ w. w.possible) (length stock) first ws n k w delta.possible d.possible
    (possible_bits stock part fixture first ws h))

-- a ray that is kept so is seen as r
abbrev pub IsSeenAs : List Bool → List Bool → List Bool → ℕ → List WordSets → KeptSets → Type 0
IsSeenAs stock part fixture first ws r = kept_of stock part fixture first ws ≡ r

-- a kept word has a place in the stretch
kept_place : (r : KeptSets) (stock part fixture : List Bool) (first : ℕ) (ws : List WordSets) (n : ℕ)
    → IsSeenAs stock part fixture first ws r → IsKept r n → InStretch first ws n
kept_place r stock part fixture first ws n is kept =
    let from = kept.from in
    let below = kept.below in
    let same_first : first ≡ r.first = ap (λ (v : KeptSets). v.first) is in
    let same_count : length ws ≡ r.count = ap (λ (v : KeptSets). v.count) is in
    record { from = omega arith; below = omega arith }

-- what was read at that place
read_word : (first : ℕ) (ws : List WordSets) (n k : ℕ) (x : WordSets) → first + k ≡ n → k < length ws → x ≡ get_or ws k x
    → word_at first ws n ≡ x
read_word first ws n k x at there e = word_at-in first ws n k at ∙ sym (get_or_read ws k x there e no_bits)

-- a bit that isn't in the delta stays
or_false : (x : Bool) → (x || false) ≡ x
or_false true = refl
or_false false = refl

-- in both ways
and_not_false : (x : Bool) → (x && not false) ≡ x
and_not_false true = refl
and_not_false false = refl

-- a delta is given: the word that it makes of the one from before
pub given_word : (r : KeptSets) (stock part fixture : List Bool) (first : ℕ) (ws : List WordSets) (n : ℕ) (x w : WordSets)
    (delta : WordDelta)
    → IsSeenAs stock part fixture first ws r → IsKept r n → x ≡ get_or ws (n - first) x
    → IsBelow (length r.sets.stock) n delta.sure → IsBelow (length r.sets.stock) n delta.possible → IsWordWith x delta w
    → IsWordWritten (λ p q. p || q) (length stock) first ws n (n - first) w delta
given_word r stock part fixture first ws n x w delta is kept e sure possible u =
    let here = kept_place r stock part fixture first ws n is kept in
    let from = here.from in
    let below = here.below in
    let at : first + (n - first) ≡ n = omega arith in
    let there : n - first < length ws = omega arith in
    let was = read_word first ws n (n - first) x at there e in
    let bound : length r.sets.stock ≡ length stock = ap (λ (v : KeptSets). length v.sets.stock) (sym is) in
    record {
      stock = u.stock ∙ ap (λ (v : WordSets). v.stock) (sym was);
      part = u.part ∙ ap (λ (v : WordSets). v.part) (sym was);
      fixture = u.fixture ∙ ap (λ (v : WordSets). v.fixture) (sym was);
      sure = record {
        at = at;
        there = there;
        stays = or_false;
        beyond = λ b lt le. false_from_ne_true (has_bit delta.sure b) (λ t. let low = sure b lt t in omega arith);
        bits = λ b lt. u.all_sure b lt ∙ ap (λ (v : WordSets). has_bit v.sure b || has_bit delta.sure b) (sym was);
      };
      possible = record {
        at = at;
        there = there;
        stays = or_false;
        beyond = λ b lt le. false_from_ne_true (has_bit delta.possible b) (λ t. let low = possible b lt t in omega arith);
        bits = λ b lt. u.all_possible b lt ∙ ap (λ (v : WordSets). has_bit v.possible b || has_bit delta.possible b) (sym was);
      };
    }

-- and the sets
pub given_sets : (r : KeptSets) (stock part fixture : List Bool) (first : ℕ) (ws : List WordSets) (n k : ℕ) (w : WordSets)
    (delta : WordDelta)
    → IsSeenAs stock part fixture first ws r → IsWordWritten (λ p q. p || q) (length stock) first ws n k w delta
    → IsGiven r.sets n delta (sets_of stock part fixture first (set ws k w))
given_sets r stock part fixture first ws n k w delta is d =
    subst (λ (v : KeptSets). IsGiven v.sets n delta (sets_of stock part fixture first (set ws k w))) is (record {
      stock = refl;
      part = refl;
      fixture = refl;
      sure_bound = same_bound (λ w. w.sure) (length stock) first ws k w;
      possible_bound = same_bound (λ w. w.possible) (length stock) first ws k w;
      sure = λ i. written_marks (λ p q. p || q) (λ w. w.sure) (length stock) first ws n k w delta.sure i d.sure;
      possible = λ i. written_marks (λ p q. p || q) (λ w. w.possible) (length stock) first ws n k w delta.possible i d.possible;
    })

-- a delta is taken away: the word that it makes of the one from before
pub taken_word : (r : KeptSets) (stock part fixture : List Bool) (first : ℕ) (ws : List WordSets) (n : ℕ) (x w : WordSets)
    (delta : WordDelta)
    → IsSeenAs stock part fixture first ws r → IsKept r n → x ≡ get_or ws (n - first) x → IsWordWithout x delta w
    → IsWordWritten (λ p q. p && not q) (length stock) first ws n (n - first) w delta
taken_word r stock part fixture first ws n x w delta is kept e u =
    let here = kept_place r stock part fixture first ws n is kept in
    let from = here.from in
    let below = here.below in
    let at : first + (n - first) ≡ n = omega arith in
    let there : n - first < length ws = omega arith in
    let was = read_word first ws n (n - first) x at there e in
    record {
      stock = u.stock ∙ ap (λ (v : WordSets). v.stock) (sym was);
      part = u.part ∙ ap (λ (v : WordSets). v.part) (sym was);
      fixture = u.fixture ∙ ap (λ (v : WordSets). v.fixture) (sym was);
      sure = record {
        at = at;
        there = there;
        stays = and_not_false;
        beyond = λ b lt le. refl;
        bits = λ b lt. u.left_sure b lt ∙ ap (λ (v : WordSets). has_bit v.sure b && not (has_bit delta.sure b)) (sym was);
      };
      possible = record {
        at = at;
        there = there;
        stays = and_not_false;
        beyond = λ b lt le. refl;
        bits = λ b lt. u.left_possible b lt ∙ ap (λ (v : WordSets). has_bit v.possible b && not (has_bit delta.possible b)) (sym was);
      };
    }

-- and the sets
pub taken_sets : (r : KeptSets) (stock part fixture : List Bool) (first : ℕ) (ws : List WordSets) (n k : ℕ) (w : WordSets)
    (delta : WordDelta)
    → IsSeenAs stock part fixture first ws r → IsWordWritten (λ p q. p && not q) (length stock) first ws n k w delta
    → IsTaken r.sets n delta (sets_of stock part fixture first (set ws k w))
taken_sets r stock part fixture first ws n k w delta is d =
    subst (λ (v : KeptSets). IsTaken v.sets n delta (sets_of stock part fixture first (set ws k w))) is (record {
      stock = refl;
      part = refl;
      fixture = refl;
      sure_bound = same_bound (λ w. w.sure) (length stock) first ws k w;
      possible_bound = same_bound (λ w. w.possible) (length stock) first ws k w;
      sure = λ i. written_marks (λ p q. p && not q) (λ w. w.sure) (length stock) first ws n k w delta.sure i d.sure;
      possible = λ i. written_marks (λ p q. p && not q) (λ w. w.possible) (length stock) first ws n k w delta.possible i d.possible;
    })
