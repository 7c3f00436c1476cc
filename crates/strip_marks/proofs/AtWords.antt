-- A move that is tested only at the wanted points of its window in a word changes and finds there what it would if it were tested
-- at all points.
use Rattle.std.proofs.Common.{◌≡◌, ℕ, ◌+◌, ◌-◌, ◌*◌, ◌<◌, ◌≤◌, Bool, true, false, not, ◌&&◌, ◌||◌, IsTrue, length, arith, refl, sym, subst, ap, ap₂, ◌∙◌, ◌⊎◌, inl, inr, ⊎_elim, leb, ltb}
use Rattle.std.specs.List.{range_with_len}
use Rattle.std.proofs.lemmas.Bool.{and_parts, and_right, cases_Bool, cases_lt, false_from_ne_true, le-leb, le-ltb, lt-leb, lt-ltb}
use borrow.Author.Tests.{ltb-true}
use Rattle.vf_spans.specs.Members.{has, in_range}
use Rattle.vf_spans.specs.Words.{has_bit}
use Rattle.vf_spans.proofs.WordBits.{has_bit-zero}
use Rattle.ray_grid.specs.Lattice.{points_of}
use Rattle.job_counts.specs.declared.counts.Counts.{Counts}
use Rattle.job_counts.specs.Counts.{no_counts}
use Rattle.dexel_rays.specs.declared.word_sets.WordDelta.{WordDelta}
use Rattle.dexel_rays.specs.declared.word_sets.WordSets.{WordSets}
use Rattle.dexel_rays.specs.Asked.{Agree, is_sure_only, is_wanted}
use Rattle.dexel_rays.specs.Findings.{findings, is_outside, met}
use Rattle.dexel_rays.specs.Sets.{Sets}
use Rattle.dexel_rays.specs.WordSets.{IsWordDelta, SureIsPossible, seen_bit, seen_by}
use Rattle.dexel_rays.proofs.Asked.{agree_new_possible, agree_new_sure}
use Rattle.dexel_rays.proofs.WordLaws.{agree_found, asked_word}
use Rattle.ray_words.specs.Rays.{IsBelow, IsWordAt, is_wanted_at}
use Rattle.wanted_marks.specs.Rays.{RayOf, is_possible_at, is_sure_at, is_sure_bit, is_told_at, is_told_bit}
use Rattle.strip_marks.specs.Marks.{seen_on}
use Rattle.near_points.specs.Rays.{CylinderRayOf}
use Rattle.strip_marks.specs.RayMarks.{AreAsked, AreAskedIn, IsAskedAt, IsIdle, IsNearOf, IsWindow}
use Rattle.strip_marks.specs.Words.{AreSetsOf}
use Rattle.strip_marks.proofs.Counting.{found_as, found_none, inside_or}
use Rattle.strip_marks.proofs.Idle.{none_of_three, past, unmarked_meets_none}

left_of : (x y : Bool) → (x && y) ≡ true → x ≡ true
left_of x y h = (and_parts x y h).0

and_yes : (x y : Bool) → y ≡ true → (x && y) ≡ x
and_yes true y e = e
and_yes false y e = refl

unmarked_bit : (word b : ℕ) → word ≡ 0 → has_bit word b ≡ false
unmarked_bit word b e = ap (λ x. has_bit x b) e ∙ has_bit-zero b

-- outside its window the move is possible at no point of the ray, and so sure of none
pub not_possible_beside : (r : RayOf) (lo hi l : ℕ) → IsWindow r lo hi → l < points_of r.grid r.ray.family → (l < lo) ⊎ (hi ≤ l)
    → is_possible_at r l ≡ false
not_possible_beside r lo hi l w lt out =
    false_from_ne_true (is_possible_at r l)
    (λ t. let inside = w.holds l lt t in
    ⊎_elim (λ (low : l < lo). omega (arith, inside.0)) (λ (high : hi ≤ l). omega (arith, inside.1)) out)

pub not_sure_beside : (r : RayOf) (lo hi l : ℕ) → IsWindow r lo hi → l < points_of r.grid r.ray.family → (l < lo) ⊎ (hi ≤ l)
    → is_sure_at r l ≡ false
not_sure_beside r lo hi l w lt out =
    false_from_ne_true (is_sure_at r l) (λ t. let met' = w.both l t in let none = not_possible_beside r lo hi l w lt out in cc)

-- an index is in a range or outside it
inside : (lo hi l : ℕ) → lo ≤ l → l < hi → in_range l (lo, hi) ≡ true
inside lo hi l ge lt = ap₂ (λ x y. x && y) (le-leb lo l ge) (lt-ltb l hi lt)

beside : (lo hi l : ℕ) → (l < lo) ⊎ (hi ≤ l) → in_range l (lo, hi) ≡ false
beside lo hi l out =
    ⊎_elim (λ (low : l < lo). ap (λ x. x && ltb l hi) (lt-leb lo l low))
    (λ (high : hi ≤ l). ap (λ x. leb lo l && x) (le-ltb l hi high) ∙ and_right (leb lo l) false refl) out

pub in_range_below : (lo hi l : ℕ) → in_range l (lo, hi) ≡ true → l < hi
in_range_below lo hi l t = ltb-true l hi (and_parts (leb lo l) (ltb l hi) t).1

-- an index of the window that isn't wanted, and any index outside it
pub idle_at : (r : RayOf) (d : Sets) (lo hi l : ℕ) → AreSetsOf r d → IsWindow r lo hi
    → (in_range l (lo, hi) ≡ true → is_wanted_at d l ≡ false) → l < length d.stock → IsIdle d (is_sure_at r) (is_possible_at r) l
idle_at r d lo hi l h w none lt =
    let point : l < points_of r.grid r.ray.family = omega (arith, h.bound.stock) in
    inside_or lo hi l (IsIdle d (is_sure_at r) (is_possible_at r) l)
    (λ ge less. inl (none (inside lo hi l ge less)))
    (λ out. inr (not_sure_beside r lo hi l w point out, not_possible_beside r lo hi l w point out))

-- the bits are the wanted indices of the window
abbrev pub AreWantedIn : Sets → ℕ → ℕ → ℕ → ℕ → Type 0
AreWantedIn d n lo hi wanted = (b : ℕ) → b < 64 → has_bit wanted b ≡ (is_wanted_at d (64 * n + b) && in_range (64 * n + b) (lo, hi))

-- where no bit is set the word has no candidate
pub none_asked : (near : CylinderRayOf) (d : Sets) (window : ℕ × ℕ) (n asked : ℕ) → AreAskedIn near d window n asked → asked ≡ 0 → (l : ℕ) → 64 * n ≤ l
    → l < 64 * (n + 1) → ¬ IsAskedAt near d window l
none_asked near d window n asked is zero l ge lt at =
    let e : l ≡ 64 * n + (l - 64 * n) = omega arith in
    let here = subst (IsAskedAt near d window) e at in
    let yes = is.all (l - 64 * n) (omega arith) here in
    let no = unmarked_bit asked (l - 64 * n) zero in cc

-- an index of the ray that is no candidate, by the move's cylinder
pub idle_unasked : (near : CylinderRayOf) (r : RayOf) (d : Sets) (lo hi l : ℕ) → AreSetsOf r d → IsWindow r lo hi → IsNearOf near r → l < length d.stock
    → ¬ IsAskedAt near d (lo, hi) l → IsIdle d (is_sure_at r) (is_possible_at r) l
idle_unasked near r d lo hi l h w of lt none =
    let point : l < points_of r.grid r.ray.family = omega (arith, h.bound.stock) in
    ⊎_elim
    (λ (yes : is_wanted_at d l ≡ true).
    inside_or lo hi l (IsIdle d (is_sure_at r) (is_possible_at r) l)
    (λ ge less.
    let clear : is_possible_at r l ≡ false =
    false_from_ne_true (is_possible_at r l)
    (λ t. none (record { wanted = yes; in_window = inside lo hi l ge less; kept = of.holds l point t })) in
    inr (false_from_ne_true (is_sure_at r l) (λ t. let both = w.both l t in cc), clear))
    (λ out. inr (not_sure_beside r lo hi l w point out, not_possible_beside r lo hi l w point out)))
    (λ (no : is_wanted_at d l ≡ false). inl no)
    (cases_Bool (is_wanted_at d l))

-- the bits of the candidates are wanted points of the ray, and the others idle
pub asked_of : (near : CylinderRayOf) (r : RayOf) (d : Sets) (n lo hi asked : ℕ) → AreSetsOf r d → IsWindow r lo hi → IsNearOf near r
    → AreAskedIn near d (lo, hi) n asked → AreAsked r d n asked
asked_of near r d n lo hi asked h w of is = record {
  on_ray = λ b lt t. let at = is.only b lt t in omega (arith, in_range_below lo hi (64 * n + b) at.in_window, w.within);
  wanted = λ b lt t. (is.only b lt t).wanted;
  others = λ b lt below no. idle_unasked near r d lo hi (64 * n + b) h w of below (λ at. let yes = is.all b lt at in cc);
}

-- where no bit is set every point of the word is idle
pub all_idle : (r : RayOf) (d : Sets) (n asked : ℕ) → AreAsked r d n asked → asked ≡ 0 → (l : ℕ) → 64 * n ≤ l → l < 64 * (n + 1)
    → l < length d.stock → IsIdle d (is_sure_at r) (is_possible_at r) l
all_idle r d n asked is zero l ge lt within =
    let e : 64 * n + (l - 64 * n) ≡ l = omega arith in
    subst (IsIdle d (is_sure_at r) (is_possible_at r)) e
    (is.others (l - 64 * n) (omega arith) (omega arith) (unmarked_bit asked (l - 64 * n) zero))

-- where no bit is marked nothing is new, and nothing is found
nothing : (stock word b : ℕ) (mark : Bool) → word ≡ 0 → has_bit 0 b ≡ (has_bit stock b && (has_bit word b && mark))
nothing stock word b mark e =
    has_bit-zero b ∙ sym (ap (λ x. has_bit stock b && (x && mark)) (unmarked_bit word b e) ∙ and_right (has_bit stock b) false refl)

pub no_delta : (w : WordSets) (sure possible : ℕ) → sure ≡ 0 → possible ≡ 0 → IsWordDelta w sure possible record { sure = 0; possible = 0 }
no_delta w sure possible s p = record {
  new_sure = λ b lt. nothing w.stock sure b (not (has_bit w.sure b)) s;
  new_possible = λ b lt. nothing w.stock possible b (not (has_bit w.possible b)) p;
}

pub no_found : (w : WordSets) (sure possible : ℕ) (rapid : Bool) (counts : Counts) → sure ≡ 0 → possible ≡ 0 → counts ≡ no_counts
    → counts ≡ findings (seen_bit w sure possible rapid) (range_with_len 0 64)
no_found w sure possible rapid counts s p e =
    e
    ∙ sym (found_none (seen_bit w sure possible rapid) 0 64
    (λ b ge lt. unmarked_meets_none (has_bit w.stock b) (has_bit w.part b) (has_bit w.fixture b) (has_bit w.sure b) (has_bit w.possible b)
    (has_bit sure b) (has_bit possible b) rapid (unmarked_bit sure b s) (unmarked_bit possible b p)))

-- what a move that is sure and possible by these tests changes in word n of a ray with these sets, and what it finds there
pub record IsWordMarked (d : Sets) (sure possible : ℕ → Bool) (rapid : Bool) (n : ℕ) (delta : WordDelta) (counts : Counts) : Type 0 where
  pub new_sure : (b : ℕ) → b < 64 → 64 * n + b < length d.stock
      → has_bit delta.sure b ≡ (has d.stock (64 * n + b) && (sure (64 * n + b) && not (has d.sure (64 * n + b))))
  pub new_possible : (b : ℕ) → b < 64 → 64 * n + b < length d.stock
      → has_bit delta.possible b ≡ (has d.stock (64 * n + b) && (possible (64 * n + b) && not (has d.possible (64 * n + b))))
  pub sure_below : IsBelow (length d.stock) n delta.sure
  pub possible_below : IsBelow (length d.stock) n delta.possible
  pub found : counts ≡ findings (seen_on d sure possible rapid) (range_with_len (64 * n) 64)

module _ (r : RayOf) (d : Sets) (n : ℕ) (w : WordSets) (h : AreSetsOf r d) (at : IsWordAt d n w) where
  ordered : SureIsPossible w
  ordered b lt t = at.possible b lt ∙ h.ordered (64 * n + b) (sym (at.sure b lt) ∙ t)

  outside : (s p : ℕ → Bool) (rapid : Bool) (b : ℕ) → b < 64 → length d.stock ≤ 64 * n + b → IsTrue (is_outside (seen_by w s p rapid b))
  outside s p rapid b lt le =
      let size = h.bound.stock in
      none_of_three (has_bit w.stock b) (has_bit w.part b) (has_bit w.fixture b)
      (at.stock b lt ∙ past d.stock (length d.stock) (64 * n + b) refl le)
      (at.part b lt ∙ past d.part (length d.stock) (64 * n + b) (h.bound.part ∙ sym size) le)
      (at.fixture b lt ∙ past d.fixture (length d.stock) (64 * n + b) (h.bound.fixture ∙ sym size) le)

  -- what is known of a point by the word is what is known by the sets
  same_seen : (sure possible : ℕ → Bool) (rapid : Bool) (b : ℕ) → b < 64
      → seen_by w (λ k. sure (64 * n + k)) (λ k. possible (64 * n + k)) rapid b ≡ seen_on d sure possible rapid (64 * n + b)
  same_seen sure possible rapid b lt = λ i. record {
    stock = at.stock b lt i;
    part = at.part b lt i;
    fixture = at.fixture b lt i;
    sure_before = at.sure b lt i;
    possible_before = at.possible b lt i;
    sure = sure (64 * n + b);
    possible = possible (64 * n + b);
    rapid = rapid;
  }

  -- whether a point is wanted, by the word and by the sets
  same_wanted : (b : ℕ) → b < 64 → is_wanted_at d (64 * n + b) ≡ is_wanted (seen_bit w 0 0 false b)
  same_wanted b lt = sym (λ i. at.part b lt i || (at.fixture b lt i || (at.stock b lt i && not (at.sure b lt i))))

  module _ (wanted only sure possible : ℕ) (rapid : Bool) (is_asked : AreAsked r d n wanted)
      (is_only : (b : ℕ) → b < 64 → has_bit only b ≡ is_sure_only (seen_bit w 0 0 rapid b))
      (is_sure : (b : ℕ) → b < 64 → has_bit sure b ≡ is_sure_bit r (64 * n) wanted b)
      (is_told : (b : ℕ) → b < 64 → has_bit possible b ≡ is_told_bit r (64 * n) wanted only b) where
    -- a point whose bit says whether it is wanted is marked as it is by all marks
    told : (b : ℕ) → b < 64 → has_bit wanted b ≡ is_wanted_at d (64 * n + b)
        → Agree (seen_by w (λ k. is_sure_at r (64 * n + k)) (λ k. is_possible_at r (64 * n + k)) rapid b) (has_bit sure b)
        (has_bit possible b)
    told b lt e =
        asked_word w wanted only sure possible (λ k. is_sure_at r (64 * n + k)) (λ k. is_possible_at r (64 * n + k)) rapid b
        (e ∙ same_wanted b lt) (is_only b lt) (is_sure b lt) (is_told b lt)

    -- at each point of the ray the marks agree with all marks: at an idle one there are none
    agree : (b : ℕ) → b < 64 → 64 * n + b < length d.stock
        → Agree (seen_by w (λ k. is_sure_at r (64 * n + k)) (λ k. is_possible_at r (64 * n + k)) rapid b) (has_bit sure b)
        (has_bit possible b)
    agree b lt below =
        let l = 64 * n + b in
        ⊎_elim (λ (yes : has_bit wanted b ≡ true). told b lt (yes ∙ sym (is_asked.wanted b lt yes)))
        (λ (no : has_bit wanted b ≡ false).
        ⊎_elim (λ (unwanted : is_wanted_at d l ≡ false). told b lt (no ∙ sym unwanted))
        (λ (none : (is_sure_at r l ≡ false) × (is_possible_at r l ≡ false)). record {
          same_sure = λ t. is_sure b lt ∙ ap (λ x. x && is_sure_at r l) no ∙ sym none.0;
          same_possible = λ t o. is_told b lt ∙ ap (λ x. x && is_told_at r (has_bit only b) l) no ∙ sym none.1;
        })
        (is_asked.others b lt below no))
        (cases_Bool (has_bit wanted b))

    each : (b : ℕ) → b < 64
        → Agree (seen_by w (λ k. is_sure_at r (64 * n + k)) (λ k. is_possible_at r (64 * n + k)) rapid b) (has_bit sure b)
        (has_bit possible b)
        ⊎ IsTrue (is_outside (seen_by w (λ k. is_sure_at r (64 * n + k)) (λ k. is_possible_at r (64 * n + k)) rapid b))
    each b lt =
        ⊎_elim (λ below. inl (agree b lt below))
        (λ beyond. inr (outside (λ k. is_sure_at r (64 * n + k)) (λ k. is_possible_at r (64 * n + k)) rapid b lt beyond))
        (cases_lt (64 * n + b) (length d.stock))

    found : findings (seen_bit w sure possible rapid) (range_with_len 0 64) ≡ findings (seen_on d (is_sure_at r) (is_possible_at r) rapid)
        (range_with_len (64 * n) 64)
    found =
        agree_found w (λ k. is_sure_at r (64 * n + k)) (λ k. is_possible_at r (64 * n + k)) (has_bit sure)
        (has_bit possible) rapid ordered each
        ∙ found_as (seen_by w (λ k. is_sure_at r (64 * n + k)) (λ k. is_possible_at r (64 * n + k)) rapid)
        (seen_on d (is_sure_at r) (is_possible_at r) rapid) 0 (64 * n) 64
        (λ b lt. ap met (ap (seen_by w (λ k. is_sure_at r (64 * n + k)) (λ k. is_possible_at r (64 * n + k)) rapid)
        (let e : 0 + b ≡ b = omega arith in e)
        ∙ same_seen (is_sure_at r) (is_possible_at r) rapid b lt))

    stock_below : (b : ℕ) → b < 64 → has_bit w.stock b ≡ true → 64 * n + b < length d.stock
    stock_below b lt t =
        ⊎_elim (λ (below : 64 * n + b < length d.stock). below)
        (λ (beyond : length d.stock ≤ 64 * n + b).
        let none = at.stock b lt ∙ past d.stock (length d.stock) (64 * n + b) refl beyond in absurd (cc))
        (cases_lt (64 * n + b) (length d.stock))

    pub word_marked : (delta : WordDelta) (counts : Counts) → IsWordDelta w sure possible delta
        → counts ≡ findings (seen_bit w sure possible rapid) (range_with_len 0 64)
        → IsWordMarked d (is_sure_at r) (is_possible_at r) rapid n delta counts
    word_marked delta counts is_delta is_found = record {
      new_sure = λ b lt below.
          is_delta.new_sure b lt
          ∙ agree_new_sure (has_bit w.stock b) (has_bit w.part b) (has_bit w.fixture b) (has_bit w.sure b) (has_bit w.possible b)
          (is_sure_at r (64 * n + b)) (is_possible_at r (64 * n + b)) (has_bit sure b) (has_bit possible b) rapid (agree b lt below)
          ∙ ap₂ (λ x y. x && (is_sure_at r (64 * n + b) && not y)) (at.stock b lt) (at.sure b lt);
      new_possible = λ b lt below.
          is_delta.new_possible b lt
          ∙ agree_new_possible (has_bit w.stock b) (has_bit w.part b) (has_bit w.fixture b) (has_bit w.sure b) (has_bit w.possible b)
          (is_sure_at r (64 * n + b)) (is_possible_at r (64 * n + b)) (has_bit sure b) (has_bit possible b) rapid (ordered b lt)
          (agree b lt below)
          ∙ ap₂ (λ x y. x && (is_possible_at r (64 * n + b) && not y)) (at.stock b lt) (at.possible b lt);
      sure_below = λ b lt t. stock_below b lt (left_of (has_bit w.stock b) (has_bit sure b && not (has_bit w.sure b)) (sym (is_delta.new_sure b lt) ∙ t));
      possible_below = λ b lt t.
          stock_below b lt (left_of (has_bit w.stock b) (has_bit possible b && not (has_bit w.possible b)) (sym (is_delta.new_possible b lt) ∙ t));
      found = is_found ∙ found;
    }
