-- Points at which a move changes nothing and finds nothing: it is not possible there, or it need not be tested.
use Rattle.std.proofs.Common.{◌≡◌, ℕ, ◌-◌, ◌*◌, ◌<◌, ◌≤◌, Bool, true, false, not, ◌&&◌, ◌||◌, IsTrue, List, [], length, arith, refl, sym, ap, ap₂, ◌∙◌, ⊎_elim}
use Rattle.std.proofs.lemmas.Bool.{and_right, cases_lt}
use Rattle.std.proofs.lemmas.List.{get_or_past}
use Rattle.std.proofs.lemmas.List.Elements.{All-nil}
use Rattle.vf_spans.specs.Members.{has}
use Rattle.job_counts.specs.Counts.{no_counts}
use Rattle.dexel_rays.specs.Findings.{met, none_met}
use Rattle.dexel_rays.specs.Sets.{HaveBound, Sets}
use Rattle.dexel_rays.proofs.Laws.{and_false, no_more, outside_meets_none, point, settled_meets_none}
use Rattle.ray_words.specs.Rays.{is_wanted_at}
use Rattle.strip_marks.specs.Marks.{seen_on}
use Rattle.strip_marks.specs.RayMarks.{AreWordsMarked, IsChangeIn, IsIdle}
use Rattle.strip_marks.proofs.Counting.{found_none}
use Rattle.strip_marks.proofs.Lists.{order_few}

-- beyond its bound a set has no index
pub past : (set : List Bool) (bound l : ℕ) → length set ≡ bound → bound ≤ l → has set l ≡ false
past set bound l e le = get_or_past set l false (omega arith)

pub none_of_three : (x y z : Bool) → x ≡ false → y ≡ false → z ≡ false → IsTrue (not (x || (y || z)))
none_of_three true y z e f g = cc
none_of_three false true z e f g = cc
none_of_three false false true e f g = cc
none_of_three false false false e f g = refl

-- a point beyond the ray's end meets none of the rules
pub past_meets_none : (d : Sets) (sure possible : ℕ → Bool) (rapid : Bool) (l : ℕ) → HaveBound (length d.stock) d → length d.stock ≤ l
    → met (seen_on d sure possible rapid l) ≡ none_met
past_meets_none d sure possible rapid l h le =
    outside_meets_none (has d.stock l) (has d.part l) (has d.fixture l) (has d.sure l) (has d.possible l) (sure l) (possible l) rapid
    (none_of_three (has d.stock l) (has d.part l) (has d.fixture l) (past d.stock (length d.stock) l refl le)
    (past d.part (length d.stock) l h.part le) (past d.fixture (length d.stock) l h.fixture le))

-- a point of which the move is neither sure nor possible meets none of the rules
pub unmarked_meets_none : (a b c S P s p rapid : Bool) → s ≡ false → p ≡ false → met (point a b c S P s p rapid) ≡ none_met
unmarked_meets_none a b c S P s p rapid es ep =
    ap₂ (λ x y. met (point a b c S P x y rapid)) es ep
    ∙ (λ i. record {
      removed = and_right a false refl i;
      possible = and_right a false refl i;
      part_sure = and_right b false refl i;
      part_possible = and_right b false refl i;
      fix_sure = and_right c false refl i;
      fix_possible = and_right c false refl i;
      rapid_sure = and_right rapid (a && false) (and_right a false refl) i;
      rapid_possible = and_right rapid (a && false) (and_right a false refl) i;
    })

-- at a point that isn't wanted no mark is new of the stock, and none of the rules is met: it is in no body, or neither part nor fixture,
-- and was sure and possible before
none_new : (stock part fixture sure mark : Bool) → (part || (fixture || (stock && not sure))) ≡ false → (stock && (mark && not sure)) ≡ false
none_new stock true fixture sure mark e = cc
none_new stock false true sure mark e = cc
none_new false false false sure mark e = refl
none_new true false false true mark e = no_more mark
none_new true false false false mark e = cc

none_newly_possible : (stock part fixture sure possible mark : Bool) → (part || (fixture || (stock && not sure))) ≡ false
    → (IsTrue sure → IsTrue possible) → (stock && (mark && not possible)) ≡ false
none_newly_possible stock true fixture sure possible mark e i = cc
none_newly_possible stock false true sure possible mark e i = cc
none_newly_possible false false false sure possible mark e i = refl
none_newly_possible true false false true true mark e i = no_more mark
none_newly_possible true false false true false mark e i = let none = i refl in cc
none_newly_possible true false false false possible mark e i = cc

unwanted_meets_none : (a b c S P s p rapid : Bool) → (b || (c || (a && not S))) ≡ false → (IsTrue S → IsTrue P)
    → met (point a b c S P s p rapid) ≡ none_met
unwanted_meets_none a true c S P s p rapid e i = cc
unwanted_meets_none a false true S P s p rapid e i = cc
unwanted_meets_none false false false S P s p rapid e i = outside_meets_none false false false S P s p rapid refl
unwanted_meets_none true false false true true s p rapid e i = settled_meets_none true false false true true s p rapid refl
unwanted_meets_none true false false true false s p rapid e i = let none = i refl in cc
unwanted_meets_none true false false false P s p rapid e i = cc

module _ (d : Sets) (sure possible : ℕ → Bool) (rapid : Bool) (ordered : (l : ℕ) → has d.sure l ≡ true → has d.possible l ≡ true) where
  pub idle_sure : (l : ℕ) → IsIdle d sure possible l → (has d.stock l && (sure l && not (has d.sure l))) ≡ false
  idle_sure l idle =
      ⊎_elim
      (λ (e : is_wanted_at d l ≡ false). none_new (has d.stock l) (has d.part l) (has d.fixture l) (has d.sure l) (sure l) e)
      (λ (none : (sure l ≡ false) × (possible l ≡ false)).
      ap (λ x. has d.stock l && (x && not (has d.sure l))) none.0 ∙ and_false (has d.stock l))
      idle

  pub idle_possible : (l : ℕ) → IsIdle d sure possible l → (has d.stock l && (possible l && not (has d.possible l))) ≡ false
  idle_possible l idle =
      ⊎_elim
      (λ (e : is_wanted_at d l ≡ false).
      none_newly_possible (has d.stock l) (has d.part l) (has d.fixture l) (has d.sure l) (has d.possible l) (possible l) e (ordered l))
      (λ (none : (sure l ≡ false) × (possible l ≡ false)).
      ap (λ x. has d.stock l && (x && not (has d.possible l))) none.1 ∙ and_false (has d.stock l))
      idle

  pub idle_met : (l : ℕ) → IsIdle d sure possible l → met (seen_on d sure possible rapid l) ≡ none_met
  idle_met l idle =
      ⊎_elim
      (λ (e : is_wanted_at d l ≡ false). unwanted_meets_none (has d.stock l) (has d.part l) (has d.fixture l) (has d.sure l)
      (has d.possible l) (sure l) (possible l) rapid e (ordered l))
      (λ (none : (sure l ≡ false) × (possible l ≡ false)). unmarked_meets_none (has d.stock l) (has d.part l) (has d.fixture l)
      (has d.sure l) (has d.possible l) (sure l) (possible l) rapid
      none.0 none.1)
      idle

  -- words of which each point of the ray is such a one
  pub idle_words : (n lo hi : ℕ) → HaveBound (length d.stock) d
      → ((l : ℕ) → 64 * lo ≤ l → l < 64 * hi → l < length d.stock → IsIdle d sure possible l)
      → AreWordsMarked d sure possible rapid n lo hi [] no_counts
  idle_words n lo hi bound idle = record {
    new_sure = λ l ge lt within. sym (idle_sure l (idle l ge lt within));
    new_possible = λ l ge lt within. sym (idle_possible l (idle l ge lt within));
    each = All-nil (IsChangeIn (length d.stock) n lo hi);
    order = order_few [] (omega arith);
    found =
        sym (found_none (seen_on d sure possible rapid) (64 * lo) (64 * (hi - lo))
        (λ l ge lt. ⊎_elim (λ (within : l < length d.stock). idle_met l (idle l ge (omega arith) within))
        (λ (beyond : length d.stock ≤ l). past_meets_none d sure possible rapid l bound beyond) (cases_lt l (length d.stock))));
  }
