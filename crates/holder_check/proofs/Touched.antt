-- The six counts of one ray from counts of two and of three sets, and what is so where nothing may be met.
use Rattle.std.proofs.Common.{◌≡◌, ℕ, zero, suc, ◌+◌, ◌<◌, ◌==◌, List, [], ◌∷◌, length, get_or, Bool, true, false, cond, not, ◌&&◌, IsTrue, count_by, arith, zero-add, refl, sym, ap, subst, ◌∙◌}
use Rattle.std.specs.List.{range_with_len}
use Rattle.std.proofs.lemmas.Bool.{and_parts}
use Rattle.std.proofs.lemmas.Bool.Decides.{Decides-eqb}
use Rattle.std.proofs.lemmas.List.FromFn.{get_or-range_with_len, length-range_with_len}
use Rattle.std.proofs.lemmas.List.Sums.{sum_by-cons}
use Rattle.vf_spans.specs.Members.{has, count_below}
use Rattle.job_counts.specs.declared.holder.HolderCounts.{HolderCounts}
use Rattle.job_counts.specs.Holder.{is_holder_clear}
use Rattle.holder_check.specs.declared.marks.HolderMarks.{HolderMarks}
use Rattle.holder_check.specs.Contacts.{HolderSeen, IsKeptOff, holder_findings, holder_seen_at, may_strike_fixture, may_strike_part, may_strike_stock}

-- how many indices two sets have, and how many the first two have and the third has not
abbrev pub both : List Bool → List Bool → ℕ
both a b = count_below (length a) (λ i. has a i && has b i)

abbrev pub both_not : List Bool → List Bool → List Bool → ℕ
both_not a b c = count_below (length a) (λ i. has a i && (has b i && not (has c i)))

pub counts_are : (marks : HolderMarks) (stock part fixture before after : List Bool) (a b c d e f : ℕ) → length part ≡ length stock → length fixture ≡ length stock
    → a ≡ both part marks.sure → b ≡ both part marks.possible → c ≡ both fixture marks.sure → d ≡ both fixture marks.possible
    → e ≡ both_not stock marks.sure after → f ≡ both_not stock marks.possible before
    → let counts : HolderCounts = record { part_sure = a; part_possible = b; fix_sure = c; fix_possible = d; stock_sure = e; stock_possible = f } in
    counts ≡ holder_findings (holder_seen_at marks stock part fixture before after) (range_with_len 0 (length stock))
counts_are marks stock part fixture before after a b c d e f size_part size_fixture ia ib ic id ie jf =
    let n = length stock in
    let ra : a ≡ count_below n (λ i. has part i && has marks.sure i) = ia ∙ ap (λ m. count_below m (λ i. has part i && has marks.sure i)) size_part in
    let rb : b ≡ count_below n (λ i. has part i && has marks.possible i) = ib ∙ ap (λ m. count_below m (λ i. has part i && has marks.possible i)) size_part in
    let rc : c ≡ count_below n (λ i. has fixture i && has marks.sure i) = ic ∙ ap (λ m. count_below m (λ i. has fixture i && has marks.sure i)) size_fixture in
    let rd : d ≡ count_below n (λ i. has fixture i && has marks.possible i) = id ∙ ap (λ m. count_below m (λ i. has fixture i && has marks.possible i)) size_fixture in
    cc

-- where none is counted each fails the test
none_counted : (p : ℕ → Bool) (xs : List ℕ) (i d : ℕ) → count_by p xs ≡ 0 → i < length xs → p (get_or xs i d) ≡ false
none_counted p [] i d h l = absurd (omega (arith, l))
none_counted p (x ∷ xs) zero d h l = first (p x) (count_by p xs) (sym (sum_by-cons (λ y. cond (p y) 1 0) x xs) ∙ h) where
  first : (a : Bool) (n : ℕ) → cond a 1 0 + n ≡ 0 → a ≡ false
  first true n h = absurd (omega (arith, h))
  first false n h = refl
none_counted p (x ∷ xs) (suc i) d h l = none_counted p xs i d (rest (p x) (count_by p xs) (sym (sum_by-cons (λ y. cond (p y) 1 0) x xs) ∙ h)) (omega (arith, l)) where
  rest : (a : Bool) (n : ℕ) → cond a 1 0 + n ≡ 0 → n ≡ 0
  rest true n h = absurd (omega (arith, h))
  rest false n h = omega (arith, h)

none_below_bound : (p : ℕ → Bool) (n i : ℕ) → count_below n p ≡ 0 → i < n → p i ≡ false
none_below_bound p n i none l =
    let size : length (range_with_len 0 n) ≡ n = length-range_with_len 0 n in
    subst (λ j. p j ≡ false) (get_or-range_with_len 0 n i 0 l ∙ zero-add i) (none_counted p (range_with_len 0 n) i 0 none (omega (arith, size, l)))

-- the three counts of what may be met are 0
all_zero : (a b c : ℕ) → IsTrue ((a == 0) && ((b == 0) && (c == 0))) → (a ≡ 0) × (b ≡ 0) × (c ≡ 0)
all_zero a b c t =
    let first = and_parts (a == 0) ((b == 0) && (c == 0)) t in
    let second = and_parts (b == 0) (c == 0) first.1 in
    ((Decides-eqb a 0).0 first.0, (Decides-eqb b 0).0 second.0, (Decides-eqb c 0).0 second.1)

out_of : (body may : Bool) → (body && may) ≡ false → IsTrue may → body ≡ false
out_of true may none t = cc
out_of false may none t = refl

gone : (stock may before : Bool) → (stock && (may && not before)) ≡ false → IsTrue may → IsTrue stock → before ≡ true
gone true true true none t s = refl
gone true true false none t s = cc
gone true false before none t s = cc
gone false may before none t s = cc

pub kept_off : (see : ℕ → HolderSeen) (n : ℕ) → IsTrue (is_holder_clear (holder_findings see (range_with_len 0 n))) → (i : ℕ) → i < n → IsKeptOff (see i)
kept_off see n clear i l =
    let f = holder_findings see (range_with_len 0 n) in
    let zeros = all_zero f.part_possible f.fix_possible f.stock_possible clear in
    let s = see i in record {
      part = out_of s.part s.possible (none_below_bound (λ j. may_strike_part (see j)) n i zeros.0 l);
      fixture = out_of s.fixture s.possible (none_below_bound (λ j. may_strike_fixture (see j)) n i zeros.1 l);
      stock = gone s.stock s.possible s.sure_before (none_below_bound (λ j. may_strike_stock (see j)) n i zeros.2 l);
    }
