-- The flags of marks, one by one.
use Rattle.std.proofs.Common.{◌≡◌, ℕ, ◌+◌, ◌≤◌, ◌<◌, List, length, Bool, true, false, ◌||◌, nat_eq, IsTrue, arith, refl, sym, ap, subst, ⊎_elim, ◌∙◌}
use Rattle.std.proofs.lemmas.Bool.{cases_lt}
use Rattle.std.proofs.lemmas.Bool.Decides.{nat_tests}
use Rattle.std.proofs.lemmas.List.{get_or_past}
use Rattle.vf_spans.specs.Members.{has}
use Rattle.axis_cells.specs.declared.mark.Mark.{Mark}
use Rattle.axis_cells.specs.declared.mark.Mark.TheVariants.{Clear}
use Rattle.box_bisect.specs.RayMarks.{mark_at}

-- the set has the indices below n whose mark passes the test, and none from n on
pub record AreFlagged (test : Mark → Bool) (marks : List Mark) (set : List Bool) (n : ℕ) : Type 0 where
  pub bound : length set ≡ length marks
  pub below : (i : ℕ) → n ≤ i → has set i ≡ false
  pub flags : (i : ℕ) → i < n → has set i ≡ test (mark_at marks i)

pub none_flagged : (test : Mark → Bool) (marks : List Mark) (set : List Bool) → length set ≡ length marks → ((i : ℕ) → has set i ≡ false) → AreFlagged test marks set 0
none_flagged test marks set e none = record { bound = e; below = λ i l. none i; flags = λ i l. absurd (omega (arith, l)) }

-- where the mark at n does not pass the test
pub flag_less : (test : Mark → Bool) (marks : List Mark) (set : List Bool) (n : ℕ) → test (mark_at marks n) ≡ false → AreFlagged test marks set n → AreFlagged test marks set (n + 1)
flag_less test marks set n out k = record {
  bound = k.bound;
  below = λ i l. k.below i (omega arith);
  flags = λ i l. ⊎_elim (λ early. k.flags i early) (λ late. let e : n ≡ i = omega arith in subst (λ j. has set j ≡ test (mark_at marks j)) e (k.below n (omega arith) ∙ sym out)) (cases_lt i n);
}

same_index : (n : ℕ) → nat_eq n n ≡ true
same_index n = grind (arith, nat_tests)

other_index : (i n : ℕ) → ¬ (i ≡ n) → nat_eq i n ≡ false
other_index i n h = grind (arith, nat_tests)

or_last : (p q : Bool) → q ≡ true → (p || q) ≡ true
or_last true q e = refl
or_last false q e = e

or_first : (p q : Bool) → q ≡ false → (p || q) ≡ p
or_first true q e = refl
or_first false q e = e

-- where it does, and n was added
pub flag_more : (test : Mark → Bool) (marks : List Mark) (old new : List Bool) (n : ℕ) → test (mark_at marks n) ≡ true → AreFlagged test marks old n
    → length new ≡ length old → ((i : ℕ) → has new i ≡ (has old i || nat_eq i n)) → AreFlagged test marks new (n + 1)
flag_more test marks old new n within k same added = record {
  bound = same ∙ k.bound;
  below = λ i l. added i ∙ or_first (has old i) (nat_eq i n) (other_index i n (λ e. omega (arith, l, e))) ∙ k.below i (omega arith);
  flags = λ i l.
      ⊎_elim
      (λ early. added i ∙ or_first (has old i) (nat_eq i n) (other_index i n (λ e. omega (arith, early, e))) ∙ k.flags i early)
      (λ late. let e : n ≡ i = omega arith in subst (λ j. has new j ≡ test (mark_at marks j)) e (added n ∙ or_last (has old n) (nat_eq n n) (same_index n) ∙ sym within))
      (cases_lt i n);
}

no_flag : (b : Bool) → b ≡ false → IsTrue b → ⊥
no_flag b e t = cc

pub flags_above : (test : Mark → Bool) (marks : List Mark) (set : List Bool) (n : ℕ) → AreFlagged test marks set n → (i : ℕ) → IsTrue (has set i) → i < n
flags_above test marks set n k i held = ⊎_elim (λ early. early) (λ late. absurd (no_flag (has set i) (k.below i late) held)) (cases_lt i n)

pub all_flagged : (test : Mark → Bool) (marks : List Mark) (set : List Bool) (n : ℕ) → test Clear ≡ false → length marks ≤ n → AreFlagged test marks set n → (l : ℕ) → has set l ≡ test (mark_at marks l)
all_flagged test marks set n clear all k l =
    ⊎_elim (λ early. k.flags l early)
    (λ late. k.below l late ∙ sym clear ∙ sym (ap test (get_or_past marks l Clear (omega arith)))) (cases_lt l n)
