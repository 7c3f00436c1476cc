-- The flags of a set that grows index by index.
use Rattle.std.proofs.Common.{◌≡◌, ℕ, ◌+◌, ◌≤◌, ◌<◌, List, length, Bool, true, false, ◌&&◌, ◌||◌, nat_eq, IsTrue, arith, refl, sym, subst, ⊎_elim, ◌∙◌}
use Rattle.std.proofs.lemmas.Bool.{cases_lt}
use Rattle.std.proofs.lemmas.Bool.Decides.{nat_tests}
use Rattle.vf_spans.specs.Members.{has}

-- the set, of indices below n, has those below k that pass the test, and none from k on
pub record AreFlagged (test : ℕ → Bool) (n : ℕ) (set : List Bool) (k : ℕ) : Type 0 where
  pub bound : length set ≡ n
  pub flags : (i : ℕ) → i < k → has set i ≡ test i
  pub rest : (i : ℕ) → k ≤ i → has set i ≡ false

-- the empty set, where no index below k passes
pub none_flagged : (test : ℕ → Bool) (n : ℕ) (set : List Bool) (k : ℕ) → length set ≡ n → ((i : ℕ) → has set i ≡ false) → ((i : ℕ) → i < k → test i ≡ false) → AreFlagged test n set k
none_flagged test n set k bound empty none = record { bound = bound; flags = λ i l. empty i ∙ sym (none i l); rest = λ i l. empty i }

same_index : (n : ℕ) → nat_eq n n ≡ true
same_index n = grind (arith, nat_tests)

other_index : (i n : ℕ) → ¬ (i ≡ n) → nat_eq i n ≡ false
other_index i n h = grind (arith, nat_tests)

or_other : (p w q : Bool) → q ≡ false → (p || (w && q)) ≡ p
or_other true w q e = refl
or_other false true q e = e
or_other false false q e = refl

or_here : (p w q : Bool) → p ≡ false → q ≡ true → (p || (w && q)) ≡ w
or_here true w q d e = cc
or_here false true q d e = e
or_here false false q d e = refl

-- one index more
pub more_flagged : (test : ℕ → Bool) (n : ℕ) (old new : List Bool) (k : ℕ) (wanted : Bool) → wanted ≡ test k → AreFlagged test n old k
    → length new ≡ length old → ((i : ℕ) → has new i ≡ (has old i || (wanted && nat_eq i k))) → AreFlagged test n new (k + 1)
more_flagged test n old new k wanted is before same added = record {
  bound = same ∙ before.bound;
  flags = λ i l.
      ⊎_elim
      (λ early. added i ∙ or_other (has old i) wanted (nat_eq i k) (other_index i k (λ e. omega (arith, early, e))) ∙ before.flags i early)
      (λ late. let e : k ≡ i = omega (arith, l, late) in
      subst (λ j. has new j ≡ test j) e (added k ∙ or_here (has old k) wanted (nat_eq k k) (before.rest k (omega arith)) (same_index k) ∙ is))
      (cases_lt i k);
  rest = λ i l. added i ∙ or_other (has old i) wanted (nat_eq i k) (other_index i k (λ e. omega (arith, l, e))) ∙ before.rest i (omega (arith, l));
}

no_flag : (b : Bool) → b ≡ false → IsTrue b → ⊥
no_flag b e t = cc

pub flags_above : (test : ℕ → Bool) (n : ℕ) (set : List Bool) (k : ℕ) → AreFlagged test n set k → (i : ℕ) → IsTrue (has set i) → i < k
flags_above test n set k are i held = ⊎_elim (λ early. early) (λ late. absurd (no_flag (has set i) (are.rest i late) held)) (cases_lt i k)

-- all of them, where none from k on passes
pub all_flagged : (test : ℕ → Bool) (n : ℕ) (set : List Bool) (k : ℕ) → AreFlagged test n set k → ((i : ℕ) → k ≤ i → i < n → test i ≡ false) → (i : ℕ) → i < n → has set i ≡ test i
all_flagged test n set k are none i l =
    ⊎_elim (λ early. are.flags i early) (λ late. are.rest i late ∙ sym (none i late l)) (cases_lt i k)
