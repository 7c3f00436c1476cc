-- Tests that say the same.
use Rattle.std.proofs.Common.{◌≡◌, ℕ, ◌<◌, ◌≤◌, Bool, true, false, leb, ltb, refl, sym}
use Rattle.std.proofs.lemmas.Bool.{le-leb, leb-true, lt-ltb, ltb-true}

pub same_bools : (b c : Bool) → (b ≡ true → c ≡ true) → (c ≡ true → b ≡ true) → b ≡ c
same_bools true true p q = refl
same_bools true false p q = sym (p refl)
same_bools false true p q = q refl
same_bools false false p q = refl

pub same_leb : (a b c d : ℕ) → (a ≤ b → c ≤ d) → (c ≤ d → a ≤ b) → leb a b ≡ leb c d
same_leb a b c d p q = same_bools (leb a b) (leb c d) (λ e. le-leb c d (p (leb-true a b e))) (λ e. le-leb a b (q (leb-true c d e)))

pub same_ltb : (a b c d : ℕ) → (a < b → c < d) → (c < d → a < b) → ltb a b ≡ ltb c d
same_ltb a b c d p q = same_bools (ltb a b) (ltb c d) (λ e. lt-ltb c d (p (ltb-true a b e))) (λ e. lt-ltb a b (q (ltb-true c d e)))

pub leb_as_ltb : (a b c d : ℕ) → (a ≤ b → c < d) → (c < d → a ≤ b) → leb a b ≡ ltb c d
leb_as_ltb a b c d p q = same_bools (leb a b) (ltb c d) (λ e. lt-ltb c d (p (leb-true a b e))) (λ e. le-leb a b (q (ltb-true c d e)))

pub ltb_as_leb : (a b c d : ℕ) → (a < b → c ≤ d) → (c ≤ d → a < b) → ltb a b ≡ leb c d
ltb_as_leb a b c d p q = same_bools (ltb a b) (leb c d) (λ e. le-leb c d (p (ltb-true a b e))) (λ e. lt-ltb a b (q (leb-true c d e)))
