-- Stretches of points: a test that fails at each of one and at the next point.
use Rattle.std.proofs.Common.{◌≡◌, ◌≢◌, Bool, false, ℕ, ◌+◌, ◌-◌, ◌≤◌, ◌<◌, ⊎_elim, arith, ap, subst, sym, ◌∙◌}
use Rattle.std.proofs.lemmas.Bool.{cases_eq}

pub one_ahead : (P : ℕ → Bool) (l at : ℕ) → ((x : ℕ) → l ≤ x → x < at → P x ≡ false) → P at ≡ false → (x : ℕ) → l ≤ x → x < at + 1 → P x ≡ false
one_ahead P l at before here x from to = ⊎_elim (λ (e : x ≡ at). ap P e ∙ here) (λ (ne : x ≢ at). before x from (omega (arith, ne))) (cases_eq x at)

pub one_behind : (P : ℕ → Bool) (at m : ℕ) → ((x : ℕ) → at < x → x ≤ m → P x ≡ false) → P at ≡ false → (x : ℕ) → at - 1 < x → x ≤ m → P x ≡ false
one_behind P at m after here x from to = ⊎_elim (λ (e : x ≡ at). ap P e ∙ here) (λ (ne : x ≢ at). after x (omega (arith, ne)) to) (cases_eq x at)

-- the same of what is true at each point
pub each_ahead : (P : ℕ → Type 0) (l at : ℕ) → ((x : ℕ) → l ≤ x → x < at → P x) → P at → (x : ℕ) → l ≤ x → x < at + 1 → P x
each_ahead P l at before here x from to = ⊎_elim (λ (e : x ≡ at). subst P (sym e) here) (λ (ne : x ≢ at). before x from (omega (arith, ne))) (cases_eq x at)

pub one_more_behind : (P : ℕ → Type 0) (at m : ℕ) → ((x : ℕ) → at < x → x ≤ m → P x) → P at → (x : ℕ) → at - 1 < x → x ≤ m → P x
one_more_behind P at m after here x from to =
    ⊎_elim (λ (e : x ≡ at). subst P (sym e) here) (λ (ne : x ≢ at). after x (omega (arith, ne)) to) (cases_eq x at)
