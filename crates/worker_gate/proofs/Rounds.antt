-- The strips of a round of tickets.
use native.Mathlib.Nat.{div-add-mod'}
use Rattle.std.proofs.Common.{◌≡◌, ℕ, ◌+◌, ◌-◌, ◌*◌, ◌/◌, ◌%◌, zero, suc, ◌<◌, ◌≤◌, arith, ap, sym, ◌∙◌}
use Rattle.std.proofs.lemmas.Nat.{mod-mul-add}

-- a number that leaves no rest is a multiple
multiple : (f n : ℕ) → f % n ≡ 0 → f ≡ f / n * n
multiple f n e = let whole = div-add-mod' f n in omega (arith, whole, e)

-- how far after the first ticket of its round a ticket is
pub place_in : (t f n : ℕ) → f % n ≡ 0 → f ≤ t → t - f < n → t - f ≡ t % n
place_in t f n e from within =
    let whole = multiple f n e in
    let is : t ≡ f / n * n + (t - f) = omega (arith, whole, from) in
    sym (ap (λ k. k % n) is ∙ mod-mul-add (f / n) n (t - f) within)

-- the first ticket of the round of a ticket
pub round_of : (t n : ℕ) → 0 < n → (t - t % n) % n ≡ 0
round_of t n some =
    let whole = div-add-mod' t n in
    let is : t - t % n ≡ t / n * n + 0 = omega (arith, whole) in
    ap (λ k. k % n) is ∙ mod-mul-add (t / n) n 0 some

-- a ticket that is a turn is for some strip
pub some_strips : (n turns t : ℕ) → t < n * turns → 0 < n
some_strips zero turns t lt = absurd (omega (arith, lt))
some_strips (suc n) turns t lt = omega arith
