-- Sums over the passes.
use Rattle.std.proofs.Common.{◌≡◌, ℕ, zero, suc, ◌+◌, ◌≤◌, ◌≢◌, List, [], ◌∷◌, ◌++◌, set, arith, refl, sym, ap}
use mathlib.Core.Option.{some, some-injective, some-ne-none}
use lib.ListN.{get_elem?}
use Rattle.strip_turns.specs.declared.view.View.{View}
use Rattle.strip_turns.specs.Sound.{total}

pub total_set : (f : View → ℕ) (views : List View) (seat : ℕ) (v w : View) → get_elem? views seat ≡ some v → total f (set views seat w) + f v ≡ total f views + f w
total_set f [] seat v w at = absurd (some-ne-none v (sym at))
total_set f (x ∷ xs) zero v w at = let e : f x ≡ f v = ap f (some-injective x v at) in omega arith
total_set f (x ∷ xs) (suc seat) v w at = let e = total_set f xs seat v w at in omega arith

pub total_at : (f : View → ℕ) (views : List View) (seat : ℕ) (v : View) → get_elem? views seat ≡ some v → f v ≤ total f views
total_at f [] seat v at = absurd (some-ne-none v (sym at))
total_at f (x ∷ xs) zero v at = let e : f x ≡ f v = ap f (some-injective x v at) in omega arith
total_at f (x ∷ xs) (suc seat) v at = let e = total_at f xs seat v at in omega arith

pub total_more : (f : View → ℕ) (views : List View) (w : View) → total f (views ++ w ∷ []) ≡ total f views + f w
total_more f [] w = omega arith
total_more f (x ∷ xs) w = let e = total_more f xs w in omega arith

pub total_le : (f g : View → ℕ) (views : List View) → ((v : View) → f v ≤ g v) → total f views ≤ total g views
total_le f g [] le = omega arith
total_le f g (x ∷ xs) le = let a = le x in let b = total_le f g xs le in omega arith

-- where f is nothing everywhere, a g that is nothing with it adds up to nothing
pub total_none : (f g : View → ℕ) (views : List View) → ((v : View) → f v ≡ 0 → g v ≡ 0) → total f views ≡ 0 → total g views ≡ 0
total_none f g [] zero_too e = refl
total_none f g (x ∷ xs) zero_too e = let a : f x ≡ 0 = omega arith in let b = zero_too x a in let c = total_none f g xs zero_too (omega arith) in omega arith

-- where f adds up to 1 and has its 1 here, a g that is nothing with it has its sum here
pub total_one : (f g : View → ℕ) (views : List View) (seat : ℕ) (v : View) → ((u : View) → f u ≡ 0 → g u ≡ 0) → total f views ≡ 1 → get_elem? views seat ≡ some v → f v ≡ 1 → total g views ≡ g v
total_one f g [] seat v zero_too e at one = absurd (some-ne-none v (sym at))
total_one f g (x ∷ xs) zero v zero_too e at one =
    let same = some-injective x v at in
    let a : f x ≡ f v = ap f same in
    let b : g x ≡ g v = ap g same in
    let c = total_none f g xs zero_too (omega arith) in omega arith
total_one f g (x ∷ xs) (suc seat) v zero_too e at one = let a = total_at f xs seat v at in let b = zero_too x (omega arith) in let c = total_one f g xs seat v zero_too (omega arith) at one in omega arith

all_none : (f : View → ℕ) (views : List View) → ((seat : ℕ) (u : View) → get_elem? views seat ≡ some u → f u ≡ 0) → total f views ≡ 0
all_none f [] rest = refl
all_none f (x ∷ xs) rest = let a = rest 0 x refl in let b = all_none f xs (λ seat u at. rest (suc seat) u at) in omega arith

-- where each other pass has nothing, the sum is this pass's
pub total_alone : (f : View → ℕ) (views : List View) (seat : ℕ) (v : View) → get_elem? views seat ≡ some v → ((j : ℕ) (u : View) → get_elem? views j ≡ some u → j ≢ seat → f u ≡ 0) → total f views ≡ f v
total_alone f [] seat v at rest = absurd (some-ne-none v (sym at))
total_alone f (x ∷ xs) zero v at rest = let e : f x ≡ f v = ap f (some-injective x v at) in let a = all_none f xs (λ j u h. rest (suc j) u h (λ q. omega arith)) in omega arith
total_alone f (x ∷ xs) (suc seat) v at rest = let a = rest 0 x refl (λ q. omega arith) in let b = total_alone f xs seat v at (λ j u h ne. rest (suc j) u h (λ q. ne (omega arith))) in omega arith
