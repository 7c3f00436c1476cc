-- Draws one after the other.
use Rattle.std.proofs.Common.{◌≡◌, ℕ, ◌+◌, ◌*◌, ◌/◌, zero, suc, refl, sym, ap, ◌∙◌, subst, arith}
use Rattle.made_program.specs.Draws.{draw, generator_state, next_state}
use Rattle.made_program.specs.Made.{first_place, place_after, place_from}

-- k draws after n others
pub draws_behind : (n k state : ℕ) → generator_state k (generator_state n state) ≡ generator_state (n + k) state
draws_behind n zero state = let none : n + 0 ≡ n = omega arith in ap (λ m. generator_state m state) (sym none)
draws_behind n (suc k) state =
    let more : n + suc k ≡ suc (n + k) = omega arith in ap next_state (draws_behind n k state) ∙ ap (λ m. generator_state m state) (sym more)

-- the k-th draw after n others
later : (n k m state : ℕ) → n + k ≡ m → draw k (generator_state n state) ≡ draw m state
later n k m state e = ap (λ s. s / 65536) (draws_behind n k state ∙ ap (λ m. generator_state m state) e)

-- after no move the tool is at the first place
pub place_first : (number : ℕ) → first_place ≡ place_after number 0
unfolding place_after
place_first number = refl

-- the place that comes of the state after i moves is the one after one more
pub place_next : (number i : ℕ) → place_from (generator_state (5 * i) number) ≡ place_after number (i + 1)
unfolding place_after
place_next number i =
    let next : i + 1 ≡ suc i = omega arith in
    let a = later (5 * i) 1 (5 * i + 1) number refl in
    let b = later (5 * i) 2 (5 * i + 2) number refl in
    let c = later (5 * i) 3 (5 * i + 3) number refl in
    let p = later (5 * i) 4 (5 * i + 4) number refl in
    let q = later (5 * i) 5 (5 * i + 5) number refl in
    subst (λ n. place_from (generator_state (5 * i) number) ≡ place_after number n) (sym next) cc

-- and the state is that after five more draws
pub state_next : (number i : ℕ) → generator_state 5 (generator_state (5 * i) number) ≡ generator_state (5 * (i + 1)) number
state_next number i = let five : 5 * i + 5 ≡ 5 * (i + 1) = omega arith in draws_behind (5 * i) 5 number ∙ ap (λ n. generator_state n number) five
