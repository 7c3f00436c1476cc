-- The steps of a search, by the undecided boxes.
use Rattle.std.proofs.Common.{◌≡◌, Bool, true, ℕ, zero, suc, ◌+◌, ◌*◌, ◌^◌, ◌≤◌, ◌<◌, if◌then◌else◌, List, ℤ, arith, subst, sym}
use Rattle.std.proofs.Math.Nat.{mul-le-mul_left}
use Rattle.space.specs.Sweeps.{SweepOf}
use Rattle.bern_form.specs.Between.{is_unexcluded_between}
use Rattle.bern_form.specs.Slab.{SlabSize}
use Rattle.box_bisect.specs.Boxes.{undecided_from}

chosen : (b : Bool) (x y : ℕ) → b ≡ true → (if b then x else y) ≡ x
chosen b x y h = cc

-- an undecided box with halves
undecided_box : (slabs : List SlabSize) (m : SweepOf) (p : List ℤ) (S n j : ℕ) → is_unexcluded_between slabs m p j (j + 2 ^ suc n) S ≡ true
    → undecided_from slabs m p S (suc n) j ≡ 1 + (undecided_from slabs m p S n j + undecided_from slabs m p S n (j + 2 ^ n))
unfolding undecided_from
undecided_box slabs m p S n j left = chosen (is_unexcluded_between slabs m p j (j + 2 ^ suc n) S) _ 0 left

box_of : (slabs : List SlabSize) (m : SweepOf) (p : List ℤ) (S levels n j : ℕ) → levels ≡ suc n → is_unexcluded_between slabs m p j (j + 2 ^ levels) S ≡ true
    → undecided_from slabs m p S levels j ≡ 1 + (undecided_from slabs m p S n j + undecided_from slabs m p S n (j + 2 ^ n))
box_of slabs m p S levels n j e left =
    subst (λ k. undecided_from slabs m p S k j ≡ 1 + (undecided_from slabs m p S n j + undecided_from slabs m p S n (j + 2 ^ n))) (sym e)
    (undecided_box slabs m p S n j (subst (λ k. is_unexcluded_between slabs m p j (j + 2 ^ k) S ≡ true) e left))

one_more : (n levels : ℕ) → levels ≡ n + 1 → levels ≡ suc n
one_more n levels e = omega (arith, e)

-- only the test of the box, and where the sample in the middle ends the search
pub cost_of_box : (a b l w : ℕ) → b ≤ a + l → b ≤ a + l * (1 + 3 * w)
cost_of_box a b l w h = omega (arith, h)

pub cost_of_middle : (slabs : List SlabSize) (m : SweepOf) (p : List ℤ) (S levels n j : ℕ) → levels ≡ n + 1 → is_unexcluded_between slabs m p j (j + 2 ^ levels) S ≡ true
    → (a b c l i : ℕ) → i ≤ l → b ≤ a + l → c ≤ b + i → c ≤ a + l * (1 + 3 * undecided_from slabs m p S levels j)
cost_of_middle slabs m p S levels n j e left a b c l i few first second =
    let u = undecided_from slabs m p S n j in let v = undecided_from slabs m p S n (j + 2 ^ n) in
    subst (λ w. c ≤ a + l * (1 + 3 * w)) (sym (box_of slabs m p S levels n j (one_more n levels e) left)) (omega (arith, few, first, second))

-- one half, or both
pub cost_of_late : (slabs : List SlabSize) (m : SweepOf) (p : List ℤ) (S levels n j : ℕ) → levels ≡ n + 1 → is_unexcluded_between slabs m p j (j + 2 ^ levels) S ≡ true
    → (a b c d l i : ℕ) → i ≤ l → b ≤ a + l → c ≤ b + i → d ≤ c + l * (1 + 3 * undecided_from slabs m p S n (j + 2 ^ n)) → d ≤ a + l * (1 + 3 * undecided_from slabs m p S levels j)
cost_of_late slabs m p S levels n j e left a b c d l i few first second third =
    let u = undecided_from slabs m p S n j in let v = undecided_from slabs m p S n (j + 2 ^ n) in
    subst (λ w. d ≤ a + l * (1 + 3 * w)) (sym (box_of slabs m p S levels n j (one_more n levels e) left)) (omega (arith, few, first, second, third))

pub cost_of_both : (slabs : List SlabSize) (m : SweepOf) (p : List ℤ) (S levels n j : ℕ) → levels ≡ n + 1 → is_unexcluded_between slabs m p j (j + 2 ^ levels) S ≡ true
    → (a b c d e' l i : ℕ) → i ≤ l → b ≤ a + l → c ≤ b + i → d ≤ c + l * (1 + 3 * undecided_from slabs m p S n (j + 2 ^ n)) → e' ≤ d + l * (1 + 3 * undecided_from slabs m p S n j)
    → e' ≤ a + l * (1 + 3 * undecided_from slabs m p S levels j)
cost_of_both slabs m p S levels n j e left a b c d e' l i few first second third fourth =
    let u = undecided_from slabs m p S n j in let v = undecided_from slabs m p S n (j + 2 ^ n) in
    subst (λ w. e' ≤ a + l * (1 + 3 * w)) (sym (box_of slabs m p S levels n j (one_more n levels e) left)) (omega (arith, few, first, second, third, fourth))

-- of the whole move: only the box, an end or both, and what is between them
pub undecided_some : (slabs : List SlabSize) (m : SweepOf) (p : List ℤ) (S levels j : ℕ) → is_unexcluded_between slabs m p j (j + 2 ^ levels) S ≡ true → 0 < undecided_from slabs m p S levels j
unfolding undecided_from
undecided_some slabs m p S zero j left = let e = chosen (is_unexcluded_between slabs m p j (j + 1) S) 1 0 left in omega (arith, e)
undecided_some slabs m p S (suc n) j left = let e = undecided_box slabs m p S n j left in omega (arith, e)

pub cost_of_whole_box : (a b l w : ℕ) → b ≤ a + l → b ≤ a + l * (3 + 4 * w)
cost_of_whole_box a b l w h = omega (arith, h)

pub cost_of_end : (a b c l i w : ℕ) → i ≤ l → b ≤ a + l → c ≤ b + i → c ≤ a + l * (3 + 4 * w)
cost_of_end a b c l i w few first second = omega (arith, few, first, second)

pub cost_of_ends : (a b c d l i w : ℕ) → i ≤ l → b ≤ a + l → c ≤ b + i → d ≤ c + i → d ≤ a + l * (3 + 4 * w)
cost_of_ends a b c d l i w few first second third = omega (arith, few, first, second, third)

pub cost_of_whole : (a b c d e l i w : ℕ) → 0 < w → i ≤ l → b ≤ a + l → c ≤ b + i → d ≤ c + i → e ≤ d + l * (1 + 3 * w) → e ≤ a + l * (3 + 4 * w)
cost_of_whole a b c d e l i w some few first second third fourth = let more = mul-le-mul_left l some in omega (arith, few, first, second, third, fourth, more)
