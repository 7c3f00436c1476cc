use Rattle.std.proofs.Common.{◌≤◌, ◌<◌, ◌*◌, ◌^◌, ◌≡◌, ◌+ℤ◌, ℕ, ℤ, pos, unsigned_abs, arith, subst, sym, ◌∙◌}
use Rattle.std.proofs.lemmas.Int.{ints}
use borrow.Author.Differences.{abs_is}
use Rattle.space.specs.Ranges.{vector_limit}
use Rattle.space.proofs.ThreeWords.{all_three_fit, first_two_fit}
use Rattle.space.proofs.Words.{same_sum, sum_read}
use Rattle.sweep_boxes.proofs.change.change_along.Goals as goal

few : 3 * (2 * (vector_limit * vector_limit)) < 2 ^ 127
few = omega arith

length_few : (x : ℤ) (n : ℕ) → x ≡ pos n → n ≤ 2 * (vector_limit * vector_limit) → unsigned_abs x ≤ 2 * (vector_limit * vector_limit)
length_few x n e h = omega (arith, ints, e, h, abs_is x)

product_few : (n : ℕ) → n ≤ vector_limit * vector_limit → n ≤ 2 * (vector_limit * vector_limit)
product_few n h = omega (arith, h)

all_small : (x y z : ℤ) → unsigned_abs x ≤ 2 * (vector_limit * vector_limit) → unsigned_abs y ≤ vector_limit * vector_limit
    → unsigned_abs z ≤ vector_limit * vector_limit
    → unsigned_abs ((x +ℤ y) +ℤ z) ≤ 4 * (vector_limit * vector_limit)
all_small x y z h k l = omega (arith, ints, h, k, l, abs_is x, abs_is y, abs_is z, abs_is ((x +ℤ y) +ℤ z))

pub length_along-requires : goal.length_along-requires
length_along-requires c = record { i = c.requires.i; v = c.requires.c }

pub product-requires : goal.product-requires
product-requires c = record { i = c.requires.j; j = c.requires.k; p = c.requires.far_j; a = c.requires.axis_change_k }

pub product-requires-2 : goal.product-requires-2
product-requires-2 c = record { i = c.requires.k; j = c.requires.j; p = c.requires.far_k; a = c.requires.axis_change_j }

pub overflow_add-result : goal.overflow_add-result
overflow_add-result c =
    let x = c.length_along in let y = c.product in
    let a = length_few x.result _ x.ensures c.requires.c in let b = product_few (unsigned_abs y.result) y.ensures.small in
    first_two_fit x.result y.result _ few x.type_inv y.type_inv a b

pub overflow_add-result-2 : goal.overflow_add-result-2
overflow_add-result-2 c =
    let x = c.length_along in let y = c.product in let z = c.product-2 in
    let a = length_few x.result _ x.ensures c.requires.c in let b = product_few (unsigned_abs y.result) y.ensures.small in
    let d = product_few (unsigned_abs z.result) z.ensures.small in
    all_three_fit x.result y.result z.result _ few x.type_inv y.type_inv z.type_inv a b d

pub returns : goal.returns
returns c =
    let x = c.length_along in let y = c.product in let z = c.product-2 in
    let a = length_few x.result _ x.ensures c.requires.c in
    let read = sum_read x.result y.result z.result _ x.type_inv y.type_inv z.type_inv a (product_few (unsigned_abs y.result) y.ensures.small) (product_few (unsigned_abs z.result) z.ensures.small) few in
    record {
      value = read ∙ same_sum x.result y.result z.result _ _ _ x.ensures y.ensures.value z.ensures.value;
      small = subst (λ (s : ℤ). unsigned_abs s ≤ 4 * (vector_limit * vector_limit)) (sym read) (all_small x.result y.result z.result a y.ensures.small z.ensures.small);
    }
