use Rattle.std.proofs.Common.{◌<◌, ◌*◌, ◌^◌, arith, ◌∙◌}
use Rattle.space.specs.Ranges.{vector_limit}
use Rattle.space.proofs.ThreeWords.{all_three_fit, all_three_small, first_two_fit}
use Rattle.space.proofs.Words.{at_x, at_y, at_z, same_sum, sum_read}
use Rattle.space.proofs.vector.dot.Goals as goal

few : 3 * (vector_limit * vector_limit) < 2 ^ 127
few = omega arith

pub product-requires : goal.product-requires
product-requires c = record { i = at_x; j = at_x; p = c.requires.p.0; a = c.requires.a.0 }

pub product-requires-2 : goal.product-requires-2
product-requires-2 c = record { i = at_y; j = at_y; p = c.requires.p.1; a = c.requires.a.1 }

pub product-requires-3 : goal.product-requires-3
product-requires-3 c = record { i = at_z; j = at_z; p = c.requires.p.2; a = c.requires.a.2 }

pub overflow_add-result : goal.overflow_add-result
overflow_add-result c =
    let x = c.product in let y = c.product-2 in
    first_two_fit x.result y.result _ few x.type_inv y.type_inv x.ensures.small y.ensures.small

pub overflow_add-result-2 : goal.overflow_add-result-2
overflow_add-result-2 c =
    let x = c.product in let y = c.product-2 in let z = c.product-3 in
    all_three_fit x.result y.result z.result _ few x.type_inv y.type_inv z.type_inv x.ensures.small y.ensures.small z.ensures.small

pub returns : goal.returns
returns c =
    let x = c.product in let y = c.product-2 in let z = c.product-3 in
    let read = sum_read x.result y.result z.result _ x.type_inv y.type_inv z.type_inv x.ensures.small y.ensures.small z.ensures.small few in
    record {
      value = read ∙ same_sum x.result y.result z.result _ _ _ x.ensures.value y.ensures.value z.ensures.value;
      small =
          all_three_small x.result y.result z.result _ few x.type_inv y.type_inv z.type_inv x.ensures.small y.ensures.small z.ensures.small;
    }
