use Rattle.std.proofs.Common.{◌<◌, ◌*◌, ◌^◌, ◌≤ℤ◌, ℤ, arith, subst, sym}
use Rattle.space.specs.Vectors.{at, dot}
use Rattle.space.specs.Ranges.{vector_limit}
use Rattle.space.proofs.ThreeWords.{all_three_fit, all_three_small, first_two_fit}
use Rattle.space.proofs.Words.{at_x, at_y, at_z, sum_most, sum_read}
use Rattle.sweep_boxes.proofs.offsets.most_dot.Goals as goal

few : 3 * (vector_limit * vector_limit) < 2 ^ 127
few = omega arith

pub most_product-requires : goal.most_product-requires
most_product-requires c = record { i = at_x; a = c.requires.a.0; low = c.requires.low.0; high = c.requires.high.0 }

pub most_product-requires-2 : goal.most_product-requires-2
most_product-requires-2 c = record { i = at_y; a = c.requires.a.1; low = c.requires.low.1; high = c.requires.high.1 }

pub most_product-requires-3 : goal.most_product-requires-3
most_product-requires-3 c = record { i = at_z; a = c.requires.a.2; low = c.requires.low.2; high = c.requires.high.2 }

pub overflow_add-result : goal.overflow_add-result
overflow_add-result c =
    let x = c.most_product in let y = c.most_product-2 in
    first_two_fit x.result y.result _ few x.type_inv y.type_inv x.ensures.small y.ensures.small

pub overflow_add-result-2 : goal.overflow_add-result-2
overflow_add-result-2 c =
    let x = c.most_product in let y = c.most_product-2 in let z = c.most_product-3 in
    all_three_fit x.result y.result z.result _ few x.type_inv y.type_inv z.type_inv x.ensures.small y.ensures.small z.ensures.small

pub returns : goal.returns
returns c =
    let x = c.most_product in let y = c.most_product-2 in let z = c.most_product-3 in
    let read = sum_read x.result y.result z.result _ x.type_inv y.type_inv z.type_inv x.ensures.small y.ensures.small z.ensures.small few in
    record {
      value = λ v among. subst (λ (s : ℤ). dot v c.args.a.now ≤ℤ s) (sym read)
          (sum_most _ _ _ _ _ _ (x.ensures.value (at v 0) among.x.from_least among.x.to_most)
          (y.ensures.value (at v 1) among.y.from_least among.y.to_most) (z.ensures.value (at v 2) among.z.from_least among.z.to_most));
      small =
          all_three_small x.result y.result z.result _ few x.type_inv y.type_inv z.type_inv x.ensures.small y.ensures.small z.ensures.small;
    }
