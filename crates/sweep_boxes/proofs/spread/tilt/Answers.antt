use Rattle.std.proofs.Common.{◌<◌, ◌*◌, ◌^◌, arith, ◌∙◌}
use Rattle.sweep_boxes.specs.Limits.{side_component_limit}
use Rattle.space.specs.Ranges.{vector_limit}
use Rattle.space.proofs.ThreeWords.{all_three_fit, all_three_small, first_two_fit}
use Rattle.space.proofs.Words.{at_x, at_y, at_z, same_sum, sum_read}
use Rattle.sweep_boxes.proofs.spread.tilt.Goals as goal

few : 3 * (side_component_limit * (2 * (vector_limit * vector_limit))) < 2 ^ 127
few = omega arith

pub share-requires : goal.share-requires
share-requires c = record { i = at_x; side = c.requires.side.0; v = c.requires.v.0 }

pub share-requires-2 : goal.share-requires-2
share-requires-2 c = record { i = at_y; side = c.requires.side.1; v = c.requires.v.1 }

pub share-requires-3 : goal.share-requires-3
share-requires-3 c = record { i = at_z; side = c.requires.side.2; v = c.requires.v.2 }

pub overflow_add-result : goal.overflow_add-result
overflow_add-result c =
    let x = c.share in let y = c.share-2 in
    first_two_fit x.result y.result _ few x.type_inv y.type_inv x.ensures.small y.ensures.small

pub overflow_add-result-2 : goal.overflow_add-result-2
overflow_add-result-2 c =
    let x = c.share in let y = c.share-2 in let z = c.share-3 in
    all_three_fit x.result y.result z.result _ few x.type_inv y.type_inv z.type_inv x.ensures.small y.ensures.small z.ensures.small

pub returns : goal.returns
returns c =
    let x = c.share in let y = c.share-2 in let z = c.share-3 in
    let read = sum_read x.result y.result z.result _ x.type_inv y.type_inv z.type_inv x.ensures.small y.ensures.small z.ensures.small few in
    record {
      value = read ∙ same_sum x.result y.result z.result _ _ _ x.ensures.value y.ensures.value z.ensures.value;
      small =
          all_three_small x.result y.result z.result _ few x.type_inv y.type_inv z.type_inv x.ensures.small y.ensures.small z.ensures.small;
    }
