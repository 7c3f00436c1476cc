use Rattle.std.proofs.Common.{◌≤◌, ◌<◌, ◌≤ℤ◌, ◌+ℤ◌, ◌*◌, ◌+◌, ◌^◌, ℕ, ℤ, pos, unsigned_abs, arith, subst, sym, ◌∙◌}
use Rattle.std.proofs.lemmas.Int.{ints}
use Rattle.space.specs.Vectors.{dot}
use Rattle.space.specs.Ranges.{vector_limit}
use Rattle.sweep_boxes.proofs.AlongSide.{reach_below}
use Rattle.space.proofs.ThreeWords.{all_three_fit, all_three_small, first_two_fit}
use Rattle.space.proofs.Words.{at_x, at_y, at_z, same_sum, sum_read}
use Rattle.sweep_boxes.proofs.spread.reach_of.Goals as goal

few : 3 * (vector_limit * (2 * (vector_limit * vector_limit))) < 2 ^ 127
few = omega arith

as_sum : (n a b d : ℕ) → n ≤ (a + b) + d → pos n ≤ℤ ((pos a +ℤ pos b) +ℤ pos d)
as_sum n a b d h = omega (arith, ints, h)

sum_some : (a b d : ℕ) → pos 0 ≤ℤ ((pos a +ℤ pos b) +ℤ pos d)
sum_some a b d = omega (arith, ints)

pub reach_along-requires : goal.reach_along-requires
reach_along-requires c = record { i = at_x; far = c.requires.far.0; v = c.requires.v.0 }

pub reach_along-requires-2 : goal.reach_along-requires-2
reach_along-requires-2 c = record { i = at_y; far = c.requires.far.1; v = c.requires.v.1 }

pub reach_along-requires-3 : goal.reach_along-requires-3
reach_along-requires-3 c = record { i = at_z; far = c.requires.far.2; v = c.requires.v.2 }

pub overflow_add-result : goal.overflow_add-result
overflow_add-result c =
    let x = c.reach_along in let y = c.reach_along-2 in
    first_two_fit x.result y.result _ few x.type_inv y.type_inv x.ensures.small y.ensures.small

pub overflow_add-result-2 : goal.overflow_add-result-2
overflow_add-result-2 c =
    let x = c.reach_along in let y = c.reach_along-2 in let z = c.reach_along-3 in
    all_three_fit x.result y.result z.result _ few x.type_inv y.type_inv z.type_inv x.ensures.small y.ensures.small z.ensures.small

pub returns : goal.returns
returns c =
    let x = c.reach_along in let y = c.reach_along-2 in let z = c.reach_along-3 in
    let read = sum_read x.result y.result z.result _ x.type_inv y.type_inv z.type_inv x.ensures.small y.ensures.small z.ensures.small few in
    let same = read ∙ same_sum x.result y.result z.result _ _ _ x.ensures.value y.ensures.value z.ensures.value in
    record {
      value = λ p near. subst (λ (s : ℤ). pos (unsigned_abs (dot p c.args.v.now)) ≤ℤ s) (sym same) (as_sum _ _ _ _ (reach_below p c.args.far.now c.args.v.now near));
      some = subst (λ (s : ℤ). pos 0 ≤ℤ s) (sym same) (sum_some _ _ _);
      small =
          all_three_small x.result y.result z.result _ few x.type_inv y.type_inv z.type_inv x.ensures.small y.ensures.small z.ensures.small;
    }
