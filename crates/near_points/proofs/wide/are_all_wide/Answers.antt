use Rattle.std.proofs.Common.{ℤ, ◌<ℤ◌, ◌≤ℤ◌, arith, sym, subst, ◌∙◌}
use Rattle.space.proofs.Tests.{decides_le}
use Rattle.near_points.proofs.Bits.{moment_bits, moment_passed}
use Rattle.near_points.proofs.Curving.{width_kept}
use Rattle.near_points.proofs.Told.{below_if_not}
use Rattle.near_points.proofs.Widened.{least_by, near_between, not_not, not_so, squares_by, wide_between}
use Rattle.near_points.proofs.wide.are_all_wide.Goals as goal

pub least_size-requires-clause-a : goal.least_size-requires-clause-a
least_size-requires-clause-a c = let low = c.after-low.result in moment_passed low.second low.second_small

pub least_size-requires-clause-b : goal.least_size-requires-clause-b
least_size-requires-clause-b c = let high = c.after-high.result in moment_passed high.second high.second_small

pub least_size-requires-2-clause-a : goal.least_size-requires-2-clause-a
least_size-requires-2-clause-a c = let low = c.after-low.result in moment_passed low.third low.third_small

pub least_size-requires-2-clause-b : goal.least_size-requires-2-clause-b
least_size-requires-2-clause-b c = let high = c.after-high.result in moment_passed high.third high.third_small

pub invariant_of-nearest : goal.invariant_of-nearest
invariant_of-nearest c =
    let first = c.args.first.now in record {
      along_small = moment_passed first.along first.along_small;
      second_small = moment_passed c.least_size.result c.least_size.ensures.small;
      third_small = moment_passed c.least_size-2.result c.least_size-2.ensures.small;
      side_small = omega arith;
      height_small = omega arith;
    }

pub returns-clause-wide : goal.returns-clause-wide
returns-clause-wide c = λ yes x from to.
    let s = c.args.first.now in let t = c.args.step.now in let test = c.args.test.now in
    let low = c.after-low in let high = c.after-high in let second = c.least_size in let third = c.least_size-2 in
    let p = least_by _ _ _ _ second.result (moment_bits low.result.second low.result.second_small ∙ low.ensures.second)
    (moment_bits high.result.second high.result.second_small ∙ high.ensures.second) second.ensures.least in
    let q = least_by _ _ _ _ third.result (moment_bits low.result.third low.result.third_small ∙ low.ensures.third)
    (moment_bits high.result.third high.result.third_small ∙ high.ensures.third) third.ensures.least in
    let width = width_kept c.width.result c.width.ensures.small ∙ c.width.ensures.value
    ∙ squares_by _ _ _ s.along second.result third.result (moment_bits s.along s.along_small) (moment_bits second.result second.ensures.small)
    (moment_bits third.result third.ensures.small) in
    let wide = subst (λ (z : ℤ). test.square <ℤ z) width
    (below_if_not _ test.square (sym c.has_width.ensures ∙ not_so c.has_width.result yes)) in
    wide_between test s t second.result third.result c.args.l x c.args.m from to p q wide

pub returns-clause-near : goal.returns-clause-near
returns-clause-near c = λ no p q hp hq.
    let s = c.args.first.now in let test = c.args.test.now in
    let low = c.after-low in let high = c.after-high in let second = c.least_size in let third = c.least_size-2 in
    let p_most = second.ensures.most p (least_by _ _ _ _ p (sym (moment_bits low.result.second low.result.second_small ∙ low.ensures.second))
    (sym (moment_bits high.result.second high.result.second_small ∙ high.ensures.second)) hp) in
    let q_most = third.ensures.most q (least_by _ _ _ _ q (sym (moment_bits low.result.third low.result.third_small ∙ low.ensures.third))
    (sym (moment_bits high.result.third high.result.third_small ∙ high.ensures.third)) hq) in
    let width = width_kept c.width.result c.width.ensures.small ∙ c.width.ensures.value
    ∙ squares_by _ _ _ s.along second.result third.result (moment_bits s.along s.along_small) (moment_bits second.result second.ensures.small)
    (moment_bits third.result third.ensures.small) in
    let near = subst (λ (z : ℤ). z ≤ℤ test.square) width
    ((decides_le _ test.square).0 (sym c.has_width.ensures ∙ not_not c.has_width.result no)) in
    near_between s.along p q second.result third.result test.square near hp.0 p_most hq.0 q_most
