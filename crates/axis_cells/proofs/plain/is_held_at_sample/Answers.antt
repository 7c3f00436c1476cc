use Rattle.std.proofs.Common.{◌≡◌, ◌+◌, ap, pos, false, arith, sym, ◌∙◌}
use borrow.Author.Count.{below_more}
use Rattle.bern_form.specs.Marks.{some_holds}
use Rattle.bern_form.proofs.Decided.{found_below, none_below}
use Rattle.axis_cells.proofs.Comparisons.{held_at}
use Rattle.axis_cells.proofs.plain.is_held_at_sample.Goals as goal

pub returns-then-is_covered_by_some : goal.returns-then-is_covered_by_some
returns-then-is_covered_by_some c =
    let pose = c.at_sample-pose in let sample = c.of_pose in let m = c.args.sweep.now in let p = c.args.point.now in let S = c.args.scale in
    let here = held_at (pos sample.result.scale) sample.result.u sample.result.n sample.result.w pose.result.offset pose.result.axis m p c.loop-k.k S c.args.slabs.now
    record {
      offset_is = pose.ensures.offset;
      axis_is = pose.ensures.axis;
      scale_is = ap pos sample.ensures.scale;
      u_is = sample.ensures.u;
      n_is = sample.ensures.n;
      w_is = sample.ensures.w;
    } in
    sym (found_below (λ k. some_holds c.args.slabs.now m p k S) (S + 1) c.loop-k.k (omega arith) (sym here ∙ sym c.is_covered_by_some.ensures ∙ c.if-is_covered_by_some.true))

pub loop-k-preserved : goal.loop-k-preserved
loop-k-preserved c =
    let pose = c.at_sample-pose in let sample = c.of_pose in let m = c.args.sweep.now in let p = c.args.point.now in let S = c.args.scale in
    let here = held_at (pos sample.result.scale) sample.result.u sample.result.n sample.result.w pose.result.offset pose.result.axis m p c.loop-k.k S c.args.slabs.now
    record {
      offset_is = pose.ensures.offset;
      axis_is = pose.ensures.axis;
      scale_is = ap pos sample.ensures.scale;
      u_is = sample.ensures.u;
      n_is = sample.ensures.n;
      w_is = sample.ensures.w;
    } in
    below_more (λ k. some_holds c.args.slabs.now m p k S ≡ false) c.loop-k.k c.loop-k.invariant (sym here ∙ sym c.is_covered_by_some.ensures ∙ c.if-is_covered_by_some.false)

pub returns : goal.returns
returns c = sym (none_below (λ k. some_holds c.args.slabs.now c.args.sweep.now c.args.point.now k c.args.scale) (c.args.scale + 1) (λ k l. c.loop-k.invariant k (omega arith)))
