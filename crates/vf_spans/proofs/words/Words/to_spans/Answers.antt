use Rattle.std.proofs.Common.{◌≤◌, ◌∙◌, arith, subst, sym}
use Rattle.vf_spans.proofs.WordFlags.{bound_of_words}
use Rattle.vf_spans.proofs.WordRanges.{none_walked, all_walked, run_some, run_walked, walked_below, within_bound}
use Rattle.vf_spans.proofs.words.Words.to_spans.Goals as goal

pub loop-lo-init : goal.loop-lo-init
loop-lo-init c = record {
  bound = c.new-set.ensures.bound ∙ bound_of_words c.self.inside.bound c.self.inside.words.items c.args.self.now c.self.view_is;
  within = omega arith;
  done = λ k. c.new-set.ensures.empty k ∙ sym (none_walked c.args.self.now k);
}

pub returns : goal.returns
returns c = all_walked c.args.self.now c.loop-lo.set c.loop-lo.i c.loop-lo.invariant.bound c.in_default.ensures c.loop-lo.invariant.done

pub run_end-hi-requires : goal.run_end-hi-requires
run_end-hi-requires c = within_bound c.args.self.now c.in-Some.lo c.in-Some.ensures.member

pub push_range-requires-clause-not_empty : goal.push_range-requires-clause-not_empty
push_range-requires-clause-not_empty c = run_some c.args.self.now c.loop-lo.i c.in-Some.lo c.run_end-hi.result c.in-Some.ensures c.run_end-hi.ensures

pub push_range-requires-clause-within : goal.push_range-requires-clause-within
push_range-requires-clause-within c = subst (λ n. c.run_end-hi.result ≤ n) (sym c.loop-lo.invariant.bound) c.run_end-hi.ensures.within

pub push_range-requires-clause-above : goal.push_range-requires-clause-above
push_range-requires-clause-above c =
    walked_below c.args.self.now c.loop-lo.set c.loop-lo.i c.in-Some.lo c.in-Some.ensures.from c.loop-lo.invariant.done

pub loop-lo-preserved : goal.loop-lo-preserved
loop-lo-preserved c = record {
  bound = c.in_ok-push_range.ensures.bound ∙ c.loop-lo.invariant.bound;
  within = c.run_end-hi.ensures.within;
  done = run_walked c.args.self.now c.loop-lo.set c.push_range.new.self c.loop-lo.i c.in-Some.lo c.run_end-hi.result c.in-Some.ensures c.run_end-hi.ensures
      c.loop-lo.invariant.done c.in_ok-push_range.ensures.added;
}
