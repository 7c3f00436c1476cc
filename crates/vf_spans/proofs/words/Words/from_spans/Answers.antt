use Rattle.std.proofs.Common.{◌∙◌, ◌||◌, arith, sym, ap}
use Rattle.vf_spans.specs.Members.{in_range}
use Rattle.vf_spans.proofs.WordRanges.{range_more, ranges_all}
use Rattle.vf_spans.proofs.words.Words.from_spans.Goals as goal

pub loop-n-preserved : goal.loop-n-preserved
loop-n-preserved c = record {
  bound = c.insert_range.ensures.bound ∙ c.loop-n.invariant.bound;
  done = λ i. c.insert_range.ensures.added i
      ∙ ap (λ b. b || in_range i c.range-lo.result) (c.loop-n.invariant.done i)
      ∙ sym (range_more c.args.set.now c.loop-n.n i c.range-lo.result (omega arith) c.range-lo.ensures.range);
}

pub returns : goal.returns
returns c = ranges_all c.args.set.now c.loop-n.words c.loop-n.n c.loop-n.invariant.bound (omega arith) c.loop-n.invariant.done
