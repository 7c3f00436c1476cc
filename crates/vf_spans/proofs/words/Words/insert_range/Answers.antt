use Rattle.std.proofs.Common.{◌∙◌, ◌*◌, ◌≤◌, arith, refl, rules}
use Rattle.vf_spans.proofs.WordRanges.{before_range, past_written, range_written, word_written}
use Rattle.vf_spans.proofs.words.Words.insert_range.Goals as goal

pub loop-n-init : goal.loop-n-init
loop-n-init c = record {
  bound = refl;
  done = λ i lt. before_range c.args.self.now c.args.lo c.args.hi i (omega (arith, lt));
  rest = λ i le. refl;
}

pub loop-n-preserved : goal.loop-n-preserved
loop-n-preserved c =
    let l = c.loop-n in
    record {
      bound = c.or_word.ensures.bound ∙ l.invariant.bound;
      done = word_written c.args.self.now l.self c.or_word.new.self l.n c.bits_of_range.result c.args.lo c.args.hi c.requires.within l.invariant.bound
          c.or_word.ensures.bound l.invariant.done l.invariant.rest c.or_word.ensures.added c.bits_of_range.ensures;
      rest = past_written c.args.self.now l.self c.or_word.new.self l.n c.bits_of_range.result l.invariant.bound c.or_word.ensures.bound l.invariant.rest
          c.or_word.ensures.added;
    }

pub returns-clause-added : goal.returns-clause-added
returns-clause-added c =
    let past : c.args.hi ≤ 64 * c.loop-n.n = search rules in
    range_written c.args.self.now c.loop-n.self c.loop-n.n c.args.lo c.args.hi past c.loop-n.invariant.done c.loop-n.invariant.rest
