use Rattle.std.proofs.Common.{arith}
use Rattle.vf_spans.proofs.WordFlags.{bound_of_words, words_here, flags_here}
use Rattle.vf_spans.proofs.words.Words.as_slice.Goals as goal

pub returns-clause-fits : goal.returns-clause-fits
returns-clause-fits c = let size = bound_of_words c.self.inside.bound c.self.inside.words.items c.args.self.now c.self.view_is in omega arith

pub returns-clause-words : goal.returns-clause-words
returns-clause-words c = words_here c.self.inside.bound c.self.inside.words.items c.as_slice.result.now c.args.self.now c.self.invariant c.self.view_is c.as_slice.ensures.value

pub returns-clause-flags : goal.returns-clause-flags
returns-clause-flags c = flags_here c.self.inside.bound c.self.inside.words.items c.as_slice.result.now c.args.self.now c.self.invariant c.self.view_is c.as_slice.ensures.value
