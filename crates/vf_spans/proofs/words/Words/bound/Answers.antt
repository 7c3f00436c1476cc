use Rattle.vf_spans.proofs.WordFlags.{bound_of_words}
use Rattle.vf_spans.proofs.words.Words.bound.Goals as goal

pub returns : goal.returns
returns c = bound_of_words c.self.inside.bound c.self.inside.words.items c.args.self.now c.self.view_is
