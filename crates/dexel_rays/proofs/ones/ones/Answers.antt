use Rattle.std.proofs.Common.{◌∙◌, rules}
use Rattle.vf_spans.proofs.WordCounts.{ones_are}
use Rattle.dexel_rays.proofs.ones.ones.Goals as goal

pub returns : goal.returns
returns c = c.from.ensures ∙ ones_are 64 c.args.word (search rules)
