use Rattle.cert_boxes.proofs.SearchLemmas.{lowest}
use Rattle.cert_boxes.proofs.search.first_of.Goals as goal

pub returns : goal.returns
returns c = lowest c.args.set.now c.range-first.result c.range-first.ensures.range
