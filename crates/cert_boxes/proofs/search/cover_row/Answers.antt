use Rattle.std.proofs.Common.{sym, ◌∙◌}
use Rattle.cert_boxes.proofs.StripLemmas.{no_row, row_there}
use Rattle.cert_boxes.proofs.search.cover_row.Goals as goal

pub returns-then-rows-at-clause-exact : goal.returns-then-rows-at-clause-exact
returns-then-rows-at-clause-exact c = λ l low. c.new.ensures.empty l ∙ sym (no_row c.args.rows.now c.args.number l c.if-rows-at.true)

pub returns-clause-exact : goal.returns-clause-exact
returns-clause-exact c = λ l low.
    c.in_ok-set.ensures.exact l low ∙ row_there c.args.rows.now c.args.number l c.index-rows-at.result c.if-rows-at.false
