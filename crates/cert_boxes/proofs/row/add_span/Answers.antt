use Rattle.cert_boxes.proofs.RowLemmas.{row_added}
use Rattle.cert_boxes.proofs.row.add_span.Goals as goal

pub returns : goal.returns
returns c = λ n.
    row_added c.args.rows.now.items c.reach_row.new.rows.items c.args.number n c.args.span c.index_mut.result.now c.push.new.self
    c.in_ok-reach_row.ensures.there c.in_ok-reach_row.ensures.same c.index_mut.ensures.value c.in_ok-push.ensures
