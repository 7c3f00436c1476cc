use Rattle.std.proofs.Common.{◌++◌, [], ◌∷◌, get_or, ap, ◌∙◌}
use Rattle.cert_boxes.proofs.RowLemmas.{pad}
use Rattle.cert_boxes.proofs.row.reach_row.Goals as goal

pub loop-alloc-preserved : goal.loop-alloc-preserved
loop-alloc-preserved c = λ n.
    ap (λ rows. get_or rows n []) (c.in_ok-push.ensures.items ∙ ap (λ row. c.loop-alloc.rows.items ++ row ∷ []) c.in_ok-row.ensures)
    ∙ pad c.loop-alloc.rows.items n ∙ c.loop-alloc.invariant n
