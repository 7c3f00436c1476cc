use Rattle.std.proofs.Common.{◌∙◌, sym, eq-eqb, ne_eqb}
use Rattle.cl_lines.proofs.CommentLemmas.{is_continued-last, record_part-continued, record_part-whole}
use Rattle.cl_lines.proofs.comment.split_dollar.Goals as goal

pub returns-then-last-eq36-clause-part : goal.returns-then-last-eq36-clause-part
returns-then-last-eq36-clause-part c =
    let last = c.in-Some.last.now in
    sym (record_part-continued c.args.line.now c.in-Some.part.now last (sym c.trim_end.ensures.text ∙ c.in-Some.ensures.cases.0) (eq-eqb last 36 c.if-last-eq36.true))

pub returns-then-last-eq36-clause-continued : goal.returns-then-last-eq36-clause-continued
returns-then-last-eq36-clause-continued c =
    let last = c.in-Some.last.now in
    sym (is_continued-last c.args.line.now c.in-Some.part.now last (sym c.trim_end.ensures.text ∙ c.in-Some.ensures.cases.0) ∙ eq-eqb last 36 c.if-last-eq36.true)

pub returns-else-last-eq36-clause-part : goal.returns-else-last-eq36-clause-part
returns-else-last-eq36-clause-part c =
    let last = c.in-Some.last.now in
    let line = c.args.line.now in
    sym (record_part-whole line (is_continued-last line c.in-Some.part.now last (sym c.trim_end.ensures.text ∙ c.in-Some.ensures.cases.0) ∙ ne_eqb last 36 c.if-last-eq36.false))

pub returns-else-last-eq36-clause-continued : goal.returns-else-last-eq36-clause-continued
returns-else-last-eq36-clause-continued c =
    let last = c.in-Some.last.now in
    sym (is_continued-last c.args.line.now c.in-Some.part.now last (sym c.trim_end.ensures.text ∙ c.in-Some.ensures.cases.0) ∙ ne_eqb last 36 c.if-last-eq36.false)
