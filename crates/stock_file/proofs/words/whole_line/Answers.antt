use Rattle.std.proofs.Common.{◌∙◌, Some, None, cond, ap, eq-eqb, ne_eqb}
use Rattle.vf_io.specs.Pieces.{line_feed}
use Rattle.cert_lines.specs.Words.{line_in}
use Rattle.cert_lines.proofs.WordLemmas.{line_in-push}
use Rattle.stock_file.proofs.words.whole_line.Goals as goal

pub returns-then-last-ne10 : goal.returns-then-last-ne10
returns-then-last-ne10 c =
    let last = c.in_ok-last.last.now in
    let text = c.in_ok-last.text.now in
    ap line_in c.in_ok-last.ensures.cases.0 ∙ line_in-push text last ∙ ap (λ here. cond here (Some text) None) (ne_eqb last line_feed c.if-last-ne10.true)

pub returns : goal.returns
returns c =
    let last = c.in_ok-last.last.now in
    let text = c.in_ok-last.text.now in
    ap line_in c.in_ok-last.ensures.cases.0 ∙ line_in-push text last ∙ ap (λ here. cond here (Some text) None) (eq-eqb last line_feed c.if-last-ne10.false)
