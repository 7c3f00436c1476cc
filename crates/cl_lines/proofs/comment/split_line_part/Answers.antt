use Rattle.std.proofs.Common.{◌∙◌, ap, sym}
use Rattle.cl_lines.specs.Comments.{is_continued, record_part}
use Rattle.cl_lines.proofs.CommentLemmas.{without_comment-none, is_continued-none, record_part-whole}
use Rattle.cl_lines.proofs.comment.split_line_part.Goals as goal

pub returns-in-None-clause-part : goal.returns-in-None-clause-part
returns-in-None-clause-part c =
    let line = c.args.line.now in
    sym (ap record_part (without_comment-none line c.in-None.ensures) ∙ record_part-whole line (is_continued-none line c.in-None.ensures))

pub returns-in-None-clause-continued : goal.returns-in-None-clause-continued
returns-in-None-clause-continued c =
    let line = c.args.line.now in
    sym (ap is_continued (without_comment-none line c.in-None.ensures) ∙ is_continued-none line c.in-None.ensures)
