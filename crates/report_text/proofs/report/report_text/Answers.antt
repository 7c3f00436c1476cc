use Rattle.std.proofs.Common.{◌≡◌, length, codes}
use Rattle.job_report.specs.Facts.{JobFacts, is_clean}
use Rattle.report_text.specs.Report.{answer_lines, found_lines, heading_text, report_of}
use Rattle.report_text.specs.Verdict.{total_text, verdict_text}
use Rattle.report_text.proofs.Lines.{all_lines}
use Rattle.report_text.proofs.report.report_text.Goals as goal

pub returns : goal.returns
returns c =
    let f = c.args.facts.now in
    rw (c.into_vec.ensures, c.in_ok-write_verdict.ensures, c.in_ok-write_total.ensures, c.in_ok-write_answers.ensures, c.in_ok-write_left.ensures, c.in_ok-write_heading.ensures, c.in_ok-text.ensures, c.in_ok-page.ensures, c.is_clean.ensures, c.as_slice.ensures.value, c.as_slice-left.ensures.value, ← c.facts.view_is)
    (all_lines (codes "clverify 1") (heading_text c.facts.inside.moves (length c.facts.inside.left.items) c.facts.inside.passed) (total_text c.facts.inside.totals)
    (verdict_text (is_clean c.facts.inside.left.items)) (found_lines c.facts.inside.left.items) (answer_lines c.facts.inside.answers.items))
