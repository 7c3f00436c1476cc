use Rattle.std.proofs.Common.{◌≡◌, ◌++◌, codes, decimal}
use Rattle.report_text.specs.Verdict.{total_text, verdict_text}
use Rattle.report_text.proofs.Lines.{three_lines}
use Rattle.report_text.proofs.selftest.selftest_text.Goals as goal

pub returns : goal.returns
returns c =
    rw (c.into_vec.ensures, c.in_ok-write_verdict.ensures, c.in_ok-write_total.ensures, c.in_ok-end_line.ensures, c.in_ok-write_counted.ensures, c.new-page.ensures)
    (three_lines (codes "clverify selftest " ++ decimal c.args.number) (total_text c.args.totals.now) (verdict_text c.args.clean))
