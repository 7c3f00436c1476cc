use Rattle.std.proofs.Common.{◌≡◌, ◌++◌, drop}
use Rattle.report_text.specs.Report.{found_lines}
use Rattle.report_text.specs.Verdict.{text_of_lines}
use Rattle.report_text.proofs.report.write_left.Given as goal

abbrev pub invariant-loop-found : goal.invariant-loop-found
invariant-loop-found l = l.page ++ text_of_lines (found_lines (drop l.found-index l.left)) ≡ l.fn.page ++ text_of_lines (found_lines l.left)
