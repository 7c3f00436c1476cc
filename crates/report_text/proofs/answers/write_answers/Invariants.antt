use Rattle.std.proofs.Common.{◌≡◌, ◌++◌, drop}
use Rattle.std.specs.Prelude.{IsTrue}
use Rattle.job_report.specs.Facts.{are_answered}
use Rattle.report_text.specs.Report.{answer_lines}
use Rattle.report_text.specs.Verdict.{text_of_lines}
use Rattle.report_text.proofs.answers.write_answers.Given as goal

abbrev pub invariant-loop-answered : goal.invariant-loop-answered
invariant-loop-answered l = record {
  written : l.page ++ text_of_lines (answer_lines (drop l.answered-index l.answers)) ≡ l.fn.page ++ text_of_lines (answer_lines l.answers);
  answered : IsTrue (are_answered (drop l.answered-index l.answers));
}
