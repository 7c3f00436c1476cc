use Rattle.laws.proofs.JobWindows.{counts_sum, findings_sum, safe_in_each, totals_sum}
use Rattle.laws.proofs.windows.window_laws.Goals as goal

pub returns-clause-counts : goal.returns-clause-counts
returns-clause-counts c = counts_sum

pub returns-clause-totals : goal.returns-clause-totals
returns-clause-totals c = totals_sum

pub returns-clause-findings : goal.returns-clause-findings
returns-clause-findings c = findings_sum

pub returns-clause-safe : goal.returns-clause-safe
returns-clause-safe c = safe_in_each
