-- The text of a generated job's check: which one it is, the totals, and the verdict.
use Rattle.std.specs.Prelude.{ℕ, Bool, List, [], ◌∷◌, ◌++◌, codes, decimal}
use Rattle.job_counts.specs.declared.totals.Totals.{Totals}
use Rattle.report_text.specs.Verdict.{text_of_lines, total_text, verdict_text}

-- the lines in order: which job, its totals, whether it is clean
abbrev pub selftest_lines : ℕ → Totals → Bool → List (List ℕ)
selftest_lines number totals clean = (codes "clverify selftest " ++ decimal number) ∷ total_text totals ∷ verdict_text clean ∷ []

-- the text of the check of the job with this number
abbrev pub selftest_of : ℕ → Totals → Bool → List ℕ
selftest_of number totals clean = text_of_lines (selftest_lines number totals clean)
