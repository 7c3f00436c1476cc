-- The report of a job: the moves that are left with what was found of each, the answers, the totals, and the verdict.
use Rattle.std.specs.Prelude.{ℕ, List, [], ◌∷◌, ◌++◌, length, map, codes, decimal, if◌then◌else◌}
use Rattle.edit_plan.specs.declared.query.Ask.{Ask}
use Rattle.job_counts.specs.declared.counts.Counts.{Counts}
use Rattle.job_report.specs.declared.facts.Found.{Found}
use Rattle.job_counts.specs.declared.totals.Answer.{Answer}
use Rattle.job_counts.specs.Counts.{is_safe}
use Rattle.job_report.specs.Facts.{JobFacts, is_clean}
use Rattle.report_text.specs.Answers.{answer_text}
use Rattle.report_text.specs.Listing.{move_head}
use Rattle.report_text.specs.Verdict.{text_of_lines, total_text, verdict_text}

-- how many moves there are, how many are left, and how many records were passed over
abbrev pub heading_text : ℕ → ℕ → ℕ → List ℕ
heading_text moves left passed =
    codes "moves " ++ decimal moves ++ codes " left " ++ decimal left ++ codes " passed " ++ decimal passed

-- two counts: the points that are sure, and those that are possible
abbrev pub pair_text : ℕ → ℕ → List ℕ
pair_text sure possible = decimal sure ++ codes " " ++ decimal possible

-- the stock points that a move removes and that it only may, and those of part, fixture and rapid motion
abbrev pub counts_text : Counts → List ℕ
counts_text counts =
    codes " removed " ++ decimal counts.removed ++ codes " possible " ++ decimal counts.possible
    ++ codes " part " ++ pair_text counts.part_sure counts.part_possible
    ++ codes " fixture " ++ pair_text counts.fix_sure counts.fix_possible
    ++ codes " rapid " ++ pair_text counts.rapid_sure counts.rapid_possible

-- whether a move of these counts is safe
abbrev pub safe_text : Counts → List ℕ
safe_text counts = if is_safe counts then codes " safe" else codes " unsafe"

-- a move that is left, and what was found of it
abbrev pub found_text : Found → List ℕ
found_text found = move_head found.number found.line found.rapid ++ counts_text found.counts ++ safe_text found.counts

-- the lines of the moves, and of the questions with their answers, in order
abbrev pub found_lines : List Found → List (List ℕ)
found_lines left = map found_text left

abbrev pub answer_lines : List (Ask × Answer) → List (List ℕ)
answer_lines answers = map (λ (answered : Ask × Answer). answer_text answered.0 answered.1) answers

-- all lines in order
abbrev pub report_lines : JobFacts → List (List ℕ)
report_lines facts =
    codes "clverify 1" ∷ heading_text facts.moves (length facts.left) facts.passed
    ∷ (found_lines facts.left ++ answer_lines facts.answers ++ total_text facts.totals ∷ verdict_text (is_clean facts.left) ∷ [])

-- the report of a job
abbrev pub report_of : JobFacts → List ℕ
report_of facts = text_of_lines (report_lines facts)
