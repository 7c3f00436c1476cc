-- `selftest N`: a program that is generated from a number is verified with a setup of its own, and what is found is summed up. No
-- file is read.
use Rattle.std.specs.Prelude.{◌≡◌, ℕ, List, [], ◌∷◌, Option, None, codes}
use Rattle.vf_text.specs.Digits.{number_spelt}
use Rattle.job_report.specs.Facts.{JobFacts, is_clean}
use Rattle.job_report.specs.Report.{facts_of}
use Rattle.job_report.specs.Truth.{IsTrueReport}
use Rattle.report_text.specs.Selftest.{selftest_of}
use Rattle.call_words.specs.Words.{Word, Words, within}
use Rattle.clverify.specs.Commands.Verify.{EndsBy, status_by}
use Rattle.clverify.specs.Reply.{Due}
use Rattle.job_inputs.specs.Tasks.{made_task}
use Rattle.clverify.specs.declared.status.Status.{Status}

-- its first word
abbrev pub selftest_name : Word
selftest_name = codes "selftest"

-- the greatest number, and the most digits of one
abbrev pub most_number : ℕ
most_number = 999999

abbrev pub number_places : ℕ
number_places = 6

-- the words after it: a number, and no more
abbrev pub selftest_words : Words → Option ℕ
selftest_words (word ∷ []) = within 0 most_number (number_spelt number_places word)
selftest_words _ = None

-- the facts of a job are summed up
abbrev pub summed_up : ℕ → JobFacts → Due
summed_up number facts = record {
  text = selftest_of number facts.totals (is_clean facts.left);
  status = status_by (is_clean facts.left);
}

-- what is due: what the definitions say of the generated task, summed up
abbrev pub selftest_due : ℕ → Due
selftest_due number = summed_up number (facts_of (made_task number))

-- what is true of a text that it writes: it sums up facts that are true of the generated task, and the status is that of their lines
pub record IsTrueSelftest (number : ℕ) (status : Status) (text : List ℕ) : Type 0 where
  pub facts : JobFacts
  pub summary : text ≡ selftest_of number facts.totals (is_clean facts.left)
  pub is_true : IsTrueReport (made_task number) facts
  pub ends : EndsBy status facts.left
