-- `verify CL SETUP [--script F] [--workers N] [--stock F]`: what each move of a cutter location file does to stock, part and fixtures, and
-- whether it is safe.
use Rattle.std.specs.Prelude.{◌≡◌, ℕ, true, false, Bool, All, List, ◌∷◌, ◌++◌, Result, Ok, codes, if◌then◌else◌}
use Rattle.std.specs.List.{Contains}
use Rattle.std.specs.Option.{option_map, option_to_list}
use Rattle.job_counts.specs.Counts.{is_safe}
use Rattle.job_report.specs.Facts.{JobFacts, is_clean}
use Rattle.job_report.specs.Report.{facts_of}
use Rattle.job_report.specs.Tasks.{Task}
use Rattle.job_report.specs.Truth.{IsTrueReport}
use Rattle.job_report.specs.declared.facts.Found.{Found}
use Rattle.report_text.specs.Report.{report_of}
use Rattle.input_faults.specs.declared.fault.Fault.{Fault}
use Rattle.call_words.specs.Call.{VerifyCall}
use Rattle.call_words.specs.Words.{Word, Words}
use Rattle.vf_io.specs.Files.{Files, bytes_of}
use Rattle.clverify.specs.Reply.{Due, answer_of}
use Rattle.job_inputs.specs.Tasks.{task_of}
use Rattle.clverify.specs.declared.status.Status.{Status}
use Rattle.clverify.specs.declared.status.Status.TheVariants.{Clean, Findings}

-- its first word
abbrev pub verify_name : Word
verify_name = codes "verify"

-- the files that a call of it names, in the order in which they are read
abbrev pub names_of : VerifyCall → Words
names_of call = call.file ∷ call.setup ∷ (option_to_list call.stock ++ option_to_list call.script)

-- the task that the files that a call names stand for, or the first fault
abbrev pub task_in : VerifyCall → Files → Result Task Fault
task_in call files =
    task_of (bytes_of files call.file) (bytes_of files call.setup) (option_map (bytes_of files) call.stock)
    (option_map (bytes_of files) call.script)

-- findings, where some move that is left isn't safe
abbrev pub status_by : Bool → Status
status_by clean = if clean then Clean else Findings

-- the facts of a job are reported
abbrev pub reported : JobFacts → Due
reported facts = record { text = report_of facts; status = status_by (is_clean facts.left) }

-- a task is verified: what the definitions say of it is reported
abbrev pub verified : Task → Due
verified task = reported (facts_of task)

-- what is due: the report, or the refusal of the first file that has a fault; how many workers there are changes nothing
abbrev pub verify_due : VerifyCall → Files → Due
verify_due call files = answer_of verified (task_in call files)

-- How a check ends by what its lines say: clean where each says safe, with findings where some line doesn't. An end that comes from
-- outside says nothing of them.
abbrev pub EndsBy : Status → List Found → Type 0
EndsBy Clean lines = All (λ (found : Found). is_safe found.counts ≡ true) lines
EndsBy Findings lines = (found : Found) × Contains lines found × (is_safe found.counts ≡ false)
EndsBy status lines = Unit {0}

-- A true report of a task: the text says some facts, what they say is true of the task, line by line, and the status is that of the
-- lines.
pub record ReportsTruly (task : Task) (status : Status) (text : List ℕ) : Type 0 where
  pub facts : JobFacts
  pub report : text ≡ report_of facts
  pub is_true : IsTrueReport task facts
  pub ends : EndsBy status facts.left

-- what is true of a text that it writes: it is a true report of the task that the files stand for
pub record IsTrueVerification (call : VerifyCall) (files : Files) (status : Status) (text : List ℕ) : Type 0 where
  pub task : Task
  pub stands_for : task_in call files ≡ Ok task
  pub reports_truly : ReportsTruly task status text
