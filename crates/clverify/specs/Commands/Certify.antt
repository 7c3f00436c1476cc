-- `certify CL SETUP I`: a certificate that a move, counted from 1, touches neither part nor fixtures.
use Rattle.std.specs.Prelude.{◌≡◌, ℕ, ◌+◌, ◌-◌, ◌<◌, ◌↔◌, Bool, true, false, List, [], ◌∷◌, Option, Some, None, IfSome, Result, Ok, codes, slice_get}
use Rattle.std.specs.Option.{is_some}
use Rattle.vf_text.specs.Digits.{number_spelt}
use Rattle.cert_lines.specs.Reading.{cert_of}
use Rattle.cert_lines.specs.Spelling.{text_of_cert}
use Rattle.cert_lines.specs.declared.cert.Cert.{Cert}
use Rattle.cert_boxes.specs.Making.{cert_due}
use Rattle.cert_boxes.specs.Tasks.{CertTask, cert_task}
use Rattle.cert_boxes.specs.Untouched.{IsUntouched}
use Rattle.cert_boxes.specs.Verdicts.{verdict_of}
use Rattle.cert_boxes.specs.declared.verdict.Verdict.TheVariants.{Accepted}
use Rattle.job_report.specs.Report.{facts_of}
use Rattle.job_report.specs.declared.facts.Found.{Found}
use Rattle.report_text.specs.CertAnswers.{made_cert_text}
use Rattle.input_faults.specs.declared.fault.Fault.{Fault}
use Rattle.call_words.specs.Call.{named}
use Rattle.call_words.specs.Words.{Word, Words}
use Rattle.vf_io.specs.Files.{Files, bytes_of}
use Rattle.clverify.specs.Commands.Verify.{status_by}
use Rattle.clverify.specs.Reply.{Due, answer_of}
use Rattle.job_inputs.specs.Asked.{AskedMove, asked_move_of}
use Rattle.clverify.specs.declared.status.Status.{Status}
use Rattle.clverify.specs.declared.status.Status.TheVariants.{Clean, Findings}

-- its first word
abbrev pub certify_name : Word
certify_name = codes "certify"

-- a call that asks for a move: the program's file, the setup's, and the move's number
pub record MoveCall : Type 0 where
  pub file : Word
  pub setup : Word
  pub number : ℕ

-- the most digits of a move's number
abbrev pub move_places : ℕ
move_places = 5

-- a call, where it has all three parts
abbrev pub move_call : Option Word → Option Word → Option ℕ → Option MoveCall
move_call (Some file) (Some setup) (Some number) = Some (record { file = file; setup = setup; number = number })
move_call _ _ _ = None

-- the words after it: two names and a number, and no more
abbrev pub certify_words : Words → Option MoveCall
certify_words (file ∷ setup ∷ number ∷ []) = move_call (named file) (named setup) (number_spelt move_places number)
certify_words _ = None

-- the move that the files that a call names have, with its task, or the first fault
abbrev pub asked_move_in : MoveCall → Files → Result AskedMove Fault
asked_move_in call files = asked_move_of (bytes_of files call.file) (bytes_of files call.setup) call.number

-- what a certificate is judged for: the move as it is made, and the part and the fixtures of its task
abbrev pub cert_task_of : AskedMove → CertTask
cert_task_of asked =
    let job = asked.task.job in cert_task asked.asked.sweep asked.asked.cutter job.plan.grid job.part job.fixture

-- the certificate that is due, by the slabs and the depth of the setup
abbrev pub cert_due_of : AskedMove → Option Cert
cert_due_of asked = cert_due (cert_task_of asked) asked.task.job.plan.slabs asked.task.job.plan.depth

-- the certificate, or that there is none, which is a finding
abbrev pub cert_answered : Option Cert → Due
cert_answered made = record { text = made_cert_text made; status = status_by (is_some made) }

abbrev pub certified : AskedMove → Due
certified asked = cert_answered (cert_due_of asked)

-- what is due: the answer for the move, or the refusal of the first file that has a fault, or of the move's number
abbrev pub certify_due : MoveCall → Files → Due
certify_due call files = answer_of certified (asked_move_in call files)

-- How a call that ends by a yes or a no ends: clean by a yes, with findings by a no. An end that comes from outside says nothing.
abbrev pub EndsWith : Status → Bool → Type 0
EndsWith Clean answer = answer ≡ true
EndsWith Findings answer = answer ≡ false
EndsWith status answer = Unit {0}

-- A certificate for a move: it is accepted, its text stands for it over the grid of the move's task, and the move's upper cutter meets
-- no lattice point of the part or of the fixtures at any rational time.
pub record IsCertOf (asked : AskedMove) (cert : Cert) : Type 0 where
  pub accepted : verdict_of (cert_task_of asked) cert ≡ Accepted
  pub stands_for : cert_of asked.task.job.plan.grid (text_of_cert cert) ≡ Ok cert
  pub untouched : IsUntouched (cert_task_of asked)

-- what `verify` without a script reports of the move has a possible point of the part or of the fixtures
pub record CountsPossible (asked : AskedMove) : Type 0 where
  pub found : Found
  pub reported : slice_get (facts_of asked.task).left (asked.number - 1) ≡ Some found
  pub numbered : found.number ≡ asked.number
  pub some : 0 < found.counts.part_possible + found.counts.fix_possible

-- A true answer for a move: the text is that of a certificate for the move, or that there is none, which is so exactly where `verify`
-- counts a possible point; and the status says which.
pub record CertifiesTruly (asked : AskedMove) (status : Status) (text : List ℕ) : Type 0 where
  pub made : Option Cert
  pub answer : text ≡ made_cert_text made
  pub is_true : IfSome made (IsCertOf asked)
  pub none : (made ≡ None) ↔ CountsPossible asked
  pub ends : EndsWith status (is_some made)

-- what is true of a text that it writes: it is a true answer for the move that the files have
pub record IsTrueCertification (call : MoveCall) (files : Files) (status : Status) (text : List ℕ) : Type 0 where
  pub asked : AskedMove
  pub found : asked_move_in call files ≡ Ok asked
  pub certifies_truly : CertifiesTruly asked status text
