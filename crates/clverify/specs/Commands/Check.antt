-- `check CL SETUP I CERT`: whether a certificate shows that a move, counted from 1, touches neither part nor fixtures.
use Rattle.std.specs.Prelude.{◌≡◌, ℕ, Bool, true, false, List, [], ◌∷◌, Option, Some, None, Result, Ok, codes}
use Rattle.vf_text.specs.Digits.{number_spelt}
use Rattle.cert_lines.specs.declared.cert.Cert.{Cert}
use Rattle.cert_boxes.specs.Untouched.{IsUntouched}
use Rattle.cert_boxes.specs.Verdicts.{verdict_of}
use Rattle.cert_boxes.specs.declared.verdict.Verdict.{Verdict}
use Rattle.cert_boxes.specs.declared.verdict.Verdict.TheVariants.{Accepted}
use Rattle.report_text.specs.CertAnswers.{cert_verdict_text}
use Rattle.input_faults.specs.declared.fault.Fault.{Fault}
use Rattle.call_words.specs.Call.{named}
use Rattle.call_words.specs.Words.{Word, Words}
use Rattle.vf_io.specs.Files.{Files, bytes_of}
use Rattle.clverify.specs.Commands.Certify.{EndsWith, MoveCall, cert_task_of, move_call, move_places}
use Rattle.clverify.specs.Commands.Verify.{status_by}
use Rattle.clverify.specs.Reply.{Due, answer_of}
use Rattle.job_inputs.specs.Asked.{AskedCert, AskedMove, asked_cert_of}
use Rattle.clverify.specs.declared.status.Status.{Status}

-- its first word
abbrev pub check_name : Word
check_name = codes "check"

-- a call that asks for a move, and names the file of a certificate
pub record CheckCall : Type 0 where
  pub move_asked : MoveCall
  pub cert : Word

-- a call, where it has both parts
abbrev pub check_call : Option MoveCall → Option Word → Option CheckCall
check_call (Some call) (Some cert) = Some (record { move_asked = call; cert = cert })
check_call _ _ = None

-- the words after it: two names, a number and a name, and no more
abbrev pub check_words : Words → Option CheckCall
check_words (file ∷ setup ∷ number ∷ cert ∷ []) =
    check_call (move_call (named file) (named setup) (number_spelt move_places number)) (named cert)
check_words _ = None

-- the move that is asked for, and the certificate, or the first fault
abbrev pub cert_in : CheckCall → Files → Result AskedCert Fault
cert_in call files =
    asked_cert_of (bytes_of files call.move_asked.file) (bytes_of files call.move_asked.setup) call.move_asked.number
    (bytes_of files call.cert)

abbrev pub is_accepted : Verdict → Bool
is_accepted Accepted = true
is_accepted _ = false

-- the verdict; one that the certificate isn't accepted by is a finding
abbrev pub verdict_answered : Verdict → Due
verdict_answered verdict = record { text = cert_verdict_text verdict; status = status_by (is_accepted verdict) }

abbrev pub cert_judged : AskedCert → Due
cert_judged given = verdict_answered (verdict_of (cert_task_of given.asked) given.cert)

-- what is due: the verdict, or the refusal of the first file that has a fault, or of the move's number
abbrev pub check_due : CheckCall → Files → Due
check_due call files = answer_of cert_judged (cert_in call files)

-- A true verdict on a certificate for a move: the text says the verdict, which is the one that is due, and the status says whether it
-- is accepted. Where it is, the move's upper cutter meets no lattice point of the part or of the fixtures at any rational time.
pub record JudgesTruly (given : AskedCert) (status : Status) (text : List ℕ) : Type 0 where
  pub verdict : Verdict
  pub answer : text ≡ cert_verdict_text verdict
  pub is_due : verdict ≡ verdict_of (cert_task_of given.asked) given.cert
  pub untouched : verdict ≡ Accepted → IsUntouched (cert_task_of given.asked)
  pub ends : EndsWith status (is_accepted verdict)

-- a true verdict on the certificate that was read
pub record IsTrueVerdict (read : Result AskedCert Fault) (status : Status) (text : List ℕ) : Type 0 where
  pub given : AskedCert
  pub found : read ≡ Ok given
  pub judges_truly : JudgesTruly given status text

-- what is true of a text that it writes: it is a true verdict on the certificate that the files have
abbrev pub IsTrueCheck : CheckCall → Files → Status → List ℕ → Type 0
IsTrueCheck call files status text = IsTrueVerdict (cert_in call files) status text
