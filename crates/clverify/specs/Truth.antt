-- Soundness: what is true of the text that a command wrote.
use Rattle.std.specs.Prelude.{◌≡◌, ◌⊎◌, ℕ, List, Option, Some}
use Rattle.std.specs.Io.KnownBytes.{Appends}
use Rattle.report_text.specs.Refusals.{refusal_of}
use Rattle.input_faults.specs.declared.fault.Fault.{Fault}
use Rattle.vf_io.specs.Bytes.{AppendsFront}
use Rattle.vf_io.specs.Files.{Files, bytes_of}
use Rattle.clverify.specs.Reply.{refused}
use Rattle.clverify.specs.Commands.{Command, certify_move, check_cert, list_moves, mark_moves, save_stock, self_test, verify_moves}
use Rattle.clverify.specs.Commands.Certify.{IsTrueCertification}
use Rattle.clverify.specs.Commands.Check.{IsTrueCheck}
use Rattle.clverify.specs.Commands.List.{IsTrueListing}
use Rattle.clverify.specs.Commands.Point.{IsTrueMarking}
use Rattle.clverify.specs.Commands.Save.{IsTrueSaving}
use Rattle.clverify.specs.Commands.Selftest.{IsTrueSelftest}
use Rattle.clverify.specs.Commands.Verify.{IsTrueVerification}
use Rattle.clverify.specs.Due.{command_due}
use Rattle.clverify.specs.declared.status.Status.{Status}
use Rattle.clverify.specs.declared.status.Status.TheVariants.{Clean, Findings, WriteFault}

-- a listing, marks and a saved stock come without findings
abbrev pub HasNoFindings : Status → Type 0
HasNoFindings Findings = ⊥
HasNoFindings status = Unit {0}

-- the text of a command that was carried out, and ended with this status, is a true one
abbrev pub IsTrueText : Status → Files → Command → List ℕ → Type 0
IsTrueText status files (list_moves file) text = HasNoFindings status × IsTrueListing (bytes_of files file) text
IsTrueText status files (mark_moves file question) text = HasNoFindings status × IsTrueMarking question (bytes_of files file) text
IsTrueText status files (verify_moves call) text = IsTrueVerification call files status text
IsTrueText status files (self_test number) text = IsTrueSelftest number status text
IsTrueText status files (certify_move call) text = IsTrueCertification call files status text
IsTrueText status files (check_cert call) text = IsTrueCheck call files status text
IsTrueText status files (save_stock call) text = HasNoFindings status × IsTrueSaving call files text

-- the text is the one line that a command's files are refused with
pub record IsRefusal (files : Files) (command : Command) (text : List ℕ) : Type 0 where
  pub fault : Fault
  pub is_due : command_due (Some files) command ≡ Some (refused fault)
  pub is_line : text ≡ refusal_of fault

-- Where the files are known: a command that ends Clean or with Findings wrote a true text, whole, that says so; one that ends by a
-- fault of writing wrote a front of a true text, or of the line that its files are refused with.
abbrev pub TellsTruth : Status → Option Files → Option Command → Option (List ℕ) → Option (List ℕ) → Type 0
TellsTruth Clean (Some files) (Some command) old new = (text : List ℕ) × IsTrueText Clean files command text × Appends old new text
TellsTruth Findings (Some files) (Some command) old new = (text : List ℕ) × IsTrueText Findings files command text × Appends old new text
TellsTruth WriteFault (Some files) (Some command) old new =
    (text : List ℕ) × (IsTrueText WriteFault files command text ⊎ IsRefusal files command text) × AppendsFront old new text
TellsTruth status files command old new = Unit {0}
