-- A move and a certificate that were read are those that a call's files have, and so is what is answered of them.
use Rattle.std.proofs.Common.{◌≡◌, List, ℕ, Option, Some, None, Result, Ok, Err, IfOk, IfSome, ap, subst, sym}
use Rattle.vf_io.specs.Files.{Files, bytes_of}
use Rattle.ray_grid.specs.Grids.{GridSize}
use Rattle.cert_lines.specs.declared.cert.Cert.{Cert}
use Rattle.input_faults.specs.declared.fault.Fault.{Fault}
use Rattle.input_faults.specs.declared.stopped.Stopped.{Stopped}
use Rattle.input_faults.specs.declared.stopped.Stopped.TheVariants.{Refused, ReadFault, NoMemory}
use Rattle.job_inputs.specs.Asked.{AskedCert, AskedMove, cert_for, cert_read_of}
use Rattle.job_inputs.specs.Inputs.{◌>>=◌, GivesInput}
use Rattle.clverify.specs.Commands.Certify.{CertifiesTruly, IsTrueCertification, MoveCall, asked_move_in, certified, certify_due}
use Rattle.clverify.specs.Commands.Check.{CheckCall, IsTrueCheck, IsTrueVerdict, JudgesTruly, cert_judged, check_due}
use Rattle.clverify.specs.Reply.{answer_of}
use Rattle.clverify.specs.Settled.{IsReport}
use Rattle.clverify.specs.declared.reply.Reply.{Reply}

-- the answer for the move is the one that is due
pub answer_of_move : (files : Option Files) (call : MoveCall) (asked : AskedMove) (report : Result Reply Stopped)
    → IfSome files (λ told. asked_move_in call told ≡ Ok asked) → IsReport report (certified asked) → IfSome files (λ told. IsReport report (certify_due call told))
answer_of_move None call asked report found due = tt
answer_of_move (Some told) call asked report found due = subst (λ (input : Result AskedMove Fault). IsReport report (answer_of certified input)) (sym found) due

-- it is true of what the files have
pub true_of_move : (files : Option Files) (call : MoveCall) (asked : AskedMove) (report : Result Reply Stopped)
    → IfSome files (λ told. asked_move_in call told ≡ Ok asked) → IfOk report (λ answer. CertifiesTruly asked answer.status answer.text.items)
    → IfSome files (λ told. IfOk report (λ answer. IsTrueCertification call told answer.status answer.text.items))
true_of_move None call asked report found truly = tt
true_of_move (Some told) call asked (Ok answer) found truly = record { asked = asked; found = found; certifies_truly = truly }
true_of_move (Some told) call asked (Err stopped) found truly = tt

-- what stops the reading is the refusal that is due
pub fault_of_move : (files : Option Files) (call : MoveCall) (stopped : Stopped)
    → IfSome files (λ told. GivesInput {T = AskedMove} (Err stopped) (asked_move_in call told)) → IfSome files (λ told. IsReport (Err stopped) (certify_due call told))
fault_of_move None call stopped read = tt
fault_of_move (Some told) call (Refused fault) read = ap (answer_of certified) read
fault_of_move (Some told) call ReadFault read = tt
fault_of_move (Some told) call NoMemory read = tt

-- the certificate's file is read after those of the move, and the files stay
pub verdict_after : (files later : Option Files) (call : CheckCall) (asked : AskedMove) (report : Result Reply Stopped) → later ≡ files
    → IfSome files (λ told. asked_move_in call.move_asked told ≡ Ok asked)
    → IfSome later (λ told. IsReport report (answer_of cert_judged (cert_for (bytes_of told call.cert) asked)))
    → IfSome files (λ told. IsReport report (check_due call told))
verdict_after None later call asked report same found due = tt
verdict_after (Some told) later call asked report same found due =
    subst (λ (input : Result AskedMove Fault). IsReport report (answer_of cert_judged (input >>= cert_for (bytes_of told call.cert)))) (sym found)
    (subst (λ (files : Option Files). IfSome files (λ seen. IsReport report (answer_of cert_judged (cert_for (bytes_of seen call.cert) asked)))) same due)

pub true_after : (files later : Option Files) (call : CheckCall) (asked : AskedMove) (report : Result Reply Stopped) → later ≡ files
    → IfSome files (λ told. asked_move_in call.move_asked told ≡ Ok asked)
    → IfSome later (λ told. IfOk report (λ answer. IsTrueVerdict (cert_for (bytes_of told call.cert) asked) answer.status answer.text.items))
    → IfSome files (λ told. IfOk report (λ answer. IsTrueCheck call told answer.status answer.text.items))
true_after None later call asked report same found truly = tt
true_after (Some told) later call asked report same found truly =
    subst (λ (input : Result AskedMove Fault). IfOk report (λ answer. IsTrueVerdict (input >>= cert_for (bytes_of told call.cert)) answer.status answer.text.items)) (sym found)
    (subst (λ (files : Option Files). IfSome files (λ seen. IfOk report (λ answer. IsTrueVerdict (cert_for (bytes_of seen call.cert) asked) answer.status answer.text.items))) same truly)

-- what stops the reading of the move stops it all
pub move_stopped : (files : Option Files) (call : CheckCall) (stopped : Stopped)
    → IfSome files (λ told. GivesInput {T = AskedMove} (Err stopped) (asked_move_in call.move_asked told)) → IfSome files (λ told. IsReport (Err stopped) (check_due call told))
move_stopped None call stopped read = tt
move_stopped (Some told) call (Refused fault) read = ap (λ (input : Result AskedMove Fault). answer_of cert_judged (input >>= cert_for (bytes_of told call.cert))) read
move_stopped (Some told) call ReadFault read = tt
move_stopped (Some told) call NoMemory read = tt

-- what is read of a certificate's file, with the move
abbrev with_move : AskedMove → Result Cert Fault → Result AskedCert Fault
with_move asked read = read >>= (λ cert. Ok (record { asked = asked; cert = cert }))

-- the certificate that was read over the move's grid
read_for : (asked : AskedMove) (grid : GridSize) (bytes : List ℕ) (read : Result Cert Fault) → grid ≡ asked.task.job.plan.grid → cert_read_of grid bytes ≡ read
    → cert_for bytes asked ≡ with_move asked read
read_for asked grid bytes read same is = subst (λ (g : GridSize). with_move asked (cert_read_of g bytes) ≡ with_move asked read) same (ap (with_move asked) is)

pub verdict_of_read : (files : Option Files) (name : List ℕ) (asked : AskedMove) (grid : GridSize) (cert : Cert) (report : Result Reply Stopped) → grid ≡ asked.task.job.plan.grid
    → IfSome files (λ told. cert_read_of grid (bytes_of told name) ≡ Ok cert) → IsReport report (cert_judged record { asked = asked; cert = cert })
    → IfSome files (λ told. IsReport report (answer_of cert_judged (cert_for (bytes_of told name) asked)))
verdict_of_read None name asked grid cert report same read due = tt
verdict_of_read (Some told) name asked grid cert report same read due =
    subst (λ (input : Result AskedCert Fault). IsReport report (answer_of cert_judged input)) (sym (read_for asked grid (bytes_of told name) (Ok cert) same read)) due

pub true_of_cert : (files : Option Files) (name : List ℕ) (asked : AskedMove) (grid : GridSize) (cert : Cert) (report : Result Reply Stopped) → grid ≡ asked.task.job.plan.grid
    → IfSome files (λ told. cert_read_of grid (bytes_of told name) ≡ Ok cert)
    → IfOk report (λ answer. JudgesTruly record { asked = asked; cert = cert } answer.status answer.text.items)
    → IfSome files (λ told. IfOk report (λ answer. IsTrueVerdict (cert_for (bytes_of told name) asked) answer.status answer.text.items))
true_of_cert None name asked grid cert report same read truly = tt
true_of_cert (Some told) name asked grid cert (Ok answer) same read truly =
    record { given = record { asked = asked; cert = cert }; found = read_for asked grid (bytes_of told name) (Ok cert) same read; judges_truly = truly }
true_of_cert (Some told) name asked grid cert (Err stopped) same read truly = tt

pub cert_stopped : (files : Option Files) (name : List ℕ) (asked : AskedMove) (grid : GridSize) (stopped : Stopped) → grid ≡ asked.task.job.plan.grid
    → IfSome files (λ told. GivesInput {T = Cert} (Err stopped) (cert_read_of grid (bytes_of told name)))
    → IfSome files (λ told. IsReport (Err stopped) (answer_of cert_judged (cert_for (bytes_of told name) asked)))
cert_stopped None name asked grid stopped same read = tt
cert_stopped (Some told) name asked grid (Refused fault) same read = ap (answer_of cert_judged) (read_for asked grid (bytes_of told name) (Err fault) same read)
cert_stopped (Some told) name asked grid ReadFault same read = tt
cert_stopped (Some told) name asked grid NoMemory same read = tt
