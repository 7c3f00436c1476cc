-- A task that was read is the one that a call's files stand for, and so is its report.
use Rattle.std.proofs.Common.{◌≡◌, Option, Some, None, Result, Ok, Err, IfOk, IfSome, ap, subst, sym}
use Rattle.vf_io.specs.Files.{Files}
use Rattle.input_faults.specs.declared.fault.Fault.{Fault}
use Rattle.job_report.specs.Tasks.{Task}
use Rattle.job_inputs.specs.Inputs.{GivesInput}
use Rattle.input_faults.specs.declared.stopped.Stopped.{Stopped}
use Rattle.input_faults.specs.declared.stopped.Stopped.TheVariants.{Refused, ReadFault, NoMemory}
use Rattle.call_words.specs.Call.{VerifyCall}
use Rattle.clverify.specs.Commands.Verify.{IsTrueVerification, ReportsTruly, task_in, verified, verify_due}
use Rattle.clverify.specs.Reply.{answer_of}
use Rattle.clverify.specs.Settled.{IsReport}
use Rattle.clverify.specs.declared.reply.Reply.{Reply}

-- the report of the task is the one that is due
pub report_of_read : (files : Option Files) (call : VerifyCall) (task : Task) (report : Result Reply Stopped)
    → IfSome files (λ told. task_in call told ≡ Ok task) → IsReport report (verified task) → IfSome files (λ told. IsReport report (verify_due call told))
report_of_read None call task report read due = tt
report_of_read (Some told) call task report read due = subst (λ (input : Result Task Fault). IsReport report (answer_of verified input)) (sym read) due

-- it is true of what the files stand for
pub true_of_read : (files : Option Files) (call : VerifyCall) (task : Task) (report : Result Reply Stopped)
    → IfSome files (λ told. task_in call told ≡ Ok task) → IfOk report (λ answer. ReportsTruly task answer.status answer.text.items)
    → IfSome files (λ told. IfOk report (λ answer. IsTrueVerification call told answer.status answer.text.items))
true_of_read None call task report read truly = tt
true_of_read (Some told) call task (Ok answer) read truly = record { task = task; stands_for = read; reports_truly = truly }
true_of_read (Some told) call task (Err stopped) read truly = tt

-- what stops the reading is the refusal that is due
pub fault_of_read : (files : Option Files) (call : VerifyCall) (stopped : Stopped)
    → IfSome files (λ told. GivesInput {T = Task} (Err stopped) (task_in call told)) → IfSome files (λ told. IsReport (Err stopped) (verify_due call told))
fault_of_read None call stopped read = tt
fault_of_read (Some told) call (Refused fault) read = ap (answer_of verified) read
fault_of_read (Some told) call ReadFault read = tt
fault_of_read (Some told) call NoMemory read = tt
