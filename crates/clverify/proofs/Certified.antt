-- A certificate that was made for a move, and a verdict, are those that are due, and what is written of them is true.
use Rattle.std.proofs.Common.{◌≡◌, ℕ, Bool, true, false, List, Option, Some, None, IfSome, Result, Ok, Err, IfOk, ◌↔◌, refl, ap, subst, sym, ◌∙◌}
use Rattle.std.specs.Option.{is_some}
use Rattle.space.specs.Sweeps.{SweepOf}
use Rattle.cutter_slabs.specs.Cutter.{CutterSize}
use Rattle.ray_grid.specs.Grids.{GridSize}
use Rattle.ray_grid.specs.Ranges.{IsGrid}
use Rattle.ray_shapes.specs.declared.solid.Solid.{Solid}
use Rattle.vf_io.specs.declared.answers.NoMemory.{NoMemory}
use Rattle.cert_lines.specs.Certificates.{IsInRange}
use Rattle.cert_lines.specs.Law.{IsCert}
use Rattle.cert_lines.specs.Spelling.{AreAtTheirLines}
use Rattle.cert_lines.specs.declared.cert.Cert.{Cert}
use Rattle.cert_lines.proofs.BackLemmas.{reads_back}
use Rattle.cert_boxes.specs.Made.{may_touch}
use Rattle.cert_boxes.specs.Making.{cert_due}
use Rattle.cert_boxes.specs.Tasks.{CertTask, cert_task}
use Rattle.cert_boxes.specs.Untouched.{IsUntouched}
use Rattle.cert_boxes.specs.Verdicts.{verdict_of}
use Rattle.cert_boxes.specs.declared.verdict.Verdict.{Verdict}
use Rattle.cert_boxes.specs.declared.verdict.Verdict.TheVariants.{Accepted}
use Rattle.report_text.specs.CertAnswers.{cert_verdict_text, made_cert_text}
use Rattle.input_faults.specs.declared.stopped.Stopped.{Stopped}
use Rattle.job_inputs.specs.Asked.{AskedCert, AskedMove, IsNumbered}
use Rattle.clverify.specs.Certificates.{IsMadeFor, IsVerdictOn}
use Rattle.clverify.specs.Commands.Certify.{CertifiesTruly, CountsPossible, EndsWith, IsCertOf, cert_answered, cert_due_of, cert_task_of, certified}
use Rattle.clverify.specs.Commands.Check.{JudgesTruly, cert_judged, is_accepted, verdict_answered}
use Rattle.clverify.specs.Commands.Verify.{status_by}
use Rattle.clverify.specs.Settled.{IsReport}
use Rattle.clverify.specs.declared.reply.Reply.{Reply}
use Rattle.clverify.specs.declared.status.Status.{Status}
use Rattle.clverify.proofs.Counting.{counts_possible}

-- numbers in range and lines in order
valid_of : (grid : GridSize) (made : Option Cert) → IfSome made (IsInRange grid) → IfSome made (λ cert. AreAtTheirLines 3 None cert.cells) → IfSome made (IsCert grid)
valid_of grid None ranges lines = tt
valid_of grid (Some cert) ranges lines = record { ranges = ranges; numbered = lines }

-- what was made for a task, all together
pub made_for : (result : Result (Option Cert) NoMemory) (task : CertTask) (slabs depth : ℕ) → IfOk result (λ made. made ≡ cert_due task slabs depth)
    → IfOk result (λ made. IfSome made (λ cert. verdict_of task cert ≡ Accepted)) → IfOk result (λ made. IfSome made (λ cert. IsUntouched task))
    → IfOk result (λ made. IfSome made (IsInRange task.grid)) → IfOk result (λ made. IfSome made (λ cert. AreAtTheirLines 3 None cert.cells))
    → IfOk result (λ made. (made ≡ None) ↔ (may_touch task slabs depth ≡ true)) → IfOk result (IsMadeFor task slabs depth)
made_for (Ok made) task slabs depth due accepted untouched ranges lines none =
    record { is_due = due; accepted = accepted; untouched = untouched; valid = valid_of task.grid made ranges lines; none = none }
made_for (Err memory) task slabs depth due accepted untouched ranges lines none = tt

-- for a task, slabs and a depth that are the same
pub same_made : (result : Result (Option Cert) NoMemory) (task other : CertTask) (slabs n depth m : ℕ) → task ≡ other → slabs ≡ n → depth ≡ m
    → IfOk result (IsMadeFor task slabs depth) → IfOk result (IsMadeFor other n m)
same_made result task other slabs n depth m same_task same_slabs same_depth made =
    subst (λ (t : CertTask). IfOk result (IsMadeFor t n m)) same_task
    (subst (λ (k : ℕ). IfOk result (IsMadeFor task k m)) same_slabs (subst (λ (k : ℕ). IfOk result (IsMadeFor task slabs k)) same_depth made))

-- a verdict on a certificate for a task, all together
pub verdict_for : (result : Result Verdict NoMemory) (task : CertTask) (cert : Cert) → IfOk result (λ verdict. verdict ≡ verdict_of task cert)
    → IfOk result (λ verdict. verdict ≡ Accepted → IsUntouched task) → IfOk result (IsVerdictOn task cert)
verdict_for (Ok verdict) task cert due untouched = record { is_due = due; untouched = untouched }
verdict_for (Err memory) task cert due untouched = tt

pub same_verdict : (result : Result Verdict NoMemory) (task other : CertTask) (cert : Cert) → task ≡ other → IfOk result (IsVerdictOn task cert)
    → IfOk result (IsVerdictOn other cert)
same_verdict result task other cert same verdict = subst (λ (t : CertTask). IfOk result (IsVerdictOn t cert)) same verdict

-- the task of parts that are the same
pub same_task : (sweep other : SweepOf) (cutter size : CutterSize) (grid lattice : GridSize) (part lowered fixture raised : Solid) → sweep ≡ other → cutter ≡ size
    → grid ≡ lattice → part ≡ lowered → fixture ≡ raised → cert_task sweep cutter grid part fixture ≡ cert_task other size lattice lowered raised
same_task sweep other cutter size grid lattice part lowered fixture raised es ec eg ep ef = λ t. cert_task (es t) (ec t) (eg t) (ep t) (ef t)

-- a yes or no ends with its status
ends_with : (answer : Bool) (status : Status) → status_by answer ≡ status → EndsWith status answer
ends_with true status same = subst (λ (s : Status). EndsWith s true) same refl
ends_with false status same = subst (λ (s : Status). EndsWith s false) same refl

-- a certificate that was made for a move is one of the move
certs_of : (asked : AskedMove) (made : Option Cert) → IsGrid asked.task.job.plan.grid → IfSome made (λ cert. verdict_of (cert_task_of asked) cert ≡ Accepted)
    → IfSome made (λ cert. IsUntouched (cert_task_of asked)) → IfSome made (IsCert asked.task.job.plan.grid) → IfSome made (IsCertOf asked)
certs_of asked None grid accepted untouched valid = tt
certs_of asked (Some cert) grid accepted untouched valid =
    record { accepted = accepted; stands_for = reads_back cert asked.task.job.plan.grid grid valid; untouched = untouched }

-- the answer for a move is the one that is due
pub certifies_due : (report : Result Reply Stopped) (asked : AskedMove) (made : Option Cert)
    → IsMadeFor (cert_task_of asked) asked.task.job.plan.slabs asked.task.job.plan.depth made → IsReport report (cert_answered made) → IsReport report (certified asked)
certifies_due report asked made is due = subst (λ (m : Option Cert). IsReport report (cert_answered m)) is.is_due due

-- and it is true
pub certifies : (report : Result Reply Stopped) (asked : AskedMove) (made : Option Cert) → IsGrid asked.task.job.plan.grid → IsNumbered asked
    → IsMadeFor (cert_task_of asked) asked.task.job.plan.slabs asked.task.job.plan.depth made → IfOk report (λ answer. answer.text.items ≡ made_cert_text made)
    → IsReport report (cert_answered made) → IfOk report (λ answer. CertifiesTruly asked answer.status answer.text.items)
certifies (Ok answer) asked made grid numbered is told due =
    let counts = counts_possible asked numbered in record {
      made = made;
      answer = told;
      is_true = certs_of asked made grid is.accepted is.untouched is.valid;
      none = (λ none. counts.0 (is.none.0 none), λ counted. is.none.1 (counts.1 counted));
      ends = ends_with (is_some made) answer.status (ap (λ d. d.status) due);
    }
certifies (Err stopped) asked made grid numbered is told due = tt

-- the verdict on a certificate for a move is the one that is due
pub judges_due : (report : Result Reply Stopped) (asked : AskedMove) (cert : Cert) (verdict : Verdict) → IsVerdictOn (cert_task_of asked) cert verdict
    → IsReport report (verdict_answered verdict) → IsReport report (cert_judged record { asked = asked; cert = cert })
judges_due report asked cert verdict is due = subst (λ (v : Verdict). IsReport report (verdict_answered v)) is.is_due due

-- and it is true
pub judges : (report : Result Reply Stopped) (asked : AskedMove) (cert : Cert) (verdict : Verdict) → IsVerdictOn (cert_task_of asked) cert verdict
    → IfOk report (λ answer. answer.text.items ≡ cert_verdict_text verdict) → IsReport report (verdict_answered verdict)
    → IfOk report (λ answer. JudgesTruly record { asked = asked; cert = cert } answer.status answer.text.items)
judges (Ok answer) asked cert verdict is told due = record {
  verdict = verdict;
  answer = told;
  is_due = is.is_due;
  untouched = is.untouched;
  ends = ends_with (is_accepted verdict) answer.status (ap (λ d. d.status) due);
}
judges (Err stopped) asked cert verdict is told due = tt
