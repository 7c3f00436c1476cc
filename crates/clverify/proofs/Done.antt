-- The facts of a task that was made ready are its facts, and what is written of them is true.
use Rattle.std.proofs.Common.{◌≡◌, true, false, ℕ, suc, Bool, List, [], ◌∷◌, Result, Ok, Err, IfOk, arith, refl, subst, sym, ap, ⊎_elim}
use Rattle.std.specs.List.{Contains, list_all}
use Rattle.std.proofs.lemmas.Bool.{and_cases, cases_Bool}
use Rattle.std.proofs.lemmas.List.Sums.{AllPass-from_list_all}
use Rattle.job_counts.specs.Counts.{is_safe}
use Rattle.job_report.specs.Facts.{JobFacts, is_clean}
use Rattle.job_report.specs.Report.{facts_of}
use Rattle.job_report.specs.Tasks.{IsTask, Task}
use Rattle.job_report.specs.Truth.{IsTrueReport}
use Rattle.job_report.specs.declared.facts.Found.{Found}
use Rattle.job_report.proofs.True.{true_report}
use Rattle.report_text.specs.Report.{report_of}
use Rattle.report_text.specs.Selftest.{selftest_of}
use Rattle.vf_io.specs.declared.answers.NoMemory.{NoMemory}
use Rattle.clverify.specs.Commands.Selftest.{IsTrueSelftest, summed_up}
use Rattle.clverify.specs.Commands.Verify.{EndsBy, ReportsTruly, reported, status_by}
use Rattle.clverify.specs.Settled.{IsReport}
use Rattle.clverify.specs.declared.reply.Reply.{Reply}
use Rattle.clverify.specs.declared.status.Status.{Status}
use Rattle.job_inputs.specs.Tasks.{made_task}
use Rattle.input_faults.specs.declared.stopped.Stopped.{Stopped}

-- the facts of a task that is the same
pub facts_made : (done : Result JobFacts NoMemory) (made task : Task) → IfOk done (λ facts. facts ≡ facts_of made) → made ≡ task → IfOk done (λ facts. facts ≡ facts_of task)
facts_made done made task facts same = subst (λ (t : Task). IfOk done (λ facts. facts ≡ facts_of t)) same facts

-- a task that is the same is valid too
pub task_made : (done : Result JobFacts NoMemory) (made task : Task) → IsTask made → made ≡ task → IfOk done (λ _. IsTask task)
task_made (Ok facts) made task valid same = subst IsTask same valid
task_made (Err memory) made task valid same = tt

-- where not all pass a test, some doesn't
some_fails : {X : Type 0} (p : X → Bool) (xs : List X) → list_all p xs ≡ false → (x : X) × Contains xs x × (p x ≡ false)
some_fails p [] h = cc
some_fails p (x ∷ xs) h =
    ⊎_elim (λ here. (x, (0, omega arith, refl), here)) (λ later. let found = some_fails p xs later in (found.0, (suc found.1.0, omega (arith, found.1.1), found.1.2), found.2))
    (and_cases (p x) (list_all p xs) h)

-- the status is that of the lines
ends_by : (lines : List Found) → EndsBy (status_by (is_clean lines)) lines
ends_by lines =
    ⊎_elim (λ clean. subst (λ (b : Bool). EndsBy (status_by b) lines) (sym clean) (AllPass-from_list_all (λ (found : Found). is_safe found.counts) lines clean))
    (λ found. subst (λ (b : Bool). EndsBy (status_by b) lines) (sym found) (some_fails (λ (found : Found). is_safe found.counts) lines found)) (cases_Bool (is_clean lines))

-- so is that of an answer
answer_ends : (lines : List Found) (status : Status) → status_by (is_clean lines) ≡ status → EndsBy status lines
answer_ends lines status same = subst (λ (s : Status). EndsBy s lines) same (ends_by lines)

-- what is said of a valid task is true
facts_true : (task : Task) (facts : JobFacts) → facts ≡ facts_of task → IsTask task → IsTrueReport task facts
facts_true task facts same valid = subst (IsTrueReport task) (sym same) (true_report task valid)

-- a report of the facts of a valid task is a true one
pub report_is_true : (report : Result Reply Stopped) (task : Task) (facts : JobFacts) → facts ≡ facts_of task → IsTask task
    → IfOk report (λ answer. answer.text.items ≡ report_of facts) → IsReport report (reported facts) → IfOk report (λ answer. ReportsTruly task answer.status answer.text.items)
report_is_true (Ok answer) task facts same valid told due =
    record { facts = facts; report = told; is_true = facts_true task facts same valid; ends = answer_ends facts.left answer.status (ap (λ d. d.status) due) }
report_is_true (Err stopped) task facts same valid told due = tt

-- and so is a summary of the facts of the generated task
pub sums_truly : (report : Result Reply Stopped) (number : ℕ) (facts : JobFacts) → facts ≡ facts_of (made_task number) → IsTask (made_task number)
    → IfOk report (λ answer. answer.text.items ≡ selftest_of number facts.totals (is_clean facts.left)) → IsReport report (summed_up number facts)
    → IfOk report (λ answer. IsTrueSelftest number answer.status answer.text.items)
sums_truly (Ok answer) number facts same valid told due =
    record { facts = facts; summary = told; is_true = facts_true (made_task number) facts same valid; ends = answer_ends facts.left answer.status (ap (λ d. d.status) due) }
sums_truly (Err stopped) number facts same valid told due = tt
