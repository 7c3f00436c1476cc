-- What is reported of a valid task is true.
use Rattle.std.proofs.Common.{◌≡◌, List, length, take, sum_by, refl, sym, subst, arith}
use Rattle.std.proofs.lemmas.List.{take_all}
use Rattle.std.proofs.lemmas.List.Sums.{AllPass-from_list_all, list_all-from_AllPass}
use Rattle.edit_plan.specs.Edits.{left_of}
use Rattle.edit_plan.specs.declared.edit.Edit.{Edit}
use Rattle.job_counts.specs.Counts.{is_safe}
use Rattle.job_model.specs.Points.{is_possible, is_sure, moves_of, totals_after}
use Rattle.job_report.specs.Counted.{AreTotals}
use Rattle.job_report.specs.Report.{facts_of}
use Rattle.job_report.specs.Tasks.{IsTask, Task}
use Rattle.job_report.specs.Truth.{IsTrueReport}
use Rattle.job_report.specs.declared.facts.Found.{Found}
use Rattle.job_report.proofs.Answering.{true_answers, true_totals}
use Rattle.job_report.proofs.Judged.{judge_of, right_judge}
use Rattle.job_report.proofs.Lined.{true_lines}
use Rattle.job_report.proofs.Named.{left_named}
use Rattle.job_report.proofs.Summed.{summed_all}

-- all edits are as many of the first as there are
pub all_edits : (edits : List Edit) → take (length edits) edits ≡ edits
all_edits edits = take_all (length edits) edits (omega arith)

pub true_report : (task : Task) → IsTask task → IsTrueReport task (facts_of task)
true_report task valid =
    let job = task.job in
    let edits = job.plan.edits in
    let numbers = left_of edits in
    let facts = facts_of task in
    record {
      judge = judge_of job.plan;
      right = right_judge job.plan valid.plan;
      moves = refl;
      passed = refl;
      lines = true_lines job numbers valid.plan (left_named (length job.plan.moves) edits valid.named);
      answers = true_answers job task.queries valid.plan;
      totals = subst (λ (es : List Edit). AreTotals job (judge_of job.plan) (moves_of job.plan numbers) (totals_after job (moves_of job.plan (left_of es))))
          (sym (all_edits edits)) (true_totals job (moves_of job.plan numbers));
      removed = subst (λ (es : List Edit). sum_by (λ (found : Found). found.counts.removed) facts.left ≡ (totals_after job (moves_of job.plan (left_of es))).removed)
          (sym (all_edits edits)) (summed_all job (is_sure job.plan) (λ found. found.counts.removed) (λ before number move. refl) numbers);
      possible = subst (λ (es : List Edit). sum_by (λ (found : Found). found.counts.possible) facts.left ≡ (totals_after job (moves_of job.plan (left_of es))).possible)
          (sym (all_edits edits)) (summed_all job (is_possible job.plan) (λ found. found.counts.possible) (λ before number move. refl) numbers);
      clean = (AllPass-from_list_all (λ (found : Found). is_safe found.counts) facts.left, list_all-from_AllPass (λ (found : Found). is_safe found.counts) facts.left);
    }
