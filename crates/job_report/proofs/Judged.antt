-- The marks of a plan are a judge that is right about its moves.
use Rattle.std.proofs.lemmas.List.Elements.{All-contains}
use Rattle.job_model.specs.Points.{is_possible, is_sure}
use Rattle.job_model.specs.Tasks.{IsJobMove, IsPlan, PlanOf}
use Rattle.job_model.proofs.Safe.{out_not_met, sure_is_possible, sure_met}
use Rattle.job_report.specs.Judges.{IsRight, Judge}

-- the judge by the marks
abbrev pub judge_of : PlanOf → Judge
judge_of plan = record { sure = is_sure plan; possible = is_possible plan }

pub right_judge : (plan : PlanOf) → IsPlan plan → IsRight plan.moves (judge_of plan)
right_judge plan valid = record {
  sure = λ move point among sure. sure_met plan move point valid.some (All-contains IsJobMove plan.moves move valid.moves among) sure;
  sure_possible = λ move point among sure. sure_is_possible plan move point valid.some (All-contains IsJobMove plan.moves move valid.moves among) sure;
  not_possible = λ move point among out. out_not_met plan move point valid.some (All-contains IsJobMove plan.moves move valid.moves among) out;
}
