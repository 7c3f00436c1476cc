-- What the report of a job says.
use Rattle.std.specs.Prelude.{ℕ, ◌+◌, List, [], ◌∷◌, ◌++◌, take, drop, length, map}
use Rattle.edit_plan.specs.Edits.{left_of}
use Rattle.edit_plan.specs.declared.query.Ask.{Ask}
use Rattle.edit_plan.specs.declared.query.Query.{Query}
use Rattle.ray_grid.specs.Points.{lattice_of}
use Rattle.job_counts.specs.declared.totals.Answer.{Answer}
use Rattle.job_model.specs.Answers.{answer_after}
use Rattle.job_model.specs.Findings.{found_over}
use Rattle.job_model.specs.Points.{left_moves, moves_of, totals_after}
use Rattle.job_model.specs.Tasks.{Job, JobMove}
use Rattle.job_report.specs.Facts.{JobFacts}
use Rattle.job_report.specs.Tasks.{Task}
use Rattle.job_report.specs.declared.facts.Found.{Found}

-- what the move with a number finds over the whole lattice
abbrev pub found_by : Job → List JobMove → ℕ → JobMove → Found
found_by job before number move = record {
  number = number + 1;
  line = move.line;
  rapid = move.rapid;
  counts = found_over job (lattice_of job.plan.grid) before move;
}

-- what each of the moves with these numbers finds, in turn, the first after those before
abbrev pub found_from : Job → List ℕ → List ℕ → List Found
found_from job before [] = []
found_from job before (number ∷ numbers) =
    map (found_by job (moves_of job.plan before) number) (take 1 (drop number job.plan.moves))
    ++ found_from job (before ++ number ∷ []) numbers

-- a query's question, with the answer at its own version
abbrev pub answered : Job → Query → Ask × Answer
answered job query = (query.ask, answer_after job (left_moves job.plan query.version) query.ask)

-- what the report says: of the moves that are left in the end, of the queries, and in all
abbrev pub facts_of : Task → JobFacts
facts_of task = record {
  moves = length task.job.plan.moves;
  passed = task.passed;
  left = found_from task.job [] (left_of task.job.plan.edits);
  answers = map (answered task.job) task.queries;
  totals = totals_after task.job (left_moves task.job.plan (length task.job.plan.edits));
}
