-- A task that is ready to be done.
use Rattle.job_report.specs.Tasks.{Task}
use Rattle.job_run.specs.Jobs.{job_with}
use Rattle.job_run.specs.declared.ready.ReadyTask.{ReadyTask}

-- the task that is ready
abbrev pub task_ready : ReadyTask → Task
task_ready ready = record { job = job_with ready.plan ready.bodies; passed = ready.passed; queries = ready.queries }
