use Rattle.job_run.specs.Ready.{task_ready}
use Rattle.clverify.proofs.Done.{facts_made, task_made}
use Rattle.clverify.proofs.job.do_task.Goals as goal

pub returns-clause-facts : goal.returns-clause-facts
returns-clause-facts g c = facts_made c.run_job.result (task_ready c.in_ok-ready.ready) c.args.inputs c.run_job.ensures.facts c.in_ok-ready.ensures.task

pub returns-clause-valid : goal.returns-clause-valid
returns-clause-valid g c = task_made c.run_job.result (task_ready c.in_ok-ready.ready) c.args.inputs c.in_ok-ready.ensures.valid c.in_ok-ready.ensures.task
