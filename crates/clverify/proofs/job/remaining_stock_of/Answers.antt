use Rattle.job_run.specs.Ready.{task_ready}
use Rattle.clverify.proofs.Saved.{stock_made, task_saved}
use Rattle.clverify.proofs.job.remaining_stock_of.Goals as goal

pub returns-clause-stock : goal.returns-clause-stock
returns-clause-stock g c =
    stock_made c.remaining_stock.result (task_ready c.in_ok-ready.ready) c.args.inputs c.remaining_stock.ensures.stock c.in_ok-ready.ensures.task

pub returns-clause-valid : goal.returns-clause-valid
returns-clause-valid g c =
    task_saved c.remaining_stock.result (task_ready c.in_ok-ready.ready) c.args.inputs c.in_ok-ready.ensures.valid c.in_ok-ready.ensures.task
