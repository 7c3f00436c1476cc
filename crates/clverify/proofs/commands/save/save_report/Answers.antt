use Rattle.clverify.specs.Asked.{save_seen}
use Rattle.clverify.proofs.Saved.{answer_of_stock, fault_of_stock, true_of_stock}
use Rattle.clverify.proofs.commands.save.save_report.Goals as goal

pub returns-in-Ok-clause-report : goal.returns-in-Ok-clause-report
returns-in-Ok-clause-report g c =
    answer_of_stock (g.S.Shelf.files c.args.shelf.now) (save_seen c.args.said.now) c.in-Ok.inputs c.save_task.result c.in-Ok.ensures.gives c.save_task.ensures.report

pub returns-in-Ok-clause-sound : goal.returns-in-Ok-clause-sound
returns-in-Ok-clause-sound g c =
    true_of_stock (g.S.Shelf.files c.args.shelf.now) (save_seen c.args.said.now) c.in-Ok.inputs c.save_task.result c.in-Ok.ensures.gives c.save_task.ensures.sound

pub returns-in-Err-clause-report : goal.returns-in-Err-clause-report
returns-in-Err-clause-report g c = fault_of_stock (g.S.Shelf.files c.args.shelf.now) (save_seen c.args.said.now) c.in-Err.stopped c.in-Err.ensures.gives
