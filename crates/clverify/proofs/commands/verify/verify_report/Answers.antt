use Rattle.call_words.specs.Seen.{call_seen}
use Rattle.clverify.proofs.Read.{fault_of_read, report_of_read, true_of_read}
use Rattle.clverify.proofs.commands.verify.verify_report.Goals as goal

pub read_task-requires-clause-file : goal.read_task-requires-clause-file
read_task-requires-clause-file g c = c.requires.file

pub returns-in-Ok-clause-report : goal.returns-in-Ok-clause-report
returns-in-Ok-clause-report g c = report_of_read (g.S.Shelf.files c.args.shelf.now) (call_seen c.args.said.now) c.in-Ok.inputs c.verify_task.result c.in-Ok.ensures.gives c.verify_task.ensures.report

pub returns-in-Ok-clause-sound : goal.returns-in-Ok-clause-sound
returns-in-Ok-clause-sound g c = true_of_read (g.S.Shelf.files c.args.shelf.now) (call_seen c.args.said.now) c.in-Ok.inputs c.verify_task.result c.in-Ok.ensures.gives c.verify_task.ensures.sound

pub returns-in-Err-clause-report : goal.returns-in-Err-clause-report
returns-in-Err-clause-report g c = fault_of_read (g.S.Shelf.files c.args.shelf.now) (call_seen c.args.said.now) c.in-Err.stopped c.in-Err.ensures.gives
