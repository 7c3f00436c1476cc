use Rattle.clverify.specs.Asked.{move_seen}
use Rattle.clverify.proofs.Given.{answer_of_move, fault_of_move, true_of_move}
use Rattle.clverify.proofs.commands.certify.certify_report.Goals as goal

pub returns-in-Ok-clause-report : goal.returns-in-Ok-clause-report
returns-in-Ok-clause-report g c =
    answer_of_move (g.S.Shelf.files c.args.shelf.now) (move_seen c.args.said.now) c.in-Ok.asked c.certify_asked.result c.in-Ok.ensures.gives c.certify_asked.ensures.report

pub returns-in-Ok-clause-sound : goal.returns-in-Ok-clause-sound
returns-in-Ok-clause-sound g c =
    true_of_move (g.S.Shelf.files c.args.shelf.now) (move_seen c.args.said.now) c.in-Ok.asked c.certify_asked.result c.in-Ok.ensures.gives c.certify_asked.ensures.sound

pub returns-in-Err-clause-report : goal.returns-in-Err-clause-report
returns-in-Err-clause-report g c = fault_of_move (g.S.Shelf.files c.args.shelf.now) (move_seen c.args.said.now) c.in-Err.stopped c.in-Err.ensures.gives
