use Rattle.job_inputs.specs.Inputs.{is_read_fault}
use Rattle.job_inputs.proofs.Twice.{reads_on}
use Rattle.clverify.specs.Asked.{check_seen}
use Rattle.clverify.proofs.Given.{move_stopped, true_after, verdict_after}
use Rattle.clverify.proofs.commands.check.check_report.Goals as goal

pub check_asked-requires : goal.check_asked-requires
check_asked-requires g c = (c.in-Ok.ensures.allows c.args.said.now.cert.now).0 c.requires.cert

pub returns-in-Ok-clause-report : goal.returns-in-Ok-clause-report
returns-in-Ok-clause-report g c =
    verdict_after (g.S.Shelf.files c.args.shelf.now) (g.S.Shelf.files c.read_asked.new.shelf) (check_seen c.args.said.now) c.in-Ok.asked c.check_asked.result
    c.in-Ok.ensures.read.kept c.in-Ok.ensures.gives c.check_asked.ensures.report

pub returns-in-Ok-clause-sound : goal.returns-in-Ok-clause-sound
returns-in-Ok-clause-sound g c =
    true_after (g.S.Shelf.files c.args.shelf.now) (g.S.Shelf.files c.read_asked.new.shelf) (check_seen c.args.said.now) c.in-Ok.asked c.check_asked.result
    c.in-Ok.ensures.read.kept c.in-Ok.ensures.gives c.check_asked.ensures.sound

pub returns-in-Err-clause-report : goal.returns-in-Err-clause-report
returns-in-Err-clause-report g c = move_stopped (g.S.Shelf.files c.args.shelf.now) (check_seen c.args.said.now) c.in-Err.stopped c.in-Err.ensures.gives

pub returns-in-Ok-clause-read : goal.returns-in-Ok-clause-read
returns-in-Ok-clause-read g c =
    reads_on g.S.Shelf.files g.S.Shelf.faults g.S.Shelf.failures (is_read_fault c.check_asked.result) c.args.shelf.now c.read_asked.new.shelf c.check_asked.new.shelf
    c.in-Ok.ensures.later c.in-Ok.ensures.read c.check_asked.ensures.read
