use Rattle.std.proofs.Common.{subst}
use Rattle.ray_grid.specs.Grids.{GridSize}
use Rattle.cert_lines.specs.Certificates.{IsInRange}
use Rattle.clverify.proofs.Given.{cert_stopped, true_of_cert, verdict_of_read}
use Rattle.clverify.proofs.commands.check.check_asked.Goals as goal

pub judge_asked-requires : goal.judge_asked-requires
judge_asked-requires g c = subst (λ (grid : GridSize). IsInRange grid c.in-Ok.cert) c.grid.ensures.grid c.in-Ok.ensures.ranges

pub returns-in-Ok-clause-report : goal.returns-in-Ok-clause-report
returns-in-Ok-clause-report g c =
    verdict_of_read (g.S.Shelf.files c.args.shelf.now) c.args.cert.now c.args.asked.now c.grid.result.now c.in-Ok.cert c.judge_asked.result c.grid.ensures.grid
    c.in-Ok.ensures.gives c.judge_asked.ensures.report

pub returns-in-Ok-clause-sound : goal.returns-in-Ok-clause-sound
returns-in-Ok-clause-sound g c =
    true_of_cert (g.S.Shelf.files c.args.shelf.now) c.args.cert.now c.args.asked.now c.grid.result.now c.in-Ok.cert c.judge_asked.result c.grid.ensures.grid
    c.in-Ok.ensures.gives c.judge_asked.ensures.sound

pub returns-in-Err-clause-report : goal.returns-in-Err-clause-report
returns-in-Err-clause-report g c =
    cert_stopped (g.S.Shelf.files c.args.shelf.now) c.args.cert.now c.args.asked.now c.grid.result.now c.in-Err.stopped c.grid.ensures.grid c.in-Err.ensures.gives
