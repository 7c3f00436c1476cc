use Rattle.job_inputs.proofs.Found.{asked_after, setup_stopped}
use Rattle.job_inputs.proofs.asked.read_asked_behind.Goals as goal

pub returns-in-Ok-clause-gives : goal.returns-in-Ok-clause-gives
returns-in-Ok-clause-gives g c =
    asked_after (g.S.Shelf.files c.args.shelf.now) c.args.setup.now c.args.number c.args.program c.in-Ok.setup c.find_asked.result
    c.in-Ok.ensures.gives c.find_asked.ensures.gives

pub returns-in-Err-clause-gives : goal.returns-in-Err-clause-gives
returns-in-Err-clause-gives g c =
    setup_stopped (g.S.Shelf.files c.args.shelf.now) c.args.setup.now c.args.number c.args.program c.in-Err.stopped c.in-Err.ensures.gives
