use Rattle.job_inputs.specs.Inputs.{is_read_fault}
use Rattle.job_inputs.proofs.Allowed.{allows_on}
use Rattle.job_inputs.proofs.Found.{asked_from, program_stopped}
use Rattle.job_inputs.proofs.Twice.{reads_on}
use Rattle.job_inputs.proofs.asked.read_asked.Goals as goal

pub returns-in-Ok-clause-gives : goal.returns-in-Ok-clause-gives
returns-in-Ok-clause-gives g c =
    asked_from (g.S.Shelf.files c.args.shelf.now) (g.S.Shelf.files c.read_moves.new.shelf) c.args.file.now c.args.setup.now c.args.number c.in-Ok.program
    c.read_asked_behind.result c.in-Ok.ensures.read.kept c.in-Ok.ensures.gives c.read_asked_behind.ensures.gives

pub returns-in-Err-clause-gives : goal.returns-in-Err-clause-gives
returns-in-Err-clause-gives g c =
    program_stopped (g.S.Shelf.files c.args.shelf.now) c.args.file.now c.args.setup.now c.args.number c.in-Err.stopped c.in-Err.ensures.gives

pub returns-in-Ok-clause-read : goal.returns-in-Ok-clause-read
returns-in-Ok-clause-read g c =
    reads_on g.S.Shelf.files g.S.Shelf.faults g.S.Shelf.failures (is_read_fault c.read_asked_behind.result) c.args.shelf.now c.read_moves.new.shelf
    c.read_asked_behind.new.shelf c.in-Ok.ensures.later c.in-Ok.ensures.read c.read_asked_behind.ensures.read

pub returns-in-Ok-clause-allows : goal.returns-in-Ok-clause-allows
returns-in-Ok-clause-allows g c =
    allows_on (g.S.Shelf.allows c.args.shelf.now) (g.S.Shelf.allows c.read_moves.new.shelf) (g.S.Shelf.allows c.read_asked_behind.new.shelf)
    c.in-Ok.ensures.allows c.read_asked_behind.ensures.allows
