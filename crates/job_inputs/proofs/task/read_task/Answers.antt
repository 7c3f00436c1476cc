use Rattle.job_inputs.specs.Inputs.{is_read_fault}
use Rattle.job_inputs.proofs.Twice.{reads_on}
use Rattle.job_inputs.proofs.task.read_task.Goals as goal

pub returns-in-Ok-clause-read : goal.returns-in-Ok-clause-read
returns-in-Ok-clause-read g c =
    reads_on g.S.Shelf.files g.S.Shelf.faults g.S.Shelf.failures (is_read_fault c.read_behind.result) c.args.shelf.now c.read_moves.new.shelf c.read_behind.new.shelf
    c.in-Ok.ensures.later c.in-Ok.ensures.read c.read_behind.ensures.read
