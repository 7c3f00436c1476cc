use Rattle.job_inputs.proofs.Programs.{program_few}
use Rattle.job_inputs.proofs.input.moves_of.Goals as goal

pub returns-in-Ok-clause-few : goal.returns-in-Ok-clause-few
returns-in-Ok-clause-few c = program_few c.args.bytes.now c.in-Ok.program c.in-Ok.ensures.program
