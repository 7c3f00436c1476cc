use Rattle.std.proofs.Common.{option_map}
use Rattle.vf_io.specs.Files.{bytes_of}
use Rattle.job_inputs.specs.Inputs.{is_read_fault, setup_read_of}
use Rattle.job_inputs.specs.Tasks.{task_with}
use Rattle.job_inputs.proofs.Allowed.{allowed_on}
use Rattle.job_inputs.proofs.Behind.{given_after, stopped_after}
use Rattle.job_inputs.proofs.Twice.{reads_on}
use Rattle.job_inputs.proofs.task.read_behind.Goals as goal

pub returns-in-Ok-clause-gives : goal.returns-in-Ok-clause-gives
returns-in-Ok-clause-gives g c =
    given_after (g.S.Shelf.files c.args.shelf.now) (g.S.Shelf.files c.read_setup_of.new.shelf)
    (λ told. setup_read_of (bytes_of told c.args.setup.now))
    (λ read told. task_with c.args.program read (option_map (bytes_of told) (option_map (λ name. name.now) c.args.stock))
    (option_map (bytes_of told) (option_map (λ name. name.now) c.args.script)))
    c.in-Ok.setup c.read_unless_low.result c.in-Ok.ensures.read.kept c.in-Ok.ensures.gives c.read_unless_low.ensures.gives

pub returns-in-Err-clause-gives : goal.returns-in-Err-clause-gives
returns-in-Err-clause-gives g c =
    stopped_after (g.S.Shelf.files c.args.shelf.now)
    (λ told. setup_read_of (bytes_of told c.args.setup.now))
    (λ read told. task_with c.args.program read (option_map (bytes_of told) (option_map (λ name. name.now) c.args.stock))
    (option_map (bytes_of told) (option_map (λ name. name.now) c.args.script)))
    c.in-Err.stopped c.in-Err.ensures.gives

pub returns-in-Ok-clause-read : goal.returns-in-Ok-clause-read
returns-in-Ok-clause-read g c =
    reads_on g.S.Shelf.files g.S.Shelf.faults g.S.Shelf.failures (is_read_fault c.read_unless_low.result) c.args.shelf.now c.read_setup_of.new.shelf c.read_unless_low.new.shelf
    c.in-Ok.ensures.later c.in-Ok.ensures.read c.read_unless_low.ensures.read

pub read_unless_low-requires-clause-stock : goal.read_unless_low-requires-clause-stock
read_unless_low-requires-clause-stock g c =
    allowed_on (λ one. one.now) (g.S.Shelf.allows c.args.shelf.now) (g.S.Shelf.allows c.read_setup_of.new.shelf) c.args.stock c.in-Ok.ensures.allows c.requires.stock

pub read_unless_low-requires-clause-script : goal.read_unless_low-requires-clause-script
read_unless_low-requires-clause-script g c =
    allowed_on (λ one. one.now) (g.S.Shelf.allows c.args.shelf.now) (g.S.Shelf.allows c.read_setup_of.new.shelf) c.args.script c.in-Ok.ensures.allows c.requires.script
