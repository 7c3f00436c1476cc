use Rattle.std.proofs.Common.{Err, None, Some, option_map}
use Rattle.vf_io.specs.Files.{bytes_of}
use Rattle.job_inputs.specs.Inputs.{is_read_fault}
use Rattle.job_inputs.specs.Stocks.{stock_for}
use Rattle.job_inputs.specs.Tasks.{task_placed}
use Rattle.job_inputs.proofs.Allowed.{allowed_on}
use Rattle.job_inputs.proofs.Behind.{found_in, given_after, if_high, low_ahead, stopped_after}
use Rattle.job_inputs.proofs.Twice.{reads_on}
use Rattle.job_inputs.proofs.task.read_unless_low.Goals as goal

pub returns-in-Some-clause-gives : goal.returns-in-Some-clause-gives
returns-in-Some-clause-gives g c =
    low_ahead (option_map (λ name. name.now) c.args.stock) (option_map (λ name. name.now) c.args.script) c.args.program c.args.setup
    (g.S.Shelf.files c.args.shelf.now) c.in-Some.line
    (found_in c.args.setup.tool c.args.program.moves c.as_slice.result.now c.defaults_of.result c.low_cutter.result (Some c.in-Some.line)
    c.defaults_of.ensures c.as_slice.ensures c.low_cutter.ensures c.in-Some.is)

pub read_last-requires-clause-high : goal.read_last-requires-clause-high
read_last-requires-clause-high g c =
    found_in c.args.setup.tool c.args.program.moves c.as_slice.result.now c.defaults_of.result c.low_cutter.result None
    c.defaults_of.ensures c.as_slice.ensures c.low_cutter.ensures c.in_default.is

pub read_last-requires-clause-script : goal.read_last-requires-clause-script
read_last-requires-clause-script g c =
    allowed_on (λ one. one.now) (g.S.Shelf.allows c.args.shelf.now) (g.S.Shelf.allows c.read_stock_for.new.shelf) c.args.script c.in-Ok.ensures.allows c.requires.script

pub returns-in-Ok-clause-gives : goal.returns-in-Ok-clause-gives
returns-in-Ok-clause-gives g c =
    let stock = option_map (λ name. name.now) c.args.stock in
    let script = option_map (λ name. name.now) c.args.script in
    if_high stock script c.args.program c.args.setup (g.S.Shelf.files c.args.shelf.now) c.read_last.result
    (found_in c.args.setup.tool c.args.program.moves c.as_slice.result.now c.defaults_of.result c.low_cutter.result None
    c.defaults_of.ensures c.as_slice.ensures c.low_cutter.ensures c.in_default.is)
    (given_after (g.S.Shelf.files c.args.shelf.now) (g.S.Shelf.files c.read_stock_for.new.shelf)
    (λ told. stock_for c.args.setup (option_map (bytes_of told) stock))
    (λ placed told. task_placed c.args.program c.args.setup placed (option_map (bytes_of told) script))
    c.in-Ok.stock c.read_last.result c.in-Ok.ensures.read.kept c.in-Ok.ensures.gives c.read_last.ensures.gives)

pub returns-in-Err-clause-gives : goal.returns-in-Err-clause-gives
returns-in-Err-clause-gives g c =
    let stock = option_map (λ name. name.now) c.args.stock in
    let script = option_map (λ name. name.now) c.args.script in
    if_high stock script c.args.program c.args.setup (g.S.Shelf.files c.args.shelf.now) (Err c.in-Err.stopped)
    (found_in c.args.setup.tool c.args.program.moves c.as_slice.result.now c.defaults_of.result c.low_cutter.result None
    c.defaults_of.ensures c.as_slice.ensures c.low_cutter.ensures c.in_default.is)
    (stopped_after (g.S.Shelf.files c.args.shelf.now)
    (λ told. stock_for c.args.setup (option_map (bytes_of told) stock))
    (λ placed told. task_placed c.args.program c.args.setup placed (option_map (bytes_of told) script))
    c.in-Err.stopped c.in-Err.ensures.gives)

pub returns-in-Ok-clause-read : goal.returns-in-Ok-clause-read
returns-in-Ok-clause-read g c =
    reads_on g.S.Shelf.files g.S.Shelf.faults g.S.Shelf.failures (is_read_fault c.read_last.result) c.args.shelf.now c.read_stock_for.new.shelf c.read_last.new.shelf
    c.in-Ok.ensures.later c.in-Ok.ensures.read c.read_last.ensures.read
