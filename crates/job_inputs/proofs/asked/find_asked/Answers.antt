-- No cutter is too low, and the move is there or is not.
use Rattle.std.proofs.Common.{None, Some}
use Rattle.job_inputs.proofs.Behind.{found_in}
use Rattle.job_inputs.proofs.Found.{askable, found_due, found_is, is_numbered, no_move}
use Rattle.job_inputs.proofs.asked.find_asked.Goals as goal

pub invariant_of-result : goal.invariant_of-result
invariant_of-result c =
    askable c.args.setup c.args.program.moves c.args.number c.in-Some-find_move.asked c.requires.setup c.requires.valid
    (found_in c.args.setup.tool c.args.program.moves c.as_slice.result.now c.defaults_of.result c.low_cutter.result None
    c.defaults_of.ensures c.as_slice.ensures c.low_cutter.ensures c.in_default.is)
    (found_is c.args.program.moves c.as_slice-2.result.now c.args.number c.find_move.result (Some c.in-Some-find_move.asked) c.as_slice-2.ensures
    c.find_move.ensures c.in-Some-find_move.is)

pub returns-in-Some-find_move-clause-gives : goal.returns-in-Some-find_move-clause-gives
returns-in-Some-find_move-clause-gives c =
    found_due c.args.program c.args.setup c.args.number (Some c.in-Some-find_move.asked)
    (found_in c.args.setup.tool c.args.program.moves c.as_slice.result.now c.defaults_of.result c.low_cutter.result None
    c.defaults_of.ensures c.as_slice.ensures c.low_cutter.ensures c.in_default.is)
    (found_is c.args.program.moves c.as_slice-2.result.now c.args.number c.find_move.result (Some c.in-Some-find_move.asked) c.as_slice-2.ensures
    c.find_move.ensures c.in-Some-find_move.is)

pub returns-in-Some-find_move-clause-numbered : goal.returns-in-Some-find_move-clause-numbered
returns-in-Some-find_move-clause-numbered c =
    is_numbered c.args.program c.args.setup c.args.number c.in-Some-find_move.asked
    (found_is c.args.program.moves c.as_slice-2.result.now c.args.number c.find_move.result (Some c.in-Some-find_move.asked) c.as_slice-2.ensures
    c.find_move.ensures c.in-Some-find_move.is)

pub returns-in-None-clause-gives : goal.returns-in-None-clause-gives
returns-in-None-clause-gives c =
    no_move c.args.program c.args.setup c.args.number c.len-moves.result
    (found_in c.args.setup.tool c.args.program.moves c.as_slice.result.now c.defaults_of.result c.low_cutter.result None
    c.defaults_of.ensures c.as_slice.ensures c.low_cutter.ensures c.in_default.is)
    (found_is c.args.program.moves c.as_slice-2.result.now c.args.number c.find_move.result None c.as_slice-2.ensures c.find_move.ensures c.in-None.is)
    c.len-moves.ensures
