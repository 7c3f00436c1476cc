-- What every move of a program is: a valid sweep, with a cutter that was read where it has one.
use Rattle.std.specs.Prelude.{IfSome}
use Rattle.space.specs.Sweeps.{SweepOf, IsSweep}
use Rattle.cl_records.specs.Ranges.{IsCutterText}
use Rattle.cl_moves.specs.declared.moves.Move.{Move}

-- the motion of a move: tip and tool axis, linear in time
abbrev pub sweep_of : Move → SweepOf
sweep_of move = record { from = move.from; to = move.to; axis_from = move.axis_from; axis_to = move.axis_to }

pub record IsMove (move : Move) : Type 0 where
  pub sweep : IsSweep (sweep_of move)
  pub cutter : IfSome move.cutter IsCutterText
