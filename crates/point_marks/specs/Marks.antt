-- The marks of a program's moves for a question, and what is true of a mark.
use Rattle.std.specs.Prelude.{◌^◌, ℤ, List, map, Option, Some, None}
use Rattle.std.specs.Option.{option_map}
use Rattle.std.specs.List.{AllZip}
use Rattle.space.specs.Sweeps.{SweepOf}
use Rattle.axis_cells.specs.declared.mark.Mark.{Mark}
use Rattle.axis_cells.specs.declared.mark.Mark.TheVariants.{Clear, Possible, Removed}
use Rattle.cl_moves.specs.Moves.{sweep_of}
use Rattle.cl_moves.specs.declared.moves.Move.{Move}
use Rattle.cutter_marks.specs.MarkBy.{mark_by}
use Rattle.cutter_slabs.specs.Cutter.{CutterSize}
use Rattle.cutter_slabs.specs.Meets.{MeetsLower, MeetsUpper}
use Rattle.move_cutters.specs.Cutters.{cutter_size}
use Rattle.point_marks.specs.declared.question.Question.{Question}
use Rattle.move_cutters.specs.declared.cutters.CutterDefaults.{CutterDefaults}

-- the mark of the point against a move of a cutter
abbrev pub cutter_mark : Question → Move → CutterSize → Mark
cutter_mark question move cutter = mark_by cutter question.slabs (sweep_of move) question.point (2 ^ question.depth)

-- the mark of a move, where it has a cutter
abbrev pub mark_for : CutterDefaults → Question → Move → Option Mark
mark_for defaults question move = option_map (cutter_mark question move) (cutter_size defaults move)

-- the marks of moves, in order
abbrev pub marks_for : CutterDefaults → Question → List Move → List (Option Mark)
marks_for defaults question moves = map (mark_for defaults question) moves

-- Removed: the lower cutter holds the point at some rational time of the move. Clear: the upper cutter holds it at none.
abbrev pub IsTrueOf : Mark → CutterSize → SweepOf → List ℤ → Type 0
IsTrueOf Removed cutter sweep point = MeetsLower cutter sweep point
IsTrueOf Possible cutter sweep point = Unit {0}
IsTrueOf Clear cutter sweep point = ¬ MeetsUpper cutter sweep point

-- a mark that is true of the cutter; no mark where there is none
abbrev pub IsTrueMark : Option CutterSize → SweepOf → List ℤ → Option Mark → Type 0
IsTrueMark (Some cutter) sweep point (Some mark) = IsTrueOf mark cutter sweep point
IsTrueMark None sweep point None = Unit {0}
IsTrueMark _ sweep point _ = ⊥

-- the same of a move and its cutter
abbrev pub IsMarkedTruly : CutterDefaults → List ℤ → Move → Option Mark → Type 0
IsMarkedTruly defaults point move mark = IsTrueMark (cutter_size defaults move) (sweep_of move) point mark

-- one mark a move, each a true one
abbrev pub AreTrueMarks : CutterDefaults → List ℤ → List Move → List (Option Mark) → Type 0
AreTrueMarks defaults point moves marks = AllZip (IsMarkedTruly defaults point) moves marks
