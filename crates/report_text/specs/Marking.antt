-- The text of the marks that a program's moves are given.
use Rattle.std.specs.Prelude.{ℕ, ◌+◌, List, [], ◌∷◌, ◌++◌, length, Option, Some, None, codes, decimal}
use Rattle.vf_text.specs.Pages.{line}
use Rattle.cl_moves.specs.declared.moves.Move.{Move}
use Rattle.cl_moves.specs.declared.program.Program.{Program}
use Rattle.axis_cells.specs.declared.mark.Mark.{Mark}
use Rattle.axis_cells.specs.declared.mark.Mark.TheVariants.{Clear, Possible, Removed}

-- a mark, or that a move has no cutter to be marked with
abbrev pub mark_name : Option Mark → List ℕ
mark_name None = codes "nocutter"
mark_name (Some Removed) = codes "removed"
mark_name (Some Possible) = codes "possible"
mark_name (Some Clear) = codes "clear"

-- a move's number and line, and its mark
abbrev pub mark_line : ℕ → Move → Option Mark → List ℕ
mark_line number move mark =
    line (codes "move " ++ decimal number ++ codes " line " ++ decimal move.line ++ codes " " ++ mark_name mark)

-- moves numbered from here on, each with its mark
abbrev pub mark_lines : ℕ → List Move → List (Option Mark) → List ℕ
mark_lines number (move ∷ moves) (mark ∷ marks) = mark_line number move mark ++ mark_lines (number + 1) moves marks
mark_lines number _ _ = []

-- the marks of a program
abbrev pub marking_of : Program → List (Option Mark) → List ℕ
marking_of program marks =
    line (codes "clverify point 1") ++ mark_lines 1 program.moves marks ++ line (codes "moves " ++ decimal (length program.moves))
