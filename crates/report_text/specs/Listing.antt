-- The text of a program's moves.
use Rattle.std.specs.Prelude.{ℕ, ℤ, ◌+◌, ◌==◌, Bool, List, [], ◌∷◌, ◌++◌, length, Option, Some, None, codes, decimal, if◌then◌else◌}
use Rattle.std.specs.Fmt.{signed_decimal}
use Rattle.vf_text.specs.Pages.{line, numbers}
use Rattle.cl_records.specs.declared.cutter.CutterText.{CutterText}
use Rattle.cl_moves.specs.declared.moves.Move.{Move}
use Rattle.cl_moves.specs.declared.program.Program.{Program}

-- whether a move is made in rapid traverse
abbrev pub kind_text : Bool → List ℕ
kind_text rapid = if rapid then codes " rapid" else codes " cut"

-- a height, or a dash where none is given
abbrev pub height_text : Option ℤ → List ℕ
height_text None = codes "-"
height_text (Some value) = signed_decimal value

-- a flank's angle in whole degrees, or nothing where it is upright
abbrev pub flank_text : ℕ → List ℕ
flank_text flank = if flank == 0 then [] else codes " flank " ++ decimal flank

-- a cutter's diameter, corner radius, height and flank
abbrev pub cutter_text : Option CutterText → List ℕ
cutter_text None = codes "none"
cutter_text (Some cutter) =
    signed_decimal cutter.d ++ codes " " ++ signed_decimal cutter.r ++ codes " " ++ height_text cutter.h ++ flank_text cutter.flank

-- the number of a move, its line and its kind
abbrev pub move_head : ℕ → ℕ → Bool → List ℕ
move_head number at rapid = codes "move " ++ decimal number ++ codes " line " ++ decimal at ++ kind_text rapid

-- a move with its number
abbrev pub move_line : ℕ → Move → List ℕ
move_line number move =
    line (move_head number move.line move.rapid ++ codes " from" ++ numbers move.from ++ codes " to" ++ numbers move.to
    ++ codes " axis" ++ numbers move.axis_from ++ codes " to" ++ numbers move.axis_to
    ++ codes " cutter " ++ cutter_text move.cutter)

-- moves numbered from here on
abbrev pub move_lines : ℕ → List Move → List ℕ
move_lines number [] = []
move_lines number (move ∷ moves) = move_line number move ++ move_lines (number + 1) moves

-- the listing of a program
abbrev pub list_of : Program → List ℕ
list_of program =
    line (codes "clverify list 1") ++ move_lines 1 program.moves
    ++ line (codes "moves " ++ decimal (length program.moves) ++ codes " passed " ++ decimal program.passed)
