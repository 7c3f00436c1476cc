-- The cutter that a move is made with, by its size. What a program leaves open is taken from the usual cutter and height.
use Rattle.std.specs.Prelude.{ℕ, ℤ, pos, int_lt, unsigned_abs, Bool, false, List, [], ◌∷◌, if◌then◌else◌}
use Rattle.std.specs.Prelude.{Option, Some, None, IfSome, unwrap_or}
use Rattle.std.specs.Option.{option_map, option_map_or, option_or}
use Rattle.space.specs.Ranges.{IsBetween}
use Rattle.cl_records.specs.Kinds.{tallest}
use Rattle.cl_records.specs.Ranges.{IsCutterText}
use Rattle.cl_records.specs.declared.cutter.CutterText.{CutterText}
use Rattle.cl_moves.specs.declared.moves.Move.{Move}
use Rattle.cutter_slabs.specs.Cutter.{CutterSize}
use Rattle.move_cutters.specs.declared.cutters.CutterDefaults.{CutterDefaults}

-- a usual cutter that was read, where there is one, and a usual height from 1 to the greatest
pub record AreDefaults (defaults : CutterDefaults) : Type 0 where
  pub sizes : IfSome defaults.cutter IsCutterText
  pub tall : IsBetween (pos 1) (pos tallest) defaults.height

-- the cutter of a move: the program's, or the usual one
abbrev pub cutter_text_of : CutterDefaults → Move → Option CutterText
cutter_text_of defaults move = option_or move.cutter defaults.cutter

-- the height of a cutter: its own, or the usual one
abbrev pub height_of : CutterDefaults → CutterText → ℤ
height_of defaults cutter = unwrap_or cutter.h defaults.height

-- the size of a cutter of a program, which begins at the tip
abbrev pub size_of : CutterDefaults → CutterText → CutterSize
size_of defaults cutter =
    record {
      d = unsigned_abs cutter.d;
      r = unsigned_abs cutter.r;
      h = unsigned_abs (height_of defaults cutter);
      flank = cutter.flank;
      base = 0;
    }

-- the size of a move's cutter, where it has one
abbrev pub cutter_size : CutterDefaults → Move → Option CutterSize
cutter_size defaults move = option_map (size_of defaults) (cutter_text_of defaults move)

-- whether a cutter is less high than its corner radius
abbrev pub is_low : CutterDefaults → CutterText → Bool
is_low defaults cutter = int_lt (height_of defaults cutter) cutter.r

-- whether a move is made with such a cutter
abbrev pub is_move_low : CutterDefaults → Move → Bool
is_move_low defaults move = option_map_or (is_low defaults) (cutter_text_of defaults move) false

-- the line of the first such move
abbrev pub first_low : CutterDefaults → List Move → Option ℕ
first_low defaults [] = None
first_low defaults (move ∷ moves) = if is_move_low defaults move then Some move.line else first_low defaults moves
