-- The program that is generated from a number: cutting moves without a cutter, each from where the one before it ended.
use Rattle.std.specs.Prelude.{ℕ, ◌+◌, ◌*◌, ◌%◌, pos, ◌-ℤ◌, zero, suc, false, [], ◌∷◌, map, None}
use Rattle.std.specs.List.{range_with_len}
use Rattle.space.specs.Ranges.{axis_unit}
use Rattle.cl_moves.specs.Axes.{upright}
use Rattle.cl_moves.specs.declared.moves.Move.{Move}
use Rattle.cl_moves.specs.declared.program.Program.{Program}
use Rattle.made_program.specs.Draws.{draw}
use Rattle.made_program.specs.declared.place.Place.{Place}

-- the tool is upright at the start, 20 mm above the origin
abbrev pub first_place : Place
first_place = record { tip = pos 0 ∷ pos 0 ∷ pos 20000 ∷ []; axis = upright }

-- five draws are a tip, 0 to 20 mm along x and along y and 2 to 10 mm high, and an axis that leans by less than ten degrees from z
-- along x and along y each
abbrev pub place_by : ℕ → ℕ → ℕ → ℕ → ℕ → Place
place_by a b c p q = record {
  tip = pos (a % 20001) ∷ pos (b % 20001) ∷ pos (2000 + c % 8001) ∷ [];
  axis = (pos p -ℤ pos 16384) ∷ (pos q -ℤ pos 16384) ∷ pos axis_unit ∷ [];
}

-- the place that the first five draws after a state give
abbrev pub place_from : ℕ → Place
place_from state = place_by (draw 1 state) (draw 2 state) (draw 3 state) (draw 4 state) (draw 5 state)

-- where the tool is after a number of moves: each takes the next five draws
unfoldable pub place_after : ℕ → ℕ → Place
place_after number zero = first_place
place_after number (suc i) =
    place_by (draw (5 * i + 1) number) (draw (5 * i + 2) number) (draw (5 * i + 3) number)
    (draw (5 * i + 4) number) (draw (5 * i + 5) number)

-- the move with i moves before it, on the line of its own number
abbrev pub made_move : ℕ → ℕ → Move
made_move number i = record {
  line = i + 1;
  rapid = false;
  from = (place_after number i).tip;
  to = (place_after number (i + 1)).tip;
  axis_from = (place_after number i).axis;
  axis_to = (place_after number (i + 1)).axis;
  cutter = None;
}

-- how many moves are generated
abbrev pub made_moves : ℕ
made_moves = 24

-- the program, of which no record was passed over
abbrev pub made_of : ℕ → Program
made_of number = record { moves = map (made_move number) (range_with_len 0 made_moves); passed = 0 }
