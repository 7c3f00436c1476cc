use Rattle.std.proofs.Common.{◌≡◌, ◌*◌, All, map}
use Rattle.std.specs.List.{range_with_len}
use Rattle.cl_moves.specs.Moves.{IsMove}
use Rattle.made_program.specs.Draws.{generator_state}
use Rattle.made_program.specs.Made.{made_move, place_after}
use Rattle.made_program.proofs.program.made_program.Given as goal

-- i moves are generated, and the tool is at the place after them
abbrev pub invariant-loop-i : goal.invariant-loop-i
invariant-loop-i l = record {
  moves : l.moves ≡ map (made_move l.number) (range_with_len 0 l.i);
  state : l.state ≡ generator_state (5 * l.i) l.number;
  place : l.place ≡ place_after l.number l.i;
  valid : All IsMove l.moves;
}
