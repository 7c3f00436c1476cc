-- Moves none of whose cutters is too low, one fewer at a time.
use Rattle.std.proofs.Common.{◌≡◌, ℕ, ◌+◌, ◌<◌, List, drop, length, get_or, Bool, Option, Some, None, suc, add-one, arith, drop-cons, if◌then◌else◌}
use Rattle.cl_moves.specs.declared.moves.Move.{Move}
use Rattle.move_cutters.specs.Cutters.{first_low, is_move_low}
use Rattle.move_cutters.specs.declared.cutters.CutterDefaults.{CutterDefaults}

not_first : (low : Bool) (at : ℕ) (rest : Option ℕ) → (if low then Some at else rest) ≡ None → rest ≡ None
not_first low at rest none = grind arith

-- the cutters of the moves after it are no lower either
pub high_behind : (defaults : CutterDefaults) (moves : List Move) (i : ℕ) (other : Move) → i < length moves → first_low defaults (drop i moves) ≡ None
    → first_low defaults (drop (i + 1) moves) ≡ None
high_behind defaults moves i other within high =
    rw add-one
    (not_first (is_move_low defaults (get_or moves i other)) (get_or moves i other).line (first_low defaults (drop (suc i) moves)) (rw (drop-cons moves i other within) at high))
