-- Where no cutter is too low among the moves that are left, the next is not.
use Rattle.std.proofs.Common.{◌≡◌, ℕ, ◌<◌, List, drop, length, get_or, Bool, true, false, Option, Some, None, suc, refl, drop-cons, if◌then◌else◌}
use Rattle.cl_moves.specs.declared.moves.Move.{Move}
use Rattle.move_cutters.specs.Cutters.{first_low, is_move_low}
use Rattle.move_cutters.specs.declared.cutters.CutterDefaults.{CutterDefaults}

not_low : (low : Bool) (at : ℕ) (rest : Option ℕ) → (if low then Some at else rest) ≡ None → low ≡ false
not_low true at rest none = cc
not_low false at rest none = refl

pub high_here : (defaults : CutterDefaults) (moves : List Move) (i : ℕ) (other : Move) → i < length moves → first_low defaults (drop i moves) ≡ None
    → is_move_low defaults (get_or moves i other) ≡ false
high_here defaults moves i other within high =
    not_low (is_move_low defaults (get_or moves i other)) (get_or moves i other).line (first_low defaults (drop (suc i) moves)) (rw (drop-cons moves i other within) at high)
