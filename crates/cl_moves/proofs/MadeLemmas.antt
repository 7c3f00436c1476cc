-- When a move is made, and when there are the most moves already.
use Rattle.std.proofs.Common.{◌≡◌, ℕ, ℤ, ◌<◌, ◌≤◌, ◌++◌, ◌∷◌, [], false, true, List, Result, Ok, Err, OnOk, is_ok, length, nat_lt, refl, ap, sym, ◌∙◌}
use Rattle.std.proofs.lemmas.Bool.{le-ltb, lt-ltb}
use Rattle.space.specs.Vectors.{are_opposite}
use Rattle.cl_lines.specs.declared.fault.ClEnd.{ClEnd}
use Rattle.cl_lines.specs.declared.fault.ClEnd.TheVariants.{Refused}
use Rattle.cl_lines.specs.declared.fault.ClWhy.TheVariants.{TooManyMoves}
use Rattle.cl_moves.specs.Program.{arrived, most_moves, move_to, moved, StepEnds}
use Rattle.cl_moves.specs.declared.fold.Fold.{Fold}
use Rattle.cl_moves.specs.declared.moves.Move.{Move}

-- what was added where it could be
pub added : {T E : Type 0} (result : Result T E) (new old : List Move) (move : Move) → is_ok result ≡ true → OnOk result (new ≡ old ++ move ∷ []) → new ≡ old ++ move ∷ []
added (Ok done) new old move ok is = is
added (Err end) new old move ok is = absurd (cc)

-- a move whose axes aren't opposite is made where there is room
pub moved_made : (line : ℕ) (from tip axis : List ℤ) (fold next : Fold) (moves : List Move) (move : Move) → are_opposite fold.axis axis ≡ false → length fold.moves < most_moves
    → moves ≡ fold.moves ++ move ∷ [] → move ≡ move_to line from tip axis fold → next ≡ arrived tip axis (record fold { moves = moves }) → moved line from tip axis fold ≡ Ok next
moved_made line from tip axis fold next moves move apart room more is made =
    let fits : nat_lt (length fold.moves) most_moves ≡ true = lt-ltb (length fold.moves) most_moves room in
    let same : moves ≡ fold.moves ++ move_to line from tip axis fold ∷ [] = more ∙ ap (λ m. fold.moves ++ m ∷ []) is in
    rw (apart, fits) (ap (λ ms. Ok (record (arrived tip axis fold) { moves = ms })) (sym same) ∙ ap Ok (sym made))

-- and refused where there are the most moves already
pub moved_full : (line : ℕ) (from tip axis : List ℤ) (fold : Fold) (end : ClEnd) → are_opposite fold.axis axis ≡ false → most_moves ≤ length fold.moves
    → end ≡ Refused (record { line = line; why = TooManyMoves }) → StepEnds line (moved line from tip axis fold) end
moved_full line from tip axis fold end apart full is =
    let filled : nat_lt (length fold.moves) most_moves ≡ false = le-ltb (length fold.moves) most_moves full in
    rw is (refl, rw (apart, filled) refl)
