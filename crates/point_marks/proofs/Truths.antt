-- Moves that are marked truly, one more at a time.
use Rattle.std.proofs.Common.{◌≡◌, ℕ, ◌+◌, ◌<◌, List, [], ◌∷◌, ◌++◌, take, drop, length, get_or, Bool, Option, Some, None, suc, subst, add-one, arith, drop-cons, if◌then◌else◌}
use Rattle.std.proofs.Math.Seq.{take-suc}
use Rattle.std.proofs.lemmas.Slice.Zip.{all_zipped_more}
use Rattle.axis_cells.specs.declared.mark.Mark.{Mark}
use Rattle.cl_moves.specs.declared.moves.Move.{Move}
use Rattle.point_marks.specs.Marks.{AreTrueMarks, IsMarkedTruly}
use Rattle.point_marks.specs.declared.question.Question.{Question}
use Rattle.move_cutters.specs.declared.cutters.CutterDefaults.{CutterDefaults}

-- the move after those that are marked, with its true mark
pub marked_more : (defaults : CutterDefaults) (asked question : Question) (moves : List Move) (marks : List (Option Mark)) (i : ℕ) (other : Move) (mark : Option Mark)
    → question ≡ asked → i < length moves → AreTrueMarks defaults asked.point (take i moves) marks → IsMarkedTruly defaults question.point (get_or moves i other) mark
    → AreTrueMarks defaults asked.point (take (i + 1) moves) (marks ++ mark ∷ [])
marked_more defaults asked question moves marks i other mark same within ahead this =
    rw (add-one, take-suc moves i other within)
    (all_zipped_more (IsMarkedTruly defaults asked.point) (take i moves) marks (get_or moves i other) mark ahead
    (subst (λ (q : Question). IsMarkedTruly defaults q.point (get_or moves i other) mark) same this))
