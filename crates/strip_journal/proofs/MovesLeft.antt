-- Which moves are left after an edit, and of which points they are sure.
use Rattle.std.proofs.Common.{◌≡◌, true, false, ℕ, ◌+◌, ◌^◌, Bool, ◌&&◌, ◌||◌, List, [], ◌∷◌, ◌++◌, take, drop, get_or, slice_get, Some, append-nil, drop-cons, refl, ap, ap₂, ◌∙◌}
use Rattle.std.specs.List.{list_any}
use Rattle.std.proofs.lemmas.Bool.{and_parts}
use Rattle.std.proofs.lemmas.Grind.{flat_map-append}
use Rattle.std.proofs.lemmas.List.Elements.{All-contains}
use Rattle.std.proofs.lemmas.List.Folds.{list_any-append, list_any_at}
use Rattle.std.proofs.lemmas.Nat.{pow_pos}
use Rattle.std.proofs.lemmas.Option.{get_or_from_slice_get, slice_get_within}
use Rattle.cutter_marks.proofs.Decided.{sure_possible}
use Rattle.ray_grid.specs.Points.{LatticePoint}
use Rattle.edit_plan.specs.declared.edit.Edit.TheVariants.{Apply}
use Rattle.edit_plan.specs.Edits.{left_at}
use Rattle.edit_history.proofs.HistoryChain.{left_applied}
use Rattle.job_model.specs.Points.{is_possible, is_sure, left_moves, moves_of, some_possible, some_sure}
use Rattle.job_model.specs.Tasks.{IsJobMove, IsPlan, Job, JobMove, PlanOf}
use Rattle.job_model.proofs.Lists.{moves_valid, some_of}
use Rattle.strip_plan.specs.Plans.{HasNumber}
use Rattle.strip_marks.specs.Marks.{point_at, possible_there, sure_there}
use Rattle.strip_journal.specs.Journals.{possible_at, stock_at, sure_at}

-- a valid move is possible where it is sure
valid_sure_possible : (plan : PlanOf) (move : JobMove) (point : LatticePoint) → IsPlan plan → IsJobMove move
    → is_sure plan move point ≡ true → is_possible plan move point ≡ true
valid_sure_possible plan move point valid is sure =
    sure_possible move.cutter plan.slabs move.sweep point.position (2 ^ plan.depth) is.cutter valid.some (pow_pos plan.depth)
    is.sweep sure

-- the move with a number is a valid one
pub numbered_valid : (plan : PlanOf) (number : ℕ) (move : JobMove) → IsPlan plan → HasNumber plan number move → IsJobMove move
numbered_valid plan number move valid named =
    All-contains IsJobMove plan.moves move valid.moves
    (number, slice_get_within plan.moves number move named, get_or_from_slice_get plan.moves number move move named)

-- and so possible where it is sure
pub move_sure_possible : (plan : PlanOf) (number : ℕ) (move : JobMove) (point : LatticePoint) → IsPlan plan
    → HasNumber plan number move → is_sure plan move point ≡ true → is_possible plan move point ≡ true
move_sure_possible plan number move point valid named sure =
    valid_sure_possible plan move point valid (numbered_valid plan number move valid named) sure

-- where some move that is left is sure, one is possible
pub sure_is_possible : (job : Job) (strip v n l : ℕ) → IsPlan job.plan
    → sure_at job strip v n l ≡ true → possible_at job strip v n l ≡ true
sure_is_possible job strip v n l valid sure =
    let point = point_at job.plan.grid strip n l in
    let left = left_moves job.plan v in
    let both = and_parts (stock_at job strip n l) (some_sure job.plan left point) sure in
    let found = some_of (λ move. is_sure job.plan move point) left both.1 in
    let is = All-contains IsJobMove left found.0 (moves_valid job.plan (left_at job.plan.edits v) valid.moves) found.1 in
    let there : is_possible job.plan (get_or left found.1.0 found.0) point ≡ true =
    ap (λ (move : JobMove). is_possible job.plan move point) found.1.2
    ∙ valid_sure_possible job.plan found.0 point valid is found.2 in
    ap₂ (λ x y. x && y) both.0 (list_any_at (λ move. is_possible job.plan move point) left found.1.0 found.0 found.1.1 there)

-- the move with a number, as a list
one_move : (moves : List JobMove) (number : ℕ) (move : JobMove) → slice_get moves number ≡ Some move
    → take 1 (drop number moves) ≡ move ∷ []
one_move moves number move named =
    ap (take 1) (drop-cons moves number move (slice_get_within moves number move named))
    ∙ ap (λ (m : JobMove). m ∷ []) (get_or_from_slice_get moves number move move named)

-- an edit that applies a move adds it to those left
pub moves_more : (plan : PlanOf) (v number : ℕ) (move : JobMove) → slice_get plan.edits v ≡ Some (Apply number)
    → HasNumber plan number move → left_moves plan (v + 1) ≡ left_moves plan v ++ move ∷ []
moves_more plan v number move applies named =
    ap (moves_of plan) (left_applied plan.edits v number applies)
    ∙ flat_map-append (λ k. take 1 (drop k plan.moves)) (left_at plan.edits v) (number ∷ [])
    ∙ ap (λ (l : List JobMove). left_moves plan v ++ l)
    (append-nil (take 1 (drop number plan.moves)) ∙ one_move plan.moves number move named)

-- an 'or' with no is the other
or_false : (b : Bool) → (b || false) ≡ b
or_false true = refl
or_false false = refl

-- some item of a list with one more meets a test where some item of the list does, or that one
pub any_more : (test : JobMove → Bool) (moves : List JobMove) (move : JobMove)
    → list_any test (moves ++ move ∷ []) ≡ (list_any test moves || test move)
any_more test moves move =
    list_any-append test moves (move ∷ []) ∙ ap (λ b. list_any test moves || b) (or_false (test move))

-- an 'and' with an 'or' is that with either
and_either : (a b c : Bool) → (a && (b || c)) ≡ ((a && b) || (a && c))
and_either true b c = refl
and_either false b c = refl

-- after it the stock is sure that was sure before it or of which it is sure, and possible likewise
pub sure_more : (job : Job) (strip v n l number : ℕ) (move : JobMove) → slice_get job.plan.edits v ≡ Some (Apply number)
    → HasNumber job.plan number move
    → sure_at job strip (v + 1) n l ≡ (sure_at job strip v n l || (stock_at job strip n l && sure_there job.plan move strip n l))
sure_more job strip v n l number move applies named =
    let point = point_at job.plan.grid strip n l in
    let stock = stock_at job strip n l in
    ap (λ (moves : List JobMove). stock && some_sure job.plan moves point) (moves_more job.plan v number move applies named)
    ∙ ap (λ b. stock && b) (any_more (λ m. is_sure job.plan m point) (left_moves job.plan v) move)
    ∙ and_either stock (some_sure job.plan (left_moves job.plan v) point) (is_sure job.plan move point)

pub possible_more_at : (job : Job) (strip v n l number : ℕ) (move : JobMove) → slice_get job.plan.edits v ≡ Some (Apply number)
    → HasNumber job.plan number move
    → possible_at job strip (v + 1) n l ≡ (possible_at job strip v n l || (stock_at job strip n l && possible_there job.plan move strip n l))
possible_more_at job strip v n l number move applies named =
    let point = point_at job.plan.grid strip n l in
    let stock = stock_at job strip n l in
    ap (λ (moves : List JobMove). stock && some_possible job.plan moves point) (moves_more job.plan v number move applies named)
    ∙ ap (λ b. stock && b) (any_more (λ m. is_possible job.plan m point) (left_moves job.plan v) move)
    ∙ and_either stock (some_possible job.plan (left_moves job.plan v) point) (is_possible job.plan move point)

-- where the same numbers are left the same moves are
pub same_moves : (plan : PlanOf) (v w : ℕ) → left_at plan.edits v ≡ left_at plan.edits w → left_moves plan v ≡ left_moves plan w
same_moves plan v w same = ap (moves_of plan) same

-- and they are sure, and possible, at the same points
pub sure_same : (job : Job) (strip v w n l : ℕ) → left_at job.plan.edits v ≡ left_at job.plan.edits w
    → sure_at job strip v n l ≡ sure_at job strip w n l
sure_same job strip v w n l same =
    ap (λ (moves : List JobMove). stock_at job strip n l && some_sure job.plan moves (point_at job.plan.grid strip n l))
    (same_moves job.plan v w same)

pub possible_same : (job : Job) (strip v w n l : ℕ) → left_at job.plan.edits v ≡ left_at job.plan.edits w
    → possible_at job strip v n l ≡ possible_at job strip w n l
possible_same job strip v w n l same =
    ap (λ (moves : List JobMove). stock_at job strip n l && some_possible job.plan moves (point_at job.plan.grid strip n l))
    (same_moves job.plan v w same)
