-- What holds the boxes of a move has the points at which it is possible.
use Rattle.std.proofs.Common.{◌≡◌, ◌∙◌, ℕ, ◌+◌, ◌<◌, ◌≤◌, ◌≢◌, List, length, slice_index, get_or, arith, subst, sym}
use Rattle.std.proofs.lemmas.Grind.{get_or_default_zero}
use Rattle.ray_grid.specs.declared.ray.Ray.{Ray}
use Rattle.job_model.specs.Tasks.{JobMove, PlanOf}
use Rattle.strip_plan.specs.declared.index_box.IndexBox.{IndexBox}
use Rattle.strip_plan.specs.Boxed.{HasBoxes, IsInOneOf}
use Rattle.strip_plan.specs.IndexBoxes.{HasPoint, IsBoxOf}
use Rattle.strip_plan.specs.Plans.{HasNumber}
use Rattle.strip_plan.specs.Windows.{IsPossibleAt}

-- the box that holds a move's boxes is one of the grid
pub hull_fits : (plan : PlanOf) (hulls boxes : List IndexBox) (starts : List ℕ) (number : ℕ) (hull : IndexBox)
    → HasBoxes plan.grid plan.slabs plan.depth plan.moves hulls boxes starts (length plan.moves) → number < length plan.moves → hull ≡ get_or hulls number hull
    → IsBoxOf plan.grid hull
hull_fits plan hulls boxes starts number hull has lt read =
    let many = has.as_many in subst (IsBoxOf plan.grid) (sym read) (has.hulls_fit number hull (omega (arith, lt, many)))

-- and it has the points
pub in_hull : (plan : PlanOf) (hulls boxes : List IndexBox) (starts : List ℕ) (number : ℕ) (hull : IndexBox) (move : JobMove) (ray : Ray) (l : ℕ)
    → HasBoxes plan.grid plan.slabs plan.depth plan.moves hulls boxes starts (length plan.moves) → number < length plan.moves → hull ≡ get_or hulls number hull
    → HasNumber plan number move → IsPossibleAt plan move ray l → HasPoint hull ray l
in_hull plan hulls boxes starts number hull move ray l has lt read named is =
    subst (λ (b : IndexBox). HasPoint b ray l) (sym read)
    (has.each number move hull ray l lt named (record { on_grid = is.on_grid; index = is.index; possible = is.possible })).in_hull

-- so have the several boxes of a move
pub in_own : (plan : PlanOf) (hulls boxes : List IndexBox) (starts : List ℕ) (number start end : ℕ) (hull : IndexBox) (move : JobMove) (ray : Ray) (l : ℕ)
    → HasBoxes plan.grid plan.slabs plan.depth plan.moves hulls boxes starts (length plan.moves) → number < length plan.moves → start ≡ get_or starts number start
    → end ≡ get_or starts (number + 1) end → start ≢ end → HasNumber plan number move → IsPossibleAt plan move ray l → IsInOneOf boxes start end ray l
in_own plan hulls boxes starts number start end hull move ray l has lt read_start read_end several named is =
    let many = has.many in
    let first : start ≡ slice_index starts number = read_start ∙ get_or_default_zero starts number start (omega (arith, lt, many)) in
    let last : end ≡ slice_index starts (number + 1) = read_end ∙ get_or_default_zero starts (number + 1) end (omega (arith, lt, many)) in
    let apart : slice_index starts number ≢ slice_index starts (number + 1) = λ same. several (first ∙ same ∙ sym last) in
    let inside = (has.each number move hull ray l lt named (record { on_grid = is.on_grid; index = is.index; possible = is.possible })).in_one apart in
    subst (λ (k : ℕ). IsInOneOf boxes k end ray l) (sym first) (subst (λ (k : ℕ). IsInOneOf boxes (slice_index starts number) k ray l) (sym last) inside)

-- the boxes of a move end within all boxes
pub ends_within : (plan : PlanOf) (hulls boxes : List IndexBox) (starts : List ℕ) (number end : ℕ)
    → HasBoxes plan.grid plan.slabs plan.depth plan.moves hulls boxes starts (length plan.moves) → number < length plan.moves
    → end ≡ get_or starts (number + 1) end → end ≤ length boxes
ends_within plan hulls boxes starts number end has lt read_end =
    let many = has.many in
    let last : end ≡ slice_index starts (number + 1) = read_end ∙ get_or_default_zero starts (number + 1) end (omega (arith, lt, many)) in
    let w = has.within (number + 1) (omega (arith, lt)) in
    omega (arith, w, last)
