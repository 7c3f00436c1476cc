-- What marks by a move of a plan.
use Rattle.std.proofs.Common.{◌≡◌, ◌∙◌, ℕ, ◌<◌, List, Some, length, slice_get, slice_index, get_or, arith, ap, refl, subst, sym}
use Rattle.std.proofs.lemmas.Grind.{get_or_default_zero}
use Rattle.std.proofs.lemmas.Option.{get_or_from_slice_get, slice_get_read}
use Rattle.space.specs.Sweeps.{SweepOf}
use Rattle.cutter_slabs.specs.Stacks.{StacksOf}
use Rattle.wanted_marks.specs.Rays.{move_of}
use Rattle.job_model.specs.Tasks.{JobMove, PlanOf}
use Rattle.strip_plan.specs.Cutters.{HasStacks}
use Rattle.strip_plan.specs.Plans.{HasNumber, move_in}

-- the stacks at the place of a move, its motion and the depth are that move with the plan's slabs and depth
pub marker_is : (plan : PlanOf) (moves : List JobMove) (slabs depth : ℕ) (stacks : List StacksOf) (places : List ℕ) (number place : ℕ) (move next : JobMove) (found : StacksOf) (sweep : SweepOf)
    → moves ≡ plan.moves → slabs ≡ plan.slabs → depth ≡ plan.depth → HasStacks slabs moves stacks places (length moves) → number < length moves
    → place ≡ get_or places number place → found ≡ get_or stacks place found → next ≡ get_or moves number next → sweep ≡ next.sweep
    → HasNumber plan number move → move_of found sweep depth ≡ move_in plan move
marker_is plan moves slabs depth stacks places number place move next found sweep em es ed has lt read_place read_found read_next moved named =
    let at : slice_get moves number ≡ Some move = ap (λ (xs : List JobMove). slice_get xs number) em ∙ named in
    let many = has.many in
    let is = has.each number move lt at in
    let there : place ≡ slice_index places number = read_place ∙ get_or_default_zero places number place (omega (arith, lt, many)) in
    let own : found ≡ record { cutter = move.cutter; slabs = slabs } = read_found ∙ ap (λ k. get_or stacks k found) there ∙ is.there found in
    let same : next ≡ move = read_next ∙ get_or_from_slice_get moves number move next at in
    let own_sweep : sweep ≡ move.sweep = moved ∙ ap (λ (m : JobMove). m.sweep) same in
    ap (λ (s : StacksOf). move_of s sweep depth) own
    ∙ ap (λ (m : SweepOf). move_of (record { cutter = move.cutter; slabs = slabs }) m depth) own_sweep
    ∙ ap (λ (n : ℕ). move_of (record { cutter = move.cutter; slabs = n }) move.sweep depth) es
    ∙ ap (λ (n : ℕ). move_of (record { cutter = move.cutter; slabs = plan.slabs }) move.sweep n) ed

-- the stacks at the place of a move are those of its cutter
pub stacks_are : (moves : List JobMove) (slabs : ℕ) (stacks : List StacksOf) (places : List ℕ) (number place : ℕ) (next : JobMove) (found : StacksOf)
    → HasStacks slabs moves stacks places (length moves) → number < length moves → place ≡ get_or places number place → found ≡ get_or stacks place found
    → next ≡ get_or moves number next → found ≡ record { cutter = next.cutter; slabs = slabs }
stacks_are moves slabs stacks places number place next found has lt read_place read_found read_next =
    let many = has.many in
    let is = has.each number next lt (slice_get_read moves (length moves) number next refl lt read_next) in
    let there : place ≡ slice_index places number = read_place ∙ get_or_default_zero places number place (omega (arith, lt, many)) in
    read_found ∙ ap (λ k. get_or stacks k found) there ∙ is.there found

-- the place of a move is one of the stacks
pub stacks_within : (moves : List JobMove) (slabs : ℕ) (stacks : List StacksOf) (places : List ℕ) (number place : ℕ) (next : JobMove)
    → HasStacks slabs moves stacks places (length moves) → number < length moves → place ≡ get_or places number place → next ≡ get_or moves number next
    → place < length stacks
stacks_within moves slabs stacks places number place next has lt read_place read_next =
    let many = has.many in
    let is = has.each number next lt (slice_get_read moves (length moves) number next refl lt read_next) in
    let there : place ≡ slice_index places number = read_place ∙ get_or_default_zero places number place (omega (arith, lt, many)) in
    subst (λ k. k < length stacks) (sym there) is.within

-- the move at a number
pub named_is : (plan : PlanOf) (moves : List JobMove) (number : ℕ) (move next : JobMove) → moves ≡ plan.moves → next ≡ get_or moves number next → HasNumber plan number move → next ≡ move
named_is plan moves number move next em read_next named =
    read_next ∙ get_or_from_slice_get moves number move next (ap (λ (xs : List JobMove). slice_get xs number) em ∙ named)
