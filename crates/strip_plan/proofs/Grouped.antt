-- Eight edits leave a strip alone where a box does that holds the hulls of the moves that they apply.
use Rattle.std.proofs.Common.{◌≡◌, ◌∙◌, ℕ, ◌+◌, ◌-◌, ◌*◌, ◌<◌, ◌≤◌, List, [], ◌∷◌, ◌++◌, Option, None, Some, ⊎_elim, length, get_or, drop, arith, ap, subst, sym}
use Rattle.std.specs.Prelude.{All}
use Rattle.std.specs.List.{AllWithin, slice_range}
use Rattle.std.specs.Option.{IfSome}
use Rattle.std.proofs.lemmas.Bool.{cases_lt}
use Rattle.std.proofs.lemmas.List.{get_or-drop, get_or-take, get_or_append_left, get_or_default, length-append, length-drop, length-take}
use Rattle.std.proofs.lemmas.List.Elements.{All-get_or}
use Rattle.std.proofs.Math.Seq.{get_or-append_seam}
use Rattle.ray_grid.specs.declared.ray.Family.{Family}
use Rattle.ray_grid.specs.declared.ray.Ray.{Ray}
use Rattle.edit_plan.specs.declared.edit.Edit.{Edit}
use Rattle.edit_plan.specs.declared.edit.Edit.TheVariants.{Apply, Undo, Redo}
use Rattle.edit_plan.specs.Edits.{AppliesBelow}
use Rattle.strip_plan.specs.declared.index_box.IndexBox.{IndexBox}
use Rattle.strip_plan.specs.IndexBoxes.{HasPoint, JoinsBoxes}
use Rattle.strip_plan.specs.Untouched.{AppliesNone, AreGroups, HasNone, IsAppliedIn}
use Rattle.strip_plan.proofs.Joined.{of_one, of_other}

-- what a box holds is held by one that has all its points
wider : (hulls : List IndexBox) (group more : IndexBox) (edit : Edit) → ((ray : Ray) (l : ℕ) → HasPoint group ray l → HasPoint more ray l)
    → IsAppliedIn hulls group edit → IsAppliedIn hulls more edit
wider hulls group more (Apply number) has is = λ d ray l here. has ray l (is d ray l here)
wider hulls group more Undo has is = absurd is
wider hulls group more Redo has is = absurd is

-- the box joins that of one edit more
pub one_more : (hulls : List IndexBox) (edits : List Edit) (group more : IndexBox) (n number : ℕ) (e : Edit) (own : IndexBox)
    → All (AppliesBelow (length hulls)) edits → AllWithin (IsAppliedIn hulls group) edits 0 n → n < length edits → get_or edits n e ≡ Apply number
    → JoinsBoxes group (get_or hulls number own) more → AllWithin (IsAppliedIn hulls more) edits 0 (n + 1)
one_more hulls edits group more n number e own named before within is joins k d ge lt =
    let low : number < length hulls = subst (AppliesBelow (length hulls)) is (All-get_or (AppliesBelow (length hulls)) edits n e within named) in
    ⊎_elim
    (λ less. wider hulls group more (get_or edits k d) (λ ray l has. of_one group (get_or hulls number own) more ray l joins has) (before k d ge less))
    (λ most.
    let place : k ≡ n = omega (arith, lt, most) in
    let there : get_or edits k d ≡ Apply number = ap (λ i. get_or edits i d) place ∙ get_or_default edits n d e within ∙ is in
    subst (IsAppliedIn hulls more) (sym there)
    (λ b ray l has.
    of_other group (get_or hulls number own) more ray l joins (subst (λ (x : IndexBox). HasPoint x ray l) (get_or_default hulls number b own low) has)))
    (cases_lt k n)

-- eight edits of a slice where they are among all
pub in_place : (hulls : List IndexBox) (edits : List Edit) (next : Option IndexBox) (n : ℕ) → n * 8 + 8 ≤ length edits
    → IfSome next (λ group. AllWithin (IsAppliedIn hulls group) (slice_range edits (n * 8) (n * 8 + 8)) 0 (length (slice_range edits (n * 8) (n * 8 + 8))))
    → IfSome next (λ group. AllWithin (IsAppliedIn hulls group) edits (8 * n) (8 * n + 8))
in_place hulls edits None n within is = tt
in_place hulls edits (Some group) n within is =
    λ k d ge lt.
    let many = length-take (n * 8 + 8 - n * 8) (drop (n * 8) edits) in
    let rest = length-drop (n * 8) edits in
    let place : n * 8 + (k - n * 8) ≡ k = omega (arith, ge) in
    let same = get_or-take (n * 8 + 8 - n * 8) (drop (n * 8) edits) (k - n * 8) d (omega (arith, ge, lt)) ∙ get_or-drop (n * 8) edits (k - n * 8) d
    ∙ ap (λ i. get_or edits i d) place in
    subst (IsAppliedIn hulls group) same (is (k - n * 8) d (omega arith) (omega (arith, ge, lt, many, rest, within)))

-- one group more
pub group_more : (hulls : List IndexBox) (edits : List Edit) (groups : List (Option IndexBox)) (next : Option IndexBox) → AreGroups hulls edits groups
    → IfSome next (λ group. AllWithin (IsAppliedIn hulls group) edits (8 * length groups) (8 * length groups + 8))
    → AreGroups hulls edits (groups ++ next ∷ [])
group_more hulls edits groups next are is n lt =
    ⊎_elim
    (λ less.
    subst (λ (o : Option IndexBox). IfSome o (λ group. AllWithin (IsAppliedIn hulls group) edits (8 * n) (8 * n + 8)))
    (sym (get_or_append_left groups (next ∷ []) None n less)) (are n less))
    (λ most.
    let place : length groups ≡ n = omega (arith, lt, most, length-append groups (next ∷ [])) in
    subst (λ (o : Option IndexBox). IfSome o (λ group. AllWithin (IsAppliedIn hulls group) edits (8 * n) (8 * n + 8)))
    (sym (ap (λ i. get_or (groups ++ next ∷ []) i None) (sym place) ∙ get_or-append_seam groups next [] None))
    (subst (λ (i : ℕ). IfSome next (λ group. AllWithin (IsAppliedIn hulls group) edits (8 * i) (8 * i + 8))) place is))
    (cases_lt n (length groups))

-- a move whose box is held has nothing where the holding box has nothing
held_off : (hulls : List IndexBox) (group : IndexBox) (family : Family) (i : ℕ) (edit : Edit) → HasNone group family i → IsAppliedIn hulls group edit
    → AppliesNone hulls family i edit
held_off hulls group family i (Apply number) none is = λ d j l has. none j l (is d _ l has)
held_off hulls group family i Undo none is = absurd is
held_off hulls group family i Redo none is = absurd is

-- so all eight edits of a group leave alone what its box leaves alone
pub group_off : (hulls : List IndexBox) (edits : List Edit) (groups : List (Option IndexBox)) (n : ℕ) (o : Option IndexBox) (group : IndexBox)
    (family : Family) (i : ℕ) → AreGroups hulls edits groups → n < length groups → get_or groups n o ≡ Some group → HasNone group family i
    → AllWithin (AppliesNone hulls family i) edits (8 * n) (8 * n + 8)
group_off hulls edits groups n o group family i are low is none k d ge lt =
    let here = subst (λ (x : Option IndexBox). IfSome x (λ group. AllWithin (IsAppliedIn hulls group) edits (8 * n) (8 * n + 8)))
    (get_or_default groups n None o low ∙ is) (are n low) in
    held_off hulls group family i (get_or edits k d) none (here k d ge lt)

-- one edit more that leaves a strip alone
pub one_alone : (hulls : List IndexBox) (edits : List Edit) (family : Family) (i from at : ℕ) (e : Edit) → AllWithin (AppliesNone hulls family i) edits from at
    → at < length edits → AppliesNone hulls family i (get_or edits at e) → AllWithin (AppliesNone hulls family i) edits from (at + 1)
one_alone hulls edits family i from at e before within is k d ge lt =
    ⊎_elim (λ less. before k d ge less)
    (λ most.
    let place : k ≡ at = omega (arith, lt, most) in
    let there : get_or edits k d ≡ get_or edits at e = ap (λ j. get_or edits j d) place ∙ get_or_default edits at d e within in
    subst (AppliesNone hulls family i) (sym there) is)
    (cases_lt k at)
