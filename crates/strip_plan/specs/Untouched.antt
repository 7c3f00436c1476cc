-- Edits that leave a strip alone.
use Rattle.std.specs.Prelude.{◌≡◌, ℕ, ◌+◌, ◌*◌, ◌<◌, List, Option, None, Some, length, slice_get, slice_index_or}
use Rattle.std.specs.List.{AllWithin}
use Rattle.std.specs.Option.{IfSome}
use Rattle.ray_grid.specs.declared.ray.Ray.{Ray}
use Rattle.ray_grid.specs.declared.ray.Family.{Family}
use Rattle.edit_plan.specs.declared.edit.Edit.{Edit}
use Rattle.edit_plan.specs.declared.edit.Edit.TheVariants.{Apply, Undo, Redo}
use Rattle.job_model.specs.Tasks.{JobMove, PlanOf}
use Rattle.strip_plan.specs.declared.index_box.IndexBox.{IndexBox}
use Rattle.strip_plan.specs.IndexBoxes.{HasPoint}
use Rattle.strip_plan.specs.Plans.{HasNumber}
use Rattle.strip_plan.specs.Windows.{HoldsEntered}

-- the move is possible at no point of a strip's rays
abbrev pub LeavesAlone : PlanOf → JobMove → ℕ → Type 0
LeavesAlone plan move strip = HoldsEntered plan move strip 0 0

-- the edit that follows a version applies one of the plan's moves, and this leaves the strip alone
pub record IsPassed (plan : PlanOf) (strip version : ℕ) : Type 0 where
  pub number : ℕ
  pub applies : slice_get plan.edits version ≡ Some (Apply number)
  pub low : number < length plan.moves
  pub alone : (move : JobMove) → HasNumber plan number move → LeavesAlone plan move strip

-- so does each of `count` edits from a version on
abbrev pub ArePassed : PlanOf → ℕ → ℕ → ℕ → Type 0
ArePassed plan strip version count = (k : ℕ) → k < count → IsPassed plan strip (version + k)

-- the box has no point of a family's rays with the first node i
abbrev pub HasNone : IndexBox → Family → ℕ → Type 0
HasNone box family i = (j l : ℕ) → HasPoint box record { family = family; i = i; j = j } l → ⊥

-- an edit applies a move whose box, one of these, has no such point
abbrev pub AppliesNone : List IndexBox → Family → ℕ → Edit → Type 0
AppliesNone hulls family i (Apply number) = (d : IndexBox) → HasNone (slice_index_or hulls number d) family i
AppliesNone hulls family i Undo = ⊥
AppliesNone hulls family i Redo = ⊥

-- an edit applies a move whose box, one of these, has only points that another box has
abbrev pub IsAppliedIn : List IndexBox → IndexBox → Edit → Type 0
IsAppliedIn hulls group (Apply number) =
    (d : IndexBox) (ray : Ray) (l : ℕ) → HasPoint (slice_index_or hulls number d) ray l → HasPoint group ray l
IsAppliedIn hulls group Undo = ⊥
IsAppliedIn hulls group Redo = ⊥

-- where the eight edits from the eight-fold of a number on have a box, each of them applies a move of which this holds the box
abbrev pub AreGroups : List IndexBox → List Edit → List (Option IndexBox) → Type 0
AreGroups hulls edits groups =
    (n : ℕ) → n < length groups
    → IfSome (slice_index_or groups n None) (λ group. AllWithin (IsAppliedIn hulls group) edits (8 * n) (8 * n + 8))
