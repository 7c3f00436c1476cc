-- Edits whose moves have a hull with nothing in a strip leave it alone.
use Rattle.std.proofs.Common.{◌≡◌, ℕ, ◌+◌, ◌<◌, ◌≤◌, List, Some, length, slice_get, get_or, arith, subst}
use Rattle.std.specs.Prelude.{All}
use Rattle.std.specs.List.{AllWithin}
use Rattle.std.proofs.lemmas.List.Elements.{All-get_or}
use Rattle.std.proofs.lemmas.Option.{slice_get-get_or}
use Rattle.ray_grid.specs.declared.ray.Family.{Family}
use Rattle.ray_grid.specs.declared.ray.Ray.{Ray}
use Rattle.ray_grid.specs.Strips.{strip_at, strip_of}
use Rattle.edit_plan.specs.declared.edit.Edit.{Edit}
use Rattle.edit_plan.specs.declared.edit.Edit.TheVariants.{Apply, Undo, Redo}
use Rattle.edit_plan.specs.Edits.{AppliesBelow}
use Rattle.job_model.specs.Tasks.{JobMove, PlanOf}
use Rattle.strip_plan.specs.declared.index_box.AxisRanges.{AxisRanges}
use Rattle.strip_plan.specs.declared.index_box.IndexBox.{IndexBox}
use Rattle.strip_plan.specs.Boxed.{HasBoxes}
use Rattle.strip_plan.specs.IndexBoxes.{HasPoint}
use Rattle.strip_plan.specs.Plans.{HasNumber}
use Rattle.strip_plan.specs.Untouched.{AppliesNone, ArePassed, HasNone, IsPassed, LeavesAlone}
use Rattle.strip_plan.proofs.Rows.{ray_is}

-- a box that has nothing
no_ranges : AxisRanges
no_ranges = record { nodes = (0, 0); points = (0, 0) }

pub no_box : IndexBox
no_box = record { x = no_ranges; y = no_ranges; z = no_ranges }

-- the boxes of a plan's moves, and a strip by its family and its first node
module _ (plan : PlanOf) (hulls boxes : List IndexBox) (starts : List ℕ) (strip : ℕ) (family : Family) (i : ℕ)
    (has : HasBoxes plan.grid plan.slabs plan.depth plan.moves hulls boxes starts (length plan.moves))
    (row : strip_at plan.grid strip ≡ strip_of plan.grid family i) where
  -- a move whose hull has nothing there
  alone_by : (number : ℕ) → number < length plan.moves → HasNone (get_or hulls number no_box) family i
      → (move : JobMove) → HasNumber plan number move → LeavesAlone plan move strip
  alone_by number low none move named n ray l there is =
      let held = has.each number move no_box ray l low named (record { on_grid = is.on_grid; index = is.index; possible = is.possible }) in
      absurd
      (none n l (subst (λ (r : Ray). HasPoint (get_or hulls number no_box) r l) (ray_is plan.grid strip n family i ray row there) held.in_hull))

  passed_by : (version : ℕ) (edit : Edit) → slice_get plan.edits version ≡ Some edit → AppliesBelow (length plan.moves) edit
      → AppliesNone hulls family i edit → IsPassed plan strip version
  passed_by version (Apply number) is low none = record { number = number; applies = is; low = low; alone = alone_by number low (none no_box) }
  passed_by version Undo is low none = absurd none
  passed_by version Redo is low none = absurd none

  -- `count` edits from a version on
  pub passed_from : (version count : ℕ) → version + count ≤ length plan.edits → All (AppliesBelow (length plan.moves)) plan.edits
      → AllWithin (AppliesNone hulls family i) plan.edits version (version + count) → ArePassed plan strip version count
  passed_from version count within named none k low =
      let inside : version + k < length plan.edits = omega (arith, within, low) in
      passed_by (version + k) (get_or plan.edits (version + k) Undo) (slice_get-get_or plan.edits (version + k) Undo inside)
      (All-get_or (AppliesBelow (length plan.moves)) plan.edits (version + k) Undo inside named)
      (none (version + k) Undo (omega arith) (omega (arith, low)))
