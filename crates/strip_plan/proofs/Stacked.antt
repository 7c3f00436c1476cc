-- What a plan's cutters say of its own moves, of which they were made as another list, and what was computed of such lists.
use Rattle.std.proofs.Common.{◌≡◌, ℕ, ◌≤◌, All, List, arith, length, subst, sym}
use Rattle.edit_plan.specs.declared.edit.Edit.{Edit}
use Rattle.edit_plan.specs.Edits.{AppliesBelow}
use Rattle.job_model.specs.Tasks.{IsJobMove, IsPlan, JobMove, PlanOf}
use Rattle.ray_grid.specs.Grids.{GridSize}
use Rattle.strip_plan.specs.declared.cutters.Cutters.{Cutters}
use Rattle.strip_plan.specs.Cutters.{HasStacks}
use Rattle.strip_plan.specs.declared.prepared.Prepared.{Prepared}
use Rattle.strip_plan.specs.Parts.{AreStacksOf, AreTablesFor, AreWindowsOf, IsPreparedOf}

pub own_stacks : (slabs : ℕ) (moves given : List JobMove) (cutters : Cutters) → given ≡ moves → cutters.slabs ≡ slabs
    → HasStacks slabs given cutters.stacks.items cutters.places.items (length given) → AreStacksOf moves cutters
own_stacks slabs moves given cutters same own is =
    subst (λ (all : List JobMove). AreStacksOf all cutters) same
    (subst (λ (n : ℕ). HasStacks n given cutters.stacks.items cutters.places.items (length given)) (sym own) is)

pub own_plan : (grid : GridSize) (slabs own depth : ℕ) (moves given : List JobMove) (edits : List Edit) → given ≡ moves → own ≡ slabs → 1 ≤ slabs
    → All IsJobMove given → IsPlan record { grid = grid; slabs = own; depth = depth; moves = moves; edits = edits }
own_plan grid slabs own depth moves given edits same is some all = record {
  some = omega (arith, is, some);
  moves = subst (All IsJobMove) same all;
}

pub own_edits : (moves given : List JobMove) (edits listed : List Edit) → given ≡ moves → listed ≡ edits → All (AppliesBelow (length moves)) edits
    → All (AppliesBelow (length given)) listed
own_edits moves given edits listed same is named =
    subst (All (AppliesBelow (length given))) (sym is) (subst (λ (all : List JobMove). All (AppliesBelow (length all)) edits) (sym same) named)

-- what was computed of a plan's moves and edits, as other lists, is that of the plan
pub prepared_is : (plan : PlanOf) (grid : GridSize) (slabs depth : ℕ) (moves given again : List JobMove) (edits listed : List Edit)
    (prepared : Prepared) → record { grid = grid; slabs = slabs; depth = depth; moves = moves; edits = edits } ≡ plan
    → given ≡ moves → again ≡ moves → listed ≡ edits → AreWindowsOf grid slabs depth given listed prepared.windows
    → AreTablesFor grid slabs depth again prepared.tables → IsPreparedOf plan prepared
prepared_is plan grid slabs depth moves given again edits listed prepared is same same_again own windows tables =
    let by_moves = subst (λ (all : List JobMove). AreWindowsOf grid slabs depth all listed prepared.windows) same windows in
    let by_edits = subst (λ (all : List Edit). AreWindowsOf grid slabs depth moves all prepared.windows) own by_moves in
    let by_again = subst (λ (all : List JobMove). AreTablesFor grid slabs depth all prepared.tables) same_again tables in
    subst (λ (p : PlanOf). IsPreparedOf p prepared) is (by_edits, by_again)
