-- A task that is made ready has the edits and queries of the script that was read.
use Rattle.std.proofs.Common.{◌≡◌, ℕ, List, length, map, subst, sym, ap, ◌∙◌}
use Rattle.std.specs.List.{All}
use Rattle.std.proofs.lemmas.List.{length-map}
use Rattle.cl_moves.specs.declared.moves.Move.{Move}
use Rattle.edit_plan.specs.Edits.{AppliesBelow}
use Rattle.edit_plan.specs.Queries.{IsQuery}
use Rattle.edit_plan.specs.declared.edit.Edit.{Edit}
use Rattle.edit_plan.specs.declared.query.Query.{Query}
use Rattle.job_model.specs.Tasks.{JobMove, PlanOf}
use Rattle.ray_grid.specs.Grids.{GridSize}

-- edits that name moves of the program name moves of the plan
pub named_in_plan : (f : Move → JobMove) (moves given : List Move) (made : List JobMove) (edits : List Edit) → made ≡ map f given → given ≡ moves
    → All (AppliesBelow (length moves)) edits → All (AppliesBelow (length made)) edits
named_in_plan f moves given made edits are same named =
    subst (λ (n : ℕ). All (AppliesBelow n) edits) (sym (ap (λ ms. length ms) are ∙ length-map given f ∙ ap (λ ms. length ms) same)) named

-- queries for a grid and edits are those for a plan of both
pub asked_of_plan : (plan : PlanOf) (grid : GridSize) (edits : List Edit) (queries : List Query) → plan.grid ≡ grid → plan.edits ≡ edits
    → All (IsQuery grid (length edits)) queries → All (IsQuery plan.grid (length plan.edits)) queries
asked_of_plan plan grid edits queries same_grid same_edits asked =
    subst (λ (g : GridSize). All (IsQuery g (length plan.edits)) queries) (sym same_grid)
    (subst (λ (es : List Edit). All (IsQuery grid (length es)) queries) (sym same_edits) asked)
