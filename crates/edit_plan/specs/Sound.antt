-- What every script is: its edits find what they take, and its queries ask for what there is.
use Rattle.std.specs.Prelude.{ℕ, ◌≤◌, IsTrue, All, length}
use Rattle.std.specs.List.Sorted.{IsNonDecreasingBy}
use Rattle.ray_grid.specs.Grids.{GridSize}
use Rattle.edit_plan.specs.declared.query.Query.{Query}
use Rattle.edit_plan.specs.declared.script.Script.{Script}
use Rattle.edit_plan.specs.Edits.{AppliesBelow, are_sound}
use Rattle.edit_plan.specs.Limits.{most_edits, most_queries}
use Rattle.edit_plan.specs.Queries.{IsQuery}

-- a script for `moves` moves over a grid: each Undo finds a move that is left and each Redo one that was dropped, each Apply
-- names one of the moves, each query is asked at a version of the edits, for a point of the grid or the totals, and the versions
-- never fall
pub record IsScript (moves : ℕ) (grid : GridSize) (script : Script) : Type 0 where
  pub sound : IsTrue (are_sound script.edits)
  pub named : All (AppliesBelow moves) script.edits
  pub few_edits : length script.edits ≤ most_edits
  pub queries : All (IsQuery grid (length script.edits)) script.queries
  pub few_queries : length script.queries ≤ most_queries
  pub ordered : IsNonDecreasingBy (λ (query : Query). query.version) script.queries
