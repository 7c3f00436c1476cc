-- A move of a plan by its number, and what it is for its marks.
use Rattle.std.specs.Prelude.{◌≡◌, ℕ, Some, slice_get}
use Rattle.wanted_marks.specs.Rays.{MoveOf}
use Rattle.job_model.specs.Tasks.{JobMove, PlanOf}

-- the move has this number, from 0
abbrev pub HasNumber : PlanOf → ℕ → JobMove → Type 0
HasNumber plan number move = slice_get plan.moves number ≡ Some move

-- the move with the plan's slabs and depth
abbrev pub move_in : PlanOf → JobMove → MoveOf
move_in plan move = record { cutter = move.cutter; slabs = plan.slabs; sweep = move.sweep; depth = plan.depth }
