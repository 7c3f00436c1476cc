-- The holders above the cutters of a plan's moves, as moves of a plan of their own.
use Rattle.std.specs.Prelude.{◌≡◌, false, ℕ, ◌<◌, ◌≤◌, ◌⊎◌, List, [], ◌∷◌, ◌++◌, Option, None, Some, length, slice_get, slice_index_or}
use Rattle.ray_grid.specs.Lattice.{IsRay, points_of}
use Rattle.ray_grid.specs.Points.{point_in}
use Rattle.ray_grid.specs.declared.ray.Family.{Family}
use Rattle.ray_grid.specs.declared.ray.Ray.{Ray}
use Rattle.holder_check.specs.Above.{HolderFits, HolderSize}
use Rattle.job_model.specs.Holders.{holder_move, may_be_struck}
use Rattle.job_model.specs.Tasks.{JobMove, PlanOf}
use Rattle.strip_plan.specs.declared.holders.NearHolders.{NearHolders}
use Rattle.strip_plan.specs.declared.index_box.IndexBox.{IndexBox}
use Rattle.strip_plan.specs.IndexBoxes.{HasPoint}
use Rattle.strip_plan.specs.Plans.{HasNumber}

-- a plan of holders, and for each move of the plan whose holders they are the number that its holder has there, if it has one
pub record HolderPlanOf : Type 0 where
  pub plan : PlanOf
  pub places : List (Option ℕ)

-- the holder fits above the move's cutter
abbrev pub FitsAbove : HolderSize → JobMove → Type 0
FitsAbove holder move = HolderFits holder move.cutter

-- the holder of a move meets no point of the lattice
abbrev pub MissesLattice : PlanOf → HolderSize → JobMove → Type 0
MissesLattice plan holder move =
    (ray : Ray) (l : ℕ) → IsRay plan.grid ray → l < points_of plan.grid ray.family → may_be_struck plan holder move (point_in plan.grid ray l) ≡ false

-- The plan of holders is that of a plan's moves: it has their lattice, slabs and depth. Where it has a number for a move, the holder of the move
-- has that number there; where it has none, the holder meets no point of the lattice.
pub record AreHoldersOf (plan : PlanOf) (holder : HolderSize) (holders : HolderPlanOf) : Type 0 where
  pub grid : holders.plan.grid ≡ plan.grid
  pub depth : holders.plan.depth ≡ plan.depth
  pub slabs : holders.plan.slabs ≡ plan.slabs
  pub many : length holders.places ≡ length plan.moves
  pub near : (number place : ℕ) (move : JobMove) → slice_get holders.places number ≡ Some (Some place) → HasNumber plan number move
      → HasNumber holders.plan place (holder_move holder move)
  pub far : (number : ℕ) (move : JobMove) → slice_get holders.places number ≡ Some None → HasNumber plan number move
      → MissesLattice plan holder move

-- the box has no point of a family's rays
abbrev pub HasNoneAlong : IndexBox → Family → Type 0
HasNoneAlong box family = (i j l : ℕ) → HasPoint box record { family = family; i = i; j = j } l → ⊥

-- it has none at all
abbrev pub HasNoPoint : IndexBox → Type 0
HasNoPoint box = (ray : Ray) (l : ℕ) → HasPoint box ray l → ⊥

-- one more holder with its box: it gets the next number, or none where its box has no point
abbrev pub IsTakenIn : NearHolders → NearHolders → JobMove → IndexBox → Type 0
IsTakenIn before after move box =
    (after.places.items ≡ before.places.items ++ None ∷ []) × (after.moves.items ≡ before.moves.items) × HasNoPoint box
    ⊎ (after.places.items ≡ before.places.items ++ Some (length before.moves.items) ∷ []) × (after.moves.items ≡ before.moves.items ++ move ∷ [])

-- of the first `count` holders: each has a number and stands there among the near ones, or has none, and its box has no point
pub record AreNear (moves : List JobMove) (boxes : List IndexBox) (near : List JobMove) (places : List (Option ℕ)) (count : ℕ) : Type 0 where
  pub many : length places ≡ count
  pub few : length near ≤ count
  pub there : (n place : ℕ) (move : JobMove) → slice_get places n ≡ Some (Some place) → slice_get moves n ≡ Some move
      → slice_get near place ≡ Some move
  pub none : (n : ℕ) (d : IndexBox) → slice_get places n ≡ Some None → HasNoPoint (slice_index_or boxes n d)
