-- The points of one ray against one move of a cutter.
use Rattle.std.specs.Prelude.{◌≡◌, ℕ, ◌+◌, ◌^◌, ◌<◌, Bool, true, false, ◌&&◌, if◌then◌else◌, List, ℤ}
use Rattle.space.specs.Sweeps.{SweepOf}
use Rattle.cutter_slabs.specs.Cutter.{CutterSize}
use Rattle.cutter_slabs.specs.Stacks.{StacksOf}
use Rattle.cutter_marks.specs.MarkBy.{is_possible_by, is_sure_by}
use Rattle.ray_grid.specs.Grids.{GridSize}
use Rattle.ray_grid.specs.declared.ray.Ray.{Ray}
use Rattle.ray_grid.specs.Lattice.{IsRay, point_of, points_of}
use Rattle.vf_spans.specs.Words.{has_bit}

-- a move of a cutter: the cutter and the number of its slabs, the motion, and the depth, at 2^depth cells
pub record MoveOf : Type 0 where
  pub cutter : CutterSize
  pub slabs : ℕ
  pub sweep : SweepOf
  pub depth : ℕ

-- by the stacks of the cutter
abbrev pub move_of : StacksOf → SweepOf → ℕ → MoveOf
move_of stacks sweep depth = record { cutter = stacks.cutter; slabs = stacks.slabs; sweep = sweep; depth = depth }

-- the point p is sure to be cut by the move, and it may be met by it
abbrev pub is_sure_in : MoveOf → List ℤ → Bool
is_sure_in v p = is_sure_by v.cutter v.slabs v.sweep p (2 ^ v.depth)

abbrev pub is_possible_in : MoveOf → List ℤ → Bool
is_possible_in v p = is_possible_by v.cutter v.slabs v.sweep p (2 ^ v.depth)

-- a ray of a grid, and a move of a cutter
pub record RayOf : Type 0 where
  pub sweep : MoveOf
  pub grid : GridSize
  pub ray : Ray

-- it is a ray of the grid, and its points are so few that each index fits 32 bits
pub record IsRayOf (r : RayOf) : Type 0 where
  pub on_grid : IsRay r.grid r.ray
  pub few : points_of r.grid r.ray.family < 2 ^ 32

-- the point is neither sure to be cut by the move nor possible
pub record IsClearOf (v : MoveOf) (p : List ℤ) : Type 0 where
  pub not_sure : is_sure_in v p ≡ false
  pub not_possible : is_possible_in v p ≡ false

-- the point is sure, and so possible
pub record IsRemovedBy (v : MoveOf) (p : List ℤ) : Type 0 where
  pub sure : is_sure_in v p ≡ true
  pub possible : is_possible_in v p ≡ true

-- the point at an index of the ray is sure, and possible
abbrev pub is_sure_at : RayOf → ℕ → Bool
is_sure_at r l = is_sure_in r.sweep (point_of r.grid r.ray l)

abbrev pub is_possible_at : RayOf → ℕ → Bool
is_possible_at r l = is_possible_in r.sweep (point_of r.grid r.ray l)

-- it is reported as possible: where only the sure ones are wanted, only a sure one
abbrev pub is_told_at : RayOf → Bool → ℕ → Bool
is_told_at r sure_only l = if sure_only then is_sure_at r l else is_possible_at r l

-- each bit of the word, the lowest of which is the index `first`, is a point of the ray
abbrev pub AreOnRay : RayOf → ℕ → ℕ → Type 0
AreOnRay r first wanted = (b : ℕ) → b < 64 → has_bit wanted b ≡ true → first + b < points_of r.grid r.ray.family

-- bit b of the word of wanted points is sure, and possible
abbrev pub is_sure_bit : RayOf → ℕ → ℕ → ℕ → Bool
is_sure_bit r first wanted b = has_bit wanted b && is_sure_at r (first + b)

abbrev pub is_possible_bit : RayOf → ℕ → ℕ → ℕ → Bool
is_possible_bit r first wanted b = has_bit wanted b && is_possible_at r (first + b)

-- bit b is reported as possible
abbrev pub is_told_bit : RayOf → ℕ → ℕ → ℕ → ℕ → Bool
is_told_bit r first wanted sure_only b = has_bit wanted b && is_told_at r (has_bit sure_only b) (first + b)
