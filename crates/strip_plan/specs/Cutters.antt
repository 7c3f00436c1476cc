-- Where the stacks of each move's cutter are.
use Rattle.std.specs.Prelude.{◌≡◌, ℕ, ◌<◌, List, Some, length, slice_get, slice_index, slice_index_or}
use Rattle.cutter_slabs.specs.Cutter.{CutterSize}
use Rattle.cutter_slabs.specs.Stacks.{StacksOf}
use Rattle.job_model.specs.Tasks.{JobMove}

-- they are stacks of `slabs` slabs
abbrev pub HasSlabs : ℕ → StacksOf → Type 0
HasSlabs slabs stacks = stacks.slabs ≡ slabs

-- at the place are the stacks of a cutter
pub record IsStackPlace (stacks : List StacksOf) (cutter : CutterSize) (slabs place : ℕ) : Type 0 where
  pub within : place < length stacks
  pub there : (d : StacksOf) → slice_index_or stacks place d ≡ record { cutter = cutter; slabs = slabs }

-- each of the first `count` moves has a place, and there are the stacks of its cutter
pub record HasStacks (slabs : ℕ) (moves : List JobMove) (stacks : List StacksOf) (places : List ℕ) (count : ℕ) : Type 0 where
  pub many : length places ≡ count
  pub each : (n : ℕ) (move : JobMove) → n < count → slice_get moves n ≡ Some move
      → IsStackPlace stacks move.cutter slabs (slice_index places n)
