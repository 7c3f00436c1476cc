-- What a move does to the points of a line from one index to another, both included.
use Rattle.std.specs.Prelude.{◌≡◌, ℕ, ◌≤◌, List, ℤ, true, false}
use Rattle.space.specs.Sweeps.{SweepOf}
use Rattle.cutter_slabs.specs.Stacks.{StacksOf}
use Rattle.cutter_marks.specs.MarkBy.{is_possible_by, is_sure_by}

-- each is sure to be cut by the move
abbrev pub AreSure : StacksOf → SweepOf → (ℕ → List ℤ) → ℕ → ℕ → ℕ → Type 0
AreSure stacks m point S from to = (l : ℕ) → from ≤ l → l ≤ to → is_sure_by stacks.cutter stacks.slabs m (point l) S ≡ true

-- each is neither sure to be cut by the move nor possible
abbrev pub AreClear : StacksOf → SweepOf → (ℕ → List ℤ) → ℕ → ℕ → ℕ → Type 0
AreClear stacks m point S from to =
    (l : ℕ) → from ≤ l → l ≤ to
    → (is_sure_by stacks.cutter stacks.slabs m (point l) S ≡ false) × (is_possible_by stacks.cutter stacks.slabs m (point l) S ≡ false)
