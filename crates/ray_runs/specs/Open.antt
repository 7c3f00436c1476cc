-- The part of a move outside of which the points of a line are clear.
use Rattle.std.specs.Prelude.{ℕ, ◌+◌, ◌^◌, ◌≤◌, Option, None, Some, List, ℤ}
use Rattle.std.specs.Option.{MatchOption}
use Rattle.space.specs.Sweeps.{SweepOf}
use Rattle.cutter_slabs.specs.Stacks.{StacksOf, outer_stack}
use Rattle.ray_runs.specs.Missed.{AreOut, AreOutBeside}
use Rattle.ray_runs.specs.declared.clear.OpenStretch.{OpenStretch}

-- Between the samples j and k none of the slabs that are no wider than a diameter whose scaled square is f is left on a cell outside of
-- the stretch, for the points from one index to another.
pub record AreOutAround (s : OpenStretch) (f : ℤ) (m : SweepOf) (point : ℕ → List ℤ) (S from to j k : ℕ) : Type 0 where
  pub few : s.levels ≤ 10
  pub after : j ≤ s.first
  pub before : s.first + 2 ^ s.levels ≤ k
  pub early : AreOutBeside f m point S from to j s.first
  pub late : AreOutBeside f m point S from to (s.first + 2 ^ s.levels) k

-- nor, where there is none, on any cell
abbrev pub AreOutBut : Option OpenStretch → ℤ → SweepOf → (ℕ → List ℤ) → ℕ → ℕ → ℕ → ℕ → ℕ → Type 0
AreOutBut found f m point S from to j k =
    MatchOption found (AreOutBeside f m point S from to j k) (λ s. AreOutAround s f m point S from to j k)

-- the stretch that has both, where each half has one, or the one that there is
abbrev pub joined_stretch : Option OpenStretch → Option OpenStretch → OpenStretch → Option OpenStretch
joined_stretch None late whole = late
joined_stretch (Some early) None whole = Some early
joined_stretch (Some early) (Some late) whole = Some whole

-- outside of the stretch no outer slab is left on a cell of the move, for the points from one index to another
pub record IsOpenOnly (s : OpenStretch) (stacks : StacksOf) (m : SweepOf) (point : ℕ → List ℤ) (S from to : ℕ) : Type 0 where
  pub few : s.levels ≤ 10
  pub within : s.first + 2 ^ s.levels ≤ S
  pub early : AreOut (outer_stack stacks.cutter stacks.slabs) m point S from to 0 s.first
  pub late : AreOut (outer_stack stacks.cutter stacks.slabs) m point S from to (s.first + 2 ^ s.levels) S
