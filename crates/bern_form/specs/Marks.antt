-- One point's marks by the slabs of one move, as tests: held at a sample, left on a cell, possible.
use Rattle.std.specs.Prelude.{◌≡◌, ℕ, ◌+◌, ℤ, List, Bool, false, not, ◌&&◌}
use Rattle.std.specs.List.{list_any, range_with_len}
use Rattle.space.specs.Reach.{is_in_reach}
use Rattle.space.specs.Sweeps.{SweepOf, IsTime}
use Rattle.bern_form.specs.Slab.{SlabSize, holds_at}
use Rattle.bern_form.specs.Cells.{is_excluded}

-- some number below n passes the test
abbrev pub some_below : (ℕ → Bool) → ℕ → Bool
some_below test n = list_any test (range_with_len 0 n)

-- some of the slabs holds the point at the time a / b
abbrev pub some_holds : List SlabSize → SweepOf → List ℤ → ℕ → ℕ → Bool
some_holds slabs m p a b = list_any (λ s. holds_at s m p a b) slabs

-- some of the slabs holds the point at a sample, one of the times k / S from k = 0 to S
abbrev pub held_at_sample : List SlabSize → SweepOf → List ℤ → ℕ → Bool
held_at_sample slabs m p S = some_below (λ k. some_holds slabs m p k S) (S + 1)

-- some of the slabs is not excluded on cell k of S
abbrev pub is_unexcluded_on : List SlabSize → SweepOf → List ℤ → ℕ → ℕ → Bool
is_unexcluded_on slabs m p k S = list_any (λ s. not (is_excluded s m p k S)) slabs

-- some of the slabs is not excluded on some cell of S
abbrev pub is_unexcluded_on_cell : List SlabSize → SweepOf → List ℤ → ℕ → Bool
is_unexcluded_on_cell slabs m p S = some_below (λ k. is_unexcluded_on slabs m p k S) S

-- the point is within reach of the move, and some of the outer slabs is left on some cell of S
abbrev pub is_possible_with : List SlabSize → ℤ → SweepOf → List ℤ → ℕ → Bool
is_possible_with outer reach m p S = is_in_reach reach m.from m.to p && is_unexcluded_on_cell outer m p S

-- none of the slabs holds the point at any rational time of the move
abbrev pub NeverHeld : List SlabSize → SweepOf → List ℤ → Type 0
NeverHeld slabs m p = (a b : ℕ) → IsTime a b → some_holds slabs m p a b ≡ false
