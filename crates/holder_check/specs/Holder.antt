-- What the holder above a cutter does to a point. The holder is one slab: the heights above the tip between which it lies, and its
-- diameter. Lengths are micrometres.
use Rattle.std.specs.Prelude.{ℕ, ◌+◌, ℤ, ◌+ℤ◌, List, Bool, not, ◌&&◌, IsTrue}
use Rattle.space.specs.Reach.{is_in_reach}
use Rattle.space.specs.Sweeps.{SweepOf, IsTime}
use Rattle.bern_form.specs.Slab.{SlabSize, holds_at}
use Rattle.bern_form.specs.Cells.{is_excluded}
use Rattle.bern_form.specs.Marks.{some_below}

-- the holder meets the point p: its slab holds it at some rational time of the move
pub record HolderMeets (holder : SlabSize) (m : SweepOf) (p : List ℤ) : Type 0 where
  pub numerator : ℕ
  pub denominator : ℕ
  pub time : IsTime numerator denominator
  pub held : IsTrue (holds_at holder m p numerator denominator)

-- how far from the tip the holder reaches along each axis: its upper end and its diameter together
abbrev pub holder_reach : SlabSize → ℤ
holder_reach holder = holder.hi +ℤ holder.dia

-- the holder is sure to meet the point: its slab holds it at a sample, one of the times k / S from k = 0 to S
unfoldable pub is_holder_sure : SlabSize → SweepOf → List ℤ → ℕ → Bool
is_holder_sure holder m p S = some_below (λ k. holds_at holder m p k S) (S + 1)

-- the holder may meet the point: it is in the holder's reach, and the slab is not excluded on some cell of S
unfoldable pub is_holder_possible : SlabSize → SweepOf → List ℤ → ℕ → Bool
is_holder_possible holder m p S =
    is_in_reach (holder_reach holder) m.from m.to p && some_below (λ k. not (is_excluded holder m p k S)) S
