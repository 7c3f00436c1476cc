-- Boxes that cover what a move may meet.
use Rattle.std.specs.Prelude.{◌≡◌, true, ℕ, ◌+◌, ◌≤◌, ◌<◌, List, length, slice_index_or, ℤ}
use Rattle.space.specs.Sweeps.{SweepOf}
use Rattle.bern_form.specs.Between.{is_unexcluded_between}
use Rattle.bern_form.specs.Slab.{SlabSize}
use Rattle.sweep_boxes.specs.declared.point_box.PointBox.{PointBox}
use Rattle.sweep_boxes.specs.Boxes.{IsInBox}

-- the point lies in one of the boxes from a place on
pub record IsInSome (boxes : List PointBox) (start : ℕ) (p : List ℤ) : Type 0 where
  pub place : ℕ
  pub after : start ≤ place
  pub within : place < length boxes
  pub inside : (d : PointBox) → IsInBox (slice_index_or boxes place d) p

-- box n from a place on, for each n below a number of parts, holds the points of the region that some slab is left at on part n
pub record CoverParts (boxes : List PointBox) (start parts : ℕ) (region : PointBox) (slabs : List SlabSize) (m : SweepOf) (S : ℕ)
    : Type 0 where
  pub long : length boxes ≡ start + parts
  pub each : (n : ℕ) (p : List ℤ) (d : PointBox) → n < parts → IsInBox region p → is_unexcluded_between slabs m p n (n + 1) S ≡ true
      → IsInBox (slice_index_or boxes (start + n) d) p
