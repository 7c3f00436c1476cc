-- Boxes in time and along a ray: the part of a move from the sample j to the sample k of a scale S, for the points of a ray from p
-- to q. Along the ray the offset is linear, as it is in time. So u is a grid of degree 2 in time and 1 along the ray, and the
-- quantities that the cell rule compares are grids of degree 4 and 2.
use Rattle.std.specs.Prelude.{ℕ, zero, suc, ◌+◌, ◌-◌, ◌/◌, ◌^◌, ◌≤◌, ◌<◌, List, ℤ, pos, Bool, not, ◌||◌, nat_le, nat_lt, if◌then◌else◌}
use Rattle.std.specs.List.{list_any}
use Rattle.space.specs.Sweeps.{SweepOf}
use Rattle.bern_form.specs.Slab.{SlabSize}
use Rattle.ray_boxes.specs.Boxes.{is_excluded_in_box}

-- a box is undecided where some of the slabs is not excluded on it: the one of 2^n cells from the sample j, for the points of a
-- line from the index a on and below b
abbrev pub is_undecided : List SlabSize → SweepOf → (ℕ → List ℤ) → ℕ → ℕ → ℕ → ℕ → ℕ → Bool
is_undecided slabs m point S n j a b =
    list_any (λ s. not (is_excluded_in_box m (point a) (point (b - 1)) j (j + 2 ^ n) S s)) slabs

-- where two or more indices are halved
abbrev pub middle : ℕ → ℕ → ℕ
middle a b = a + (b - a) / 2

abbrev pub is_long : ℕ → ℕ → Bool
is_long a b = nat_le 2 (b - a)

-- the sum of the weights w over the halves of indices, or where there is only one index its weight
abbrev pub along : (ℕ → ℕ → ℕ) → ℕ → ℕ → ℕ
along w a b = if is_long a b then w a (middle a b) + w (middle a b) b else w a b

-- The sum of the weights w over a box's children. A box of more than one cell is halved in time, one of two or more indices along
-- the ray; one that can be halved in both ways has four children, one that can be halved in neither none.
abbrev pub over_children : (ℕ → ℕ → ℕ → ℕ → ℕ) → ℕ → ℕ → ℕ → ℕ → ℕ
over_children w zero j a b = if is_long a b then along (w 0 j) a b else 0
over_children w (suc n) j a b = along (w n j) a b + along (w n (j + 2 ^ n)) a b

-- The weight of a box by the test whether boxes are undecided: 0 where it is not, else 1 and the weights of its children. So it is
-- how many boxes are undecided of this one, its children and theirs. `halvings` is at least the number of levels and indices
-- together: no box is halved more often.
unfoldable pub weight : (ℕ → ℕ → ℕ → ℕ → Bool) → ℕ → ℕ → ℕ → ℕ → ℕ → ℕ
weight undecided zero n j a b = 0
weight undecided (suc halvings) n j a b =
    if undecided n j a b then 1 + over_children (weight undecided halvings) n j a b else 0

-- of the whole move at the cells of a depth, for the points from a on and below b; with no point there is no box
abbrev pub undecided_along : List SlabSize → SweepOf → (ℕ → List ℤ) → ℕ → ℕ → ℕ → ℕ
undecided_along slabs m point depth a b =
    if nat_lt a b then weight (is_undecided slabs m point (2 ^ depth)) (depth + (b - a)) depth 0 a b else 0

-- a box of a move of S cells and of a line of `points` points
pub record IsBox (levels first from to S points : ℕ) : Type 0 where
  pub few : levels ≤ 10
  pub cells : first + 2 ^ levels ≤ S
  pub some : from < to
  pub within : to ≤ points
