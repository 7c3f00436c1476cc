-- What a move makes of the sets of a ray, and what taking it back makes of them.
use Rattle.std.specs.Prelude.{◌≡◌, ℕ, Bool, not, ◌&&◌, ◌||◌, List, length}
use Rattle.std.specs.List.{range_with_len}
use Rattle.vf_spans.specs.Members.{has}
use Rattle.dexel_rays.specs.declared.delta.Delta.{Delta}
use Rattle.dexel_rays.specs.Findings.{findings}
use Rattle.dexel_rays.specs.Sets.{Sets, HaveBound, seen_at}

-- the delta of a move: what it marks and was not in the sets, and what it finds over all points of the ray
pub record IsDelta (before : Sets) (sure possible : List Bool) (rapid : Bool) (delta : Delta) : Type 0 where
  pub sure_bound : length delta.sure ≡ length before.stock
  pub possible_bound : length delta.possible ≡ length before.stock
  pub new_sure : (i : ℕ) → has delta.sure i ≡ (has sure i && not (has before.sure i))
  pub new_possible : (i : ℕ) → has delta.possible i ≡ (has possible i && not (has before.possible i))
  pub counts : delta.counts ≡ findings (seen_at before sure possible rapid) (range_with_len 0 (length before.stock))

-- the sets with what a move marks; the bodies stay
pub record IsUnited (before : Sets) (sure possible : List Bool) (after : Sets) : Type 0 where
  pub bound_before : HaveBound (length before.stock) before
  pub bound_after : HaveBound (length before.stock) after
  pub stock : after.stock ≡ before.stock
  pub part : after.part ≡ before.part
  pub fixture : after.fixture ≡ before.fixture
  pub all_sure : (i : ℕ) → has after.sure i ≡ (has before.sure i || has sure i)
  pub all_possible : (i : ℕ) → has after.possible i ≡ (has before.possible i || has possible i)

-- the sets without a delta's indices; the bodies stay
pub record IsWithout (before : Sets) (delta : Delta) (after : Sets) : Type 0 where
  pub bound_after : HaveBound (length before.stock) after
  pub stock : after.stock ≡ before.stock
  pub part : after.part ≡ before.part
  pub fixture : after.fixture ≡ before.fixture
  pub left_sure : (i : ℕ) → has after.sure i ≡ (has before.sure i && not (has delta.sure i))
  pub left_possible : (i : ℕ) → has after.possible i ≡ (has before.possible i && not (has delta.possible i))

-- both sets of marks have the index afterwards exactly where they had it before
pub record StaysAt (before after : Sets) (i : ℕ) : Type 0 where
  pub sure : has after.sure i ≡ has before.sure i
  pub possible : has after.possible i ≡ has before.possible i
