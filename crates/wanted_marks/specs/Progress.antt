-- The marks of a word of wanted points, some of which are left to be marked.
use Rattle.std.specs.Prelude.{◌≡◌, ℕ, ◌+◌, ◌≤◌, ◌<◌, true, false, not, ◌&&◌}
use Rattle.ray_grid.specs.Lattice.{point_of}
use Rattle.vf_spans.specs.Words.{has_bit}
use Rattle.wanted_marks.specs.declared.word_progress.WordProgress.{WordProgress}
use Rattle.wanted_marks.specs.Rays.{IsRemovedBy, RayOf, is_possible_at, is_sure_at}

-- The bits that are left are wanted. Of the others it is known which wanted ones are sure, and, where not only that is wanted, which are
-- possible.
pub record IsProgressOf (progress : WordProgress) (r : RayOf) (first wanted sure_only : ℕ) : Type 0 where
  pub among : (k : ℕ) → k < 64 → has_bit progress.rest k ≡ true → has_bit wanted k ≡ true
  pub sure : (k : ℕ) → k < 64
      → has_bit progress.marks.sure k ≡ ((has_bit wanted k && not (has_bit progress.rest k)) && is_sure_at r (first + k))
  pub possible : (k : ℕ) → k < 64 → has_bit sure_only k ≡ false
      → has_bit progress.marks.possible k ≡ ((has_bit wanted k && not (has_bit progress.rest k)) && is_possible_at r (first + k))

-- each word with the one part before has the other one now
abbrev pub FollowsFrom : WordProgress → WordProgress → RayOf → ℕ → ℕ → Type 0
FollowsFrom now before r first sure_only =
    (wanted : ℕ) → IsProgressOf before r first wanted sure_only → IsProgressOf now r first wanted sure_only

-- each bit of a word is one of another
abbrev pub AreAmong : ℕ → ℕ → Type 0
AreAmong rest before = (k : ℕ) → k < 64 → has_bit rest k ≡ true → has_bit before k ≡ true

-- each point of the bits is at the index l or above
abbrev pub AreFrom : ℕ → ℕ → ℕ → Type 0
AreFrom l first rest = (k : ℕ) → k < 64 → has_bit rest k ≡ true → l ≤ first + k

-- the points of these bits are sure, and so possible
abbrev pub AreRemoved : RayOf → ℕ → ℕ → Type 0
AreRemoved r first bits = (k : ℕ) → k < 64 → has_bit bits k ≡ true → IsRemovedBy r.sweep (point_of r.grid r.ray (first + k))
