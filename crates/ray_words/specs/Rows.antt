-- The rays of a strip, and of each a range of indices at which no move has to be tested.
use Rattle.std.specs.Prelude.{◌≡◌, ℕ, ◌<◌, List, [], length, slice_index_or}
use Rattle.ray_words.specs.Rays.{HasNoneWanted, KeptSets}

-- ray n
abbrev pub kept_at : List KeptSets → ℕ → KeptSets
kept_at rays n = slice_index_or rays n record {
  sets = record { stock = []; part = []; fixture = []; sure = []; possible = [] };
  first = 0;
  count = 0;
}

-- as many ranges as rays, and at no index of its range has a move to be tested on a ray
pub record AreSettled (rays : List KeptSets) (ranges : List (ℕ × ℕ)) : Type 0 where
  pub many : length ranges ≡ length rays
  pub none : (n : ℕ) (range : ℕ × ℕ) → n < length rays → HasNoneWanted (kept_at rays n).sets (slice_index_or ranges n range)
