-- What a move changes on the rays of a strip, and what it finds there, by the sets of the rays.
use Rattle.std.specs.Prelude.{◌≡◌, ℕ, ◌<◌, true, Bool, not, ◌&&◌, ◌||◌, nat_eq, nat_lt, IsTrue, List, length, map, slice_index_or, All}
use Rattle.std.specs.List.{list_any, range_with_len}
use Rattle.vf_spans.specs.Members.{has}
use Rattle.vf_spans.specs.Words.{in_word}
use Rattle.ray_grid.specs.Grids.{GridSize}
use Rattle.ray_grid.specs.declared.ray.Family.TheVariants.{X}
use Rattle.ray_grid.specs.declared.ray.Ray.{Ray}
use Rattle.ray_grid.specs.Lattice.{points_of}
use Rattle.ray_grid.specs.Points.{LatticePoint, point_in}
use Rattle.ray_grid.specs.Strips.{strip_at}
use Rattle.job_counts.specs.declared.counts.Counts.{Counts}
use Rattle.dexel_rays.specs.Findings.{Seen, findings}
use Rattle.dexel_rays.specs.Sets.{HaveBound, Sets}
use Rattle.ray_words.specs.Rays.{IsBelow, IsKept, KeptSets}
use Rattle.ray_words.specs.Rows.{kept_at}
use Rattle.job_model.specs.Points.{is_possible, is_sure}
use Rattle.job_model.specs.Sums.{sum_counts}
use Rattle.job_model.specs.Tasks.{JobMove, PlanOf}
use Rattle.strip_marks.specs.declared.change.WordChange.{WordChange}

-- ray n of a strip, how many points it has, and its point with an index
abbrev pub ray_of : GridSize → ℕ → ℕ → Ray
ray_of grid strip n = slice_index_or (strip_at grid strip) n record { family = X; i = 0; j = 0 }

abbrev pub points_at : GridSize → ℕ → ℕ → ℕ
points_at grid strip n = points_of grid (ray_of grid strip n).family

abbrev pub point_at : GridSize → ℕ → ℕ → ℕ → LatticePoint
point_at grid strip n l = point_in grid (ray_of grid strip n) l

-- the sets of ray n
abbrev pub sets_of : List KeptSets → ℕ → Sets
sets_of rays n = (kept_at rays n).sets

-- the rays are those of a strip, and no point is sure that isn't possible
pub record AreRays (grid : GridSize) (strip : ℕ) (rays : List KeptSets) : Type 0 where
  pub many : length rays ≡ length (strip_at grid strip)
  pub bounds : (n : ℕ) → n < length rays → HaveBound (points_at grid strip n) (sets_of rays n)
  pub possible : (n l : ℕ) → n < length rays → has (sets_of rays n).sure l ≡ true → has (sets_of rays n).possible l ≡ true

-- the same number of rays with the same sets; the words that were kept are kept still
pub record HaveSameSets (before after : List KeptSets) : Type 0 where
  pub many : length after ≡ length before
  pub sets : (n : ℕ) → n < length before → sets_of after n ≡ sets_of before n
  pub kept : (n k : ℕ) → n < length before → IsKept (kept_at before n) k → IsKept (kept_at after n) k

-- the move is sure of the point of ray n with the index l, and possible there
abbrev pub sure_there : PlanOf → JobMove → ℕ → ℕ → ℕ → Bool
sure_there plan move strip n l = is_sure plan move (point_at plan.grid strip n l)

abbrev pub possible_there : PlanOf → JobMove → ℕ → ℕ → ℕ → Bool
possible_there plan move strip n l = is_possible plan move (point_at plan.grid strip n l)

-- what is known of the point of a ray with the index l, by the ray's sets, at a move that is sure and possible by these tests
abbrev pub seen_on : Sets → (ℕ → Bool) → (ℕ → Bool) → Bool → ℕ → Seen
seen_on d sure possible rapid l = record {
  stock = has d.stock l;
  part = has d.part l;
  fixture = has d.fixture l;
  sure_before = has d.sure l;
  possible_before = has d.possible l;
  sure = sure l;
  possible = possible l;
  rapid = rapid;
}

-- what a move finds on ray n of a strip, and on the whole strip
abbrev pub ray_found : PlanOf → JobMove → ℕ → List KeptSets → ℕ → Counts
ray_found plan move strip rays n =
    findings (seen_on (sets_of rays n) (sure_there plan move strip n) (possible_there plan move strip n) move.rapid)
    (range_with_len 0 (points_at plan.grid strip n))

abbrev pub strip_found : PlanOf → JobMove → ℕ → List KeptSets → Counts
strip_found plan move strip rays = sum_counts (map (ray_found plan move strip rays) (range_with_len 0 (length rays)))

-- the points of a change, of which a move is sure or at which it is possible
abbrev pub sure_of : WordChange → ℕ
sure_of change = change.sure

abbrev pub possible_of : WordChange → ℕ
possible_of change = change.possible

-- some of the changes has the index l of ray n
abbrev pub among : (WordChange → ℕ) → List WordChange → ℕ → ℕ → Bool
among pick changes n l = list_any (λ change. nat_eq change.ray n && in_word change.word (pick change) l) changes

-- a change is at a kept word of one of the rays, and has only points of the ray
pub record IsChangeOn (rays : List KeptSets) (change : WordChange) : Type 0 where
  pub ray : change.ray < length rays
  pub kept : IsKept (kept_at rays change.ray) change.word
  pub sure : IsBelow (length (sets_of rays change.ray).stock) change.word change.sure
  pub possible : IsBelow (length (sets_of rays change.ray).stock) change.word change.possible

-- a change comes before another: at a ray before its ray, or at a word before its word
abbrev pub is_ahead : WordChange → WordChange → Bool
is_ahead a b = nat_lt a.ray b.ray || (nat_eq a.ray b.ray && nat_lt a.word b.word)

-- each change comes before the later ones
pub record AreInOrder (changes : List WordChange) : Type 0 where
  pub each : (i k : ℕ) (d : WordChange) → i < k → k < length changes
      → IsTrue (is_ahead (slice_index_or changes i d) (slice_index_or changes k d))

-- the changes are the stock points that the move marks and that were not in the sets, over the whole strip; and the counts are what it finds there
pub record IsMarkedStrip (plan : PlanOf) (move : JobMove) (strip : ℕ) (before after : List KeptSets) (changes : List WordChange)
    (counts : Counts) : Type 0 where
  pub sure : (n l : ℕ) → n < length before → l < points_at plan.grid strip n
      → among sure_of changes n l ≡ (has (sets_of before n).stock l && (sure_there plan move strip n l && not (has (sets_of before n).sure l)))
  pub possible : (n l : ℕ) → n < length before → l < points_at plan.grid strip n
      → among possible_of changes n l ≡ (has (sets_of before n).stock l && (possible_there plan move strip n l && not (has (sets_of before n).possible l)))
  pub on : All (IsChangeOn after) changes
  pub order : AreInOrder changes
  pub found : counts ≡ strip_found plan move strip before
