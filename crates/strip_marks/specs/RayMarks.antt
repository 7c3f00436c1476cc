-- What a move changes on a ray, and what it finds there.
use Rattle.std.specs.Prelude.{◌≡◌, ℕ, ◌+◌, ◌-◌, ◌*◌, ◌/◌, ◌<◌, ◌≤◌, ◌^◌, ◌⊎◌, true, false, Bool, not, ◌&&◌, List, ◌++◌, length, slice_index_or, All}
use Rattle.std.specs.List.{range_with_len}
use Rattle.vf_spans.specs.Members.{has, in_range}
use Rattle.vf_spans.specs.Words.{has_bit, words_below}
use Rattle.near_points.specs.Rays.{CylinderRayOf, IsHeldAt, IsKeptAt}
use Rattle.ray_grid.specs.Lattice.{points_of}
use Rattle.job_counts.specs.declared.counts.Counts.{Counts}
use Rattle.job_counts.specs.Counts.{AreWithin, most_count, plus}
use Rattle.dexel_rays.specs.Findings.{findings}
use Rattle.dexel_rays.specs.Sets.{Sets}
use Rattle.ray_words.specs.Rays.{IsBelow, IsKept, KeptSets, is_wanted_at}
use Rattle.wanted_marks.specs.Rays.{AreOnRay, RayOf, is_possible_at, is_sure_at}
use Rattle.strip_plan.specs.Windows.{IsFrom}
use Rattle.strip_marks.specs.declared.candidate_word.CandidateWord.{CandidateWord}
use Rattle.strip_marks.specs.declared.change.WordChange.{WordChange}
use Rattle.strip_marks.specs.declared.move_changes.MoveChanges.{MoveChanges}
use Rattle.strip_marks.specs.Marks.{AreInOrder, among, possible_of, seen_on, sure_of}

-- the changes go on with further ones and the counts with what was found, of which a fact holds
pub record Adds (before after : MoveChanges) (fact : List WordChange → Counts → Type 0) : Type 0 where
  pub added : List WordChange
  pub found : Counts
  pub joined : after.changes.items ≡ before.changes.items ++ added
  pub summed : after.counts ≡ plus before.counts found
  pub holds : fact added found

-- no count wraps where `points` more points are counted
abbrev pub CanCount : ℕ → Counts → Type 0
CanCount points counts = AreWithin (most_count - points) counts

-- a candidate, an index at which a move has to be tested: it is wanted, in the move's window, and the move's cylinder holds its point
pub record IsAskedAt (near : CylinderRayOf) (d : Sets) (window : ℕ × ℕ) (l : ℕ) : Type 0 where
  pub wanted : is_wanted_at d l ≡ true
  pub in_window : in_range l window ≡ true
  pub kept : IsKeptAt near l

-- an index that may be a candidate: the move's cylinder where it is widest holds its point
pub record MayBeAskedAt (near : CylinderRayOf) (d : Sets) (window : ℕ × ℕ) (l : ℕ) : Type 0 where
  pub wanted : is_wanted_at d l ≡ true
  pub in_window : in_range l window ≡ true
  pub held : IsHeldAt near l

-- there is no candidate
abbrev pub IsUnasked : CylinderRayOf → Sets → ℕ × ℕ → Type 0
IsUnasked near d window = (l : ℕ) → IsAskedAt near d window l → ⊥

-- bit b of a word is set where the index 64 n + b is a candidate, and only where it may be one
pub record AreAskedIn (near : CylinderRayOf) (d : Sets) (window : ℕ × ℕ) (n asked : ℕ) : Type 0 where
  pub all : (b : ℕ) → b < 64 → IsAskedAt near d window (64 * n + b) → has_bit asked b ≡ true
  pub only : (b : ℕ) → b < 64 → has_bit asked b ≡ true → MayBeAskedAt near d window (64 * n + b)

-- before a word of the window there is no candidate
pub record HasNoneAsked (near : CylinderRayOf) (d : Sets) (window : ℕ × ℕ) (word : ℕ) : Type 0 where
  pub from : window.0 / 64 ≤ word
  pub to : word ≤ words_below window.1
  pub none : (l : ℕ) → l < 64 * word → IsAskedAt near d window l → ⊥

-- a word before which there is no candidate, and its bits
pub record IsFirstAsked (near : CylinderRayOf) (d : Sets) (window : ℕ × ℕ) (first : CandidateWord) : Type 0 where
  pub ahead : HasNoneAsked near d window first.word
  pub inside : 64 * first.word < window.1
  pub asked : AreAskedIn near d window first.word first.points

-- the cylinder is one on the same ray, and it holds each point at which the move is possible
pub record IsNearOf (near : CylinderRayOf) (r : RayOf) : Type 0 where
  pub grid : near.grid ≡ r.grid
  pub ray : near.ray ≡ r.ray
  pub holds : (l : ℕ) → l < points_of r.grid r.ray.family → is_possible_at r l ≡ true → IsKeptAt near l

-- the index isn't wanted, or the move is neither sure nor possible there
abbrev pub IsIdle : Sets → (ℕ → Bool) → (ℕ → Bool) → ℕ → Type 0
IsIdle d sure possible l = (is_wanted_at d l ≡ false) ⊎ ((sure l ≡ false) × (possible l ≡ false))

-- the bits of word n are wanted points of the ray, and every other point of the word is idle
pub record AreAsked (r : RayOf) (d : Sets) (n asked : ℕ) : Type 0 where
  pub on_ray : AreOnRay r (64 * n) asked
  pub wanted : (b : ℕ) → b < 64 → has_bit asked b ≡ true → is_wanted_at d (64 * n + b) ≡ true
  pub others : (b : ℕ) → b < 64 → 64 * n + b < length d.stock → has_bit asked b ≡ false
      → IsIdle d (is_sure_at r) (is_possible_at r) (64 * n + b)

-- a change of ray n, which has `bound` points, at one of the words from the one on and below the other; it has only points of the ray
pub record IsChangeIn (bound n lo hi : ℕ) (change : WordChange) : Type 0 where
  pub ray : change.ray ≡ n
  pub from : lo ≤ change.word
  pub below : change.word < hi
  pub sure : IsBelow bound change.word change.sure
  pub possible : IsBelow bound change.word change.possible

-- what a move that is sure and possible by these tests changes in the words of ray n from the one on and below the other, by the
-- ray's sets, and what it finds there
pub record AreWordsMarked (d : Sets) (sure possible : ℕ → Bool) (rapid : Bool) (n lo hi : ℕ) (changes : List WordChange)
    (counts : Counts) : Type 0 where
  pub new_sure : (l : ℕ) → 64 * lo ≤ l → l < 64 * hi → l < length d.stock → among sure_of changes n l ≡ (has d.stock l && (sure l && not (has d.sure l)))
  pub new_possible : (l : ℕ) → 64 * lo ≤ l → l < 64 * hi → l < length d.stock
      → among possible_of changes n l ≡ (has d.stock l && (possible l && not (has d.possible l)))
  pub each : All (IsChangeIn (length d.stock) n lo hi) changes
  pub order : AreInOrder changes
  pub found : counts ≡ findings (seen_on d sure possible rapid) (range_with_len (64 * lo) (64 * (hi - lo)))

-- changes of one ray: their words are below a number, and no word is below that of an earlier change
pub record HaveWordsBelow (most : ℕ) (changes : List WordChange) : Type 0 where
  pub below : (i : ℕ) (d : WordChange) → i < length changes → (slice_index_or changes i d).word < most
  pub order : (i k : ℕ) (d : WordChange) → i ≤ k → k < length changes
      → (slice_index_or changes i d).word ≤ (slice_index_or changes k d).word

-- the change's word is kept
abbrev pub IsAtKept : KeptSets → WordChange → Type 0
IsAtKept ray change = IsKept ray change.word

-- from the one index of the ray to the other lie all at which the move is possible; where it is sure it is possible
pub record IsWindow (r : RayOf) (lo hi : ℕ) : Type 0 where
  pub order : lo ≤ hi
  pub within : hi ≤ points_of r.grid r.ray.family
  pub holds : (l : ℕ) → l < points_of r.grid r.ray.family → is_possible_at r l ≡ true → IsFrom lo hi l
  pub both : (l : ℕ) → is_sure_at r l ≡ true → is_possible_at r l ≡ true

-- the sets are the same, and the words that were kept are kept still
pub record HasSameSets (before after : KeptSets) : Type 0 where
  pub sets : after.sets ≡ before.sets
  pub kept : (k : ℕ) → IsKept before k → IsKept after k

-- a change of ray n at a word that is kept; it has only points of the ray
pub record IsChangeOf (ray : KeptSets) (n : ℕ) (change : WordChange) : Type 0 where
  pub number : change.ray ≡ n
  pub kept : IsKept ray change.word
  pub sure : IsBelow (length ray.sets.stock) change.word change.sure
  pub possible : IsBelow (length ray.sets.stock) change.word change.possible

-- what a move that is sure and possible by these tests changes on ray n, by the ray's sets, and what it finds there
pub record IsRayMarked (after : KeptSets) (sure possible : ℕ → Bool) (rapid : Bool) (n : ℕ) (changes : List WordChange)
    (counts : Counts) : Type 0 where
  pub new_sure : (l : ℕ) → l < length after.sets.stock → among sure_of changes n l ≡ (has after.sets.stock l && (sure l && not (has after.sets.sure l)))
  pub new_possible : (l : ℕ) → l < length after.sets.stock
      → among possible_of changes n l ≡ (has after.sets.stock l && (possible l && not (has after.sets.possible l)))
  pub each : All (IsChangeOf after n) changes
  pub order : AreInOrder changes
  pub found : counts ≡ findings (seen_on after.sets sure possible rapid) (range_with_len 0 (length after.sets.stock))
  pub few : length after.sets.stock < 2 ^ 32
