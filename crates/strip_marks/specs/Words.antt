-- What a move changes at 64 points of a ray, and what it finds there.
use Rattle.std.specs.Prelude.{◌≡◌, ℕ, ◌==◌, true, Bool, ◌&&◌, if◌then◌else◌, List, [], ◌∷◌}
use Rattle.std.specs.List.{range_with_len}
use Rattle.vf_spans.specs.Members.{has}
use Rattle.ray_grid.specs.Lattice.{points_of}
use Rattle.job_counts.specs.declared.counts.Counts.{Counts}
use Rattle.dexel_rays.specs.declared.word_sets.WordDelta.{WordDelta}
use Rattle.dexel_rays.specs.declared.word_sets.WordSets.{WordSets}
use Rattle.dexel_rays.specs.Findings.{findings}
use Rattle.dexel_rays.specs.Sets.{HaveBound, Sets}
use Rattle.dexel_rays.specs.WordSets.{IsWordDelta, seen_bit}
use Rattle.wanted_marks.specs.Rays.{RayOf}
use Rattle.strip_marks.specs.declared.change.WordChange.{WordChange}

-- the sets are those of the ray, and no point is sure that isn't possible
pub record AreSetsOf (r : RayOf) (d : Sets) : Type 0 where
  pub bound : HaveBound (points_of r.grid r.ray.family) d
  pub ordered : (l : ℕ) → has d.sure l ≡ true → has d.possible l ≡ true

-- what is noted of word k of ray n: a change, if anything changes
abbrev pub noted : ℕ → ℕ → WordDelta → List WordChange
noted n k delta =
    if delta.sure == 0 && delta.possible == 0 then [] else record { ray = n; word = k; sure = delta.sure; possible = delta.possible } ∷ []

-- what a move that marks these bits changes at word k of ray n and finds there is noted and counted
pub record AreMarksAdded (w : WordSets) (sure possible : ℕ) (rapid : Bool) (n k : ℕ) (changes : List WordChange) (counts : Counts)
    : Type 0 where
  pub delta : WordDelta
  pub is_delta : IsWordDelta w sure possible delta
  pub is_noted : changes ≡ noted n k delta
  pub found : counts ≡ findings (seen_bit w sure possible rapid) (range_with_len 0 64)
