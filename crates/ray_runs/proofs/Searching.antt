-- What the pairs at both ends of a stretch say of the points that are searched.
use Rattle.std.proofs.Common.{◌≡◌, ℕ, ◌+◌, ◌^◌, ◌≤◌, FitsSigned, IsTrue, to_z, of_z, refl, subst, sym}
use Rattle.std.proofs.lemmas.Int.{to_z-of_z}
use mir.Syntax.{w64}
use Rattle.ray_grid.specs.Lattice.{point_of}
use Rattle.ray_boxes.proofs.Lines.{ray_line}
use Rattle.ray_runs.specs.Missed.{AreBesideAt, AreMissed, AreOutBeside}
use Rattle.ray_runs.specs.Open.{AreOutAround}
use Rattle.ray_runs.specs.Searched.{IsPairOf}
use Rattle.ray_runs.specs.declared.pair.Pair.{Pair}
use Rattle.ray_runs.specs.declared.searched.Searched.{Searched}
use Rattle.ray_runs.proofs.Open.{out_around_whole}
use Rattle.ray_runs.proofs.Within.{apart_out}

pub pair_at : (x : Searched) (j k : ℕ) (pair : Pair) → j ≡ k → IsPairOf x j pair → IsPairOf x k pair
pair_at x j k pair e at = subst (λ i. IsPairOf x i pair) e at

-- The square goes to a call as a word, and is the same number there.
pub beside_by_word : (x : Searched) (k : ℕ) (pair : Pair) → FitsSigned w64 x.square → IsPairOf x k pair → IsTrue pair.is_beside
    → AreBesideAt (to_z w64 (of_z w64 x.square)) pair.first_moment pair.last_moment pair.first.axis
beside_by_word x k pair fits at h =
    subst (λ f. AreBesideAt f pair.first_moment pair.last_moment pair.first.axis) (sym (to_z-of_z w64 x.square fits)) (at.beside h)

pub apart_between : (x : Searched) (j k : ℕ) (start end : Pair) → FitsSigned w64 x.square → IsPairOf x j start → IsPairOf x k end
    → AreMissed (to_z w64 (of_z w64 x.square)) start.first.offset end.first.offset start.last.offset end.last.offset start.first.axis end.first.axis
    → AreOutBeside x.square x.sweep.now (point_of x.grid.now x.ray.now) x.scale x.from x.to j k
apart_between x j k start end fits at_j at_k apart =
    apart_out x.sweep.now (point_of x.grid.now x.ray.now) x.scale x.from x.to j k x.square _ _ _ _ _ _ (ray_line x.grid.now x.ray.now) x.some at_j.stands at_k.stands
    (subst (λ f. AreMissed f start.first.offset end.first.offset start.last.offset end.last.offset start.first.axis end.first.axis) (to_z-of_z w64 x.square fits) apart)

-- nothing is left outside of the whole stretch
pub around_whole : (x : Searched) (j levels : ℕ) → levels ≤ 10
    → AreOutAround record { first = j; levels = levels } x.square x.sweep.now (point_of x.grid.now x.ray.now) x.scale x.from x.to j (j + 2 ^ levels)
around_whole x j levels few =
    out_around_whole record { first = j; levels = levels } x.square x.sweep.now (point_of x.grid.now x.ray.now) x.scale x.from x.to j (j + 2 ^ levels) few refl refl
