-- What a strip returns of its points is what its journal returns.
use Rattle.std.proofs.Common.{◌≡◌, ℕ, ◌+◌, ◌-◌, ◌<◌, ◌≤◌, length, slice_get, Some, sym, ap, ◌∙◌, subst}
use Rattle.ray_grid.specs.declared.ray.Ray.{Ray}
use Rattle.ray_grid.specs.Lattice.{points_of}
use Rattle.ray_grid.specs.Strips.{strip_at}
use Rattle.job_counts.specs.declared.totals.PointState.{PointState}
use Rattle.job_counts.specs.declared.totals.Totals.{Totals}
use Rattle.ray_grid.specs.Points.{point_in}
use Rattle.job_model.specs.Points.{left_moves, state_after, strip_points, totals_over}
use Rattle.strip_marks.specs.Marks.{point_at, points_at, ray_of}
use Rattle.strip_marks.proofs.OnStrips.{ray_stands, ray_there}
use Rattle.strip_journal.specs.declared.journal.Journal.{Journal}
use Rattle.strip_journal.specs.Journals.{IsJournal, job_of}
use Rattle.strip_journal.specs.Strips.{StripOf}
use Rattle.strip_journal.proofs.ToldFound.{strip_of}

-- the totals at a version
pub totals_told : (j : Journal) (s : StripOf) (version : ℕ) (totals : Totals) → strip_of j ≡ s
    → totals ≡ totals_over (job_of j) (strip_points j.plan.value.grid j.number) (left_moves j.plan.value version)
    → totals ≡ totals_over s.job (strip_points s.job.plan.grid s.number) (left_moves s.job.plan version)
totals_told j s version totals is told =
    told ∙ ap (λ (t : StripOf). totals_over t.job (strip_points t.job.plan.grid t.number) (left_moves t.job.plan version)) is

-- a ray of the strip is one of those that are kept
pub ray_told : (j : Journal) (s : StripOf) (n : ℕ) → IsJournal (job_of j) j → strip_of j ≡ s
    → n < length (strip_at s.job.plan.grid s.number) → n < length j.rays
ray_told j s n h is low =
    subst (λ (k : ℕ). n < k) (sym h.newest.rays.many) (subst (λ (t : StripOf). n < length (strip_at t.job.plan.grid t.number)) (sym is) low)

-- and an index of it is one of its points
pub point_told : (j : Journal) (s : StripOf) (n l : ℕ) → strip_of j ≡ s → n < length (strip_at s.job.plan.grid s.number)
    → ((ray : Ray) → slice_get (strip_at s.job.plan.grid s.number) n ≡ Some ray → l < points_of s.job.plan.grid ray.family)
    → l < points_at j.plan.value.grid j.number n
point_told j s n l is low at =
    subst (λ (t : StripOf). l < points_at t.job.plan.grid t.number n) (sym is)
    (at (ray_of s.job.plan.grid s.number n)
    (ray_stands s.job.plan.grid s.number n low))

-- the state of a point at a version
pub state_told : (j : Journal) (s : StripOf) (version n l : ℕ) (state : PointState) → strip_of j ≡ s
    → state ≡ state_after (job_of j) (left_moves j.plan.value version) (point_at j.plan.value.grid j.number n l) → (ray : Ray)
    → slice_get (strip_at s.job.plan.grid s.number) n ≡ Some ray
    → state ≡ state_after s.job (left_moves s.job.plan version) (point_in s.job.plan.grid ray l)
state_told j s version n l state is told ray there =
    told
    ∙ ap (λ (t : StripOf). state_after t.job (left_moves t.job.plan version) (point_at t.job.plan.grid t.number n l)) is
    ∙ ap (λ (r : Ray). state_after s.job (left_moves s.job.plan version) (point_in s.job.plan.grid r l))
    (ray_there s.job.plan.grid s.number n ray there)

-- a version of the strip is one of its journal, and a cost by the one is a cost by the other
pub version_told : (j : Journal) (s : StripOf) (version : ℕ) → strip_of j ≡ s → version ≤ s.done → version ≤ j.done
version_told j s version is within = subst (λ (t : StripOf). version ≤ t.done) (sym is) within

pub cost_told : (j : Journal) (s : StripOf) (version before after : ℕ) → strip_of j ≡ s → after ≤ before + (j.done - version)
    → after ≤ before + (s.done - version)
cost_told j s version before after is within = subst (λ (t : StripOf). after ≤ before + (t.done - version)) is within
