-- What is read of a strip of the case is what is true of the strip of its number.
use Rattle.std.proofs.Common.{◌≡◌, ℕ, ◌<◌, List, length, slice_get, Some, ap, ap₂, sym, ◌∙◌, subst}
use Rattle.std.proofs.lemmas.Option.{slice_get_within, same_Some}
use Rattle.ray_grid.specs.Grids.{GridSize}
use Rattle.ray_grid.specs.declared.ray.Ray.{Ray}
use Rattle.ray_grid.specs.Lattice.{points_of}
use Rattle.ray_grid.specs.Points.{LatticePoint, point_in}
use Rattle.ray_grid.specs.Strips.{strip_at}
use Rattle.job_counts.specs.declared.totals.PointState.{PointState}
use Rattle.job_counts.specs.declared.totals.Totals.{Totals}
use Rattle.job_counts.specs.Totals.{TotalsWithin}
use Rattle.job_model.specs.Points.{left_moves, state_after, strip_points, totals_over}
use Rattle.job_model.specs.Tasks.{Job, PlanOf}
use Rattle.strip_journal.specs.Strips.{StripOf}
use Rattle.turn_core.specs.World.{AreOfPlan, AreStrips}
use Rattle.turn_core.proofs.Parts.{totals_within}
use Rattle.strip_turns.specs.declared.view.BoardStart.{BoardStart}
use Rattle.strip_turns.specs.Cards.{IsCase}
use Rattle.strip_turns.proofs.Cases.{plan_of, number_of, job_of}

module _ (c : BoardStart) (k v : ℕ) (s : StripOf) (whole : AreOfPlan c.plan c.strips) (case : IsCase c k v s) where
  grid_of : s.job.plan.grid ≡ c.plan.grid
  grid_of = ap (λ (p : PlanOf). p.grid) (plan_of c k v s whole case)

  rays_of : strip_at s.job.plan.grid s.number ≡ strip_at c.plan.grid k
  rays_of = ap₂ strip_at grid_of (number_of c k v s whole case)

  -- one of its rays, and its points
  pub ray_there : (n : ℕ) (ray : Ray) → slice_get (strip_at c.plan.grid k) n ≡ Some ray
      → slice_get (strip_at s.job.plan.grid s.number) n ≡ Some ray
  ray_there n ray at = ap (λ rays. slice_get rays n) rays_of ∙ at

  pub ray_within : (n : ℕ) (ray : Ray) → slice_get (strip_at c.plan.grid k) n ≡ Some ray → n < length (strip_at s.job.plan.grid s.number)
  ray_within n ray at = slice_get_within (strip_at s.job.plan.grid s.number) n ray (ray_there n ray at)

  pub point_within : (n l : ℕ) (ray : Ray) → slice_get (strip_at c.plan.grid k) n ≡ Some ray → l < points_of c.plan.grid ray.family
      → (other : Ray) → slice_get (strip_at s.job.plan.grid s.number) n ≡ Some other → l < points_of s.job.plan.grid other.family
  point_within n l ray at lt other is =
      let same : ray ≡ other = same_Some ray other (sym (ray_there n ray at) ∙ is) in
      subst (λ (g : GridSize). l < points_of g other.family) (sym grid_of)
      (subst (λ (r : Ray). l < points_of c.plan.grid r.family) same lt)

  -- the state that it returns of a point
  pub state_read : (job : Job) (version l : ℕ) (ray : Ray) (x : PointState) → AreStrips job c.strips
      → x ≡ state_after s.job (left_moves s.job.plan version) (point_in s.job.plan.grid ray l)
      → x ≡ state_after job (left_moves job.plan version) (point_in job.plan.grid ray l)
  state_read job version l ray x all is =
      is ∙ ap (λ (j : Job). state_after j (left_moves j.plan version) (point_in j.plan.grid ray l)) (job_of c job k v s all case)

  -- what it counts
  pub counts_read : (job : Job) (version : ℕ) → AreStrips job c.strips
      → totals_over s.job (strip_points s.job.plan.grid s.number) (left_moves s.job.plan version)
      ≡ totals_over job (strip_points c.plan.grid k) (left_moves job.plan version)
  counts_read job version all =
      let points : strip_points s.job.plan.grid s.number ≡ strip_points c.plan.grid k =
      ap₂ strip_points grid_of (number_of c k v s whole case) in
      ap (λ p. totals_over s.job p (left_moves s.job.plan version)) points
      ∙ ap (λ (j : Job). totals_over j (strip_points c.plan.grid k) (left_moves j.plan version)) (job_of c job k v s all case)

  -- and no more than its points, whatever the bodies are
  counts_within : (version : ℕ) → TotalsWithin (length (strip_points c.plan.grid k))
      (totals_over s.job (strip_points s.job.plan.grid s.number) (left_moves s.job.plan version))
  counts_within version =
      subst (λ (points : List LatticePoint). TotalsWithin (length points)
      (totals_over s.job (strip_points s.job.plan.grid s.number) (left_moves s.job.plan version)))
      (ap₂ strip_points grid_of (number_of c k v s whole case))
      (totals_within s.job (left_moves s.job.plan version) (strip_points s.job.plan.grid s.number))

  pub counted_within : (version : ℕ) (t : Totals)
      → t ≡ totals_over s.job (strip_points s.job.plan.grid s.number) (left_moves s.job.plan version)
      → TotalsWithin (length (strip_points c.plan.grid k)) t
  counted_within version t is = subst (TotalsWithin (length (strip_points c.plan.grid k))) (sym is) (counts_within version)
