-- What is read of a strip after it was replaced is what is true of the strip of its number.
use Rattle.std.proofs.Common.{◌≡◌, ℕ, ◌<◌, List, Some, length, get_or, set, arith, sym, ap, ap₂, ◌∙◌, subst}
use Rattle.std.specs.List.{slice_get}
use Rattle.std.proofs.lemmas.List.{get_or-set_same}
use Rattle.std.proofs.lemmas.Option.{same_Some, slice_get-get_or}
use native.Mathlib.Decide.{dec_le}
use mathlib.Core.Logic.{dite}
use Rattle.ray_grid.specs.Grids.{GridSize}
use Rattle.ray_grid.specs.declared.ray.Ray.{Ray}
use Rattle.ray_grid.specs.Lattice.{points_of}
use Rattle.ray_grid.specs.Points.{LatticePoint, lattice_of}
use Rattle.ray_grid.specs.Strips.{strip_at}
use Rattle.job_counts.specs.Totals.{TotalsWithin}
use Rattle.job_model.specs.Points.{left_moves, strip_points, totals_over}
use Rattle.job_model.specs.Tasks.{Job, PlanOf}
use Rattle.strip_journal.specs.Strips.{StripOf}
use Rattle.turn_core.specs.World.{AreOfPlan, AreStrips}
use Rattle.turn_core.proofs.Parts.{first_all, totals_within}
use Rattle.turn_core.proofs.Replaced.{IsMoved, number_at, plan_at, plan_is}

-- the strip that is read after a write is the one that was written
pub read_set : (strips : List StripOf) (k : ℕ) (new z : StripOf) → k < length strips → get_or (set strips k new) k z ≡ new
read_set strips k new z lt = get_or-set_same strips k new z lt

-- it has the rays of the strip of its number
pub rays_set : (plan : PlanOf) (strips : List StripOf) (k : ℕ) (x new z : StripOf) → AreOfPlan plan strips → k < length strips
    → IsMoved (get_or strips k x) new
    → strip_at (get_or (set strips k new) k z).job.plan.grid (get_or (set strips k new) k z).number ≡ strip_at plan.grid k
rays_set plan strips k x new z h lt moved =
    ap₂ strip_at
    (ap (λ (s : StripOf). s.job.plan.grid) (read_set strips k new z lt) ∙ ap (λ (j : Job). j.plan.grid) moved.job
    ∙ ap (λ (p : PlanOf). p.grid) (plan_at plan strips k x h lt))
    (ap (λ (s : StripOf). s.number) (read_set strips k new z lt) ∙ moved.number ∙ number_at plan strips k x h lt)

-- an index of a ray of the strip is one of its points
pub point_set : (plan : PlanOf) (strips : List StripOf) (k : ℕ) (x new z : StripOf) (n l : ℕ) (ray : Ray) → AreOfPlan plan strips
    → k < length strips → IsMoved (get_or strips k x) new
    → slice_get (strip_at plan.grid k) n ≡ Some ray → l < points_of plan.grid ray.family
    → (other : Ray) → slice_get (strip_at (get_or (set strips k new) k z).job.plan.grid (get_or (set strips k new) k z).number) n
    ≡ Some other
    → l < points_of (get_or (set strips k new) k z).job.plan.grid other.family
point_set plan strips k x new z n l ray h lt moved there index other is =
    let same : ray ≡ other = same_Some ray other
    (sym there ∙ ap (λ rays. slice_get rays n) (sym (rays_set plan strips k x new z h lt moved)) ∙ is) in
    let grid : plan.grid ≡ (get_or (set strips k new) k z).job.plan.grid =
    sym (ap (λ (s : StripOf). s.job.plan.grid) (read_set strips k new z lt) ∙ ap (λ (j : Job). j.plan.grid) moved.job
    ∙ ap (λ (p : PlanOf). p.grid) (plan_at plan strips k x h lt)) in
    subst (λ (g : GridSize). l < points_of g other.family) grid (subst (λ (r : Ray). l < points_of plan.grid r.family) same index)

-- it is of the job that all are of
pub job_set : (job : Job) (strips : List StripOf) (k : ℕ) (x new z : StripOf) → AreStrips job strips → k < length strips
    → IsMoved (get_or strips k x) new → (get_or (set strips k new) k z).job ≡ job
job_set job strips k x new z all lt moved =
    ap (λ (s : StripOf). s.job) (read_set strips k new z lt) ∙ moved.job
    ∙ (all.each k (get_or strips k x) (slice_get-get_or strips k x lt)).job_is

-- what a strip counts, that is read after the write, is what is true of the strip of its number
pub counts_set : (plan : PlanOf) (job : Job) (strips : List StripOf) (k : ℕ) (x new z : StripOf) (version : ℕ) → AreOfPlan plan strips
    → AreStrips job strips → k < length strips → IsMoved (get_or strips k x) new
    → totals_over (get_or (set strips k new) k z).job
    (strip_points (get_or (set strips k new) k z).job.plan.grid (get_or (set strips k new) k z).number)
    (left_moves (get_or (set strips k new) k z).job.plan version) ≡ totals_over job (strip_points plan.grid k) (left_moves job.plan version)
counts_set plan job strips k x new z version h all lt moved =
    ap₂ (λ (j : Job) n. totals_over j (strip_points j.plan.grid n) (left_moves j.plan version)) (job_set job strips k x new z all lt moved)
    (ap (λ (s : StripOf). s.number) (read_set strips k new z lt) ∙ moved.number ∙ number_at plan strips k x h lt)
    ∙ ap (λ (p : PlanOf). totals_over job (strip_points p.grid k) (left_moves job.plan version)) (plan_is plan job strips k x h all lt)

-- and no more than its points, whatever the bodies are
pub within_set : (plan : PlanOf) (strips : List StripOf) (k : ℕ) (x new z : StripOf) (version : ℕ) → AreOfPlan plan strips
    → k < length strips → IsMoved (get_or strips k x) new
    → TotalsWithin (length (strip_points plan.grid k))
    (totals_over (get_or (set strips k new) k z).job
    (strip_points (get_or (set strips k new) k z).job.plan.grid (get_or (set strips k new) k z).number)
    (left_moves (get_or (set strips k new) k z).job.plan version))
within_set plan strips k x new z version h lt moved =
    let y = get_or (set strips k new) k z in
    let grid : y.job.plan.grid ≡ plan.grid =
    ap (λ (s : StripOf). s.job.plan.grid) (read_set strips k new z lt) ∙ ap (λ (j : Job). j.plan.grid) moved.job
    ∙ ap (λ (p : PlanOf). p.grid) (plan_at plan strips k x h lt) in
    let number : y.number ≡ k = ap (λ (s : StripOf). s.number) (read_set strips k new z lt) ∙ moved.number
    ∙ number_at plan strips k x h lt in
    subst (λ (points : List LatticePoint). TotalsWithin (length points)
    (totals_over y.job (strip_points y.job.plan.grid y.number) (left_moves y.job.plan version)))
    (ap₂ strip_points grid number) (totals_within y.job (left_moves y.job.plan version) (strip_points y.job.plan.grid y.number))

-- strips of a job and of a plan are over the same points
pub lattice_same : (plan : PlanOf) (job : Job) (strips : List StripOf) → AreOfPlan plan strips → AreStrips job strips
    → lattice_of plan.grid ≡ lattice_of job.plan.grid
lattice_same plan job strips h all =
    let few = h.many in
    let many = all.many in
    dite (dec_le 1 (length strips))
    (λ le. ap (λ (p : PlanOf). lattice_of p.grid)
    (sym (plan_is plan job strips 0 (record { job = job; number = 0; done = 0 }) h all (omega arith))))
    (λ no. sym (first_all plan.grid 0 (omega arith)) ∙ first_all job.plan.grid 0 (omega arith))
