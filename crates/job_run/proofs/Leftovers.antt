-- What is left of the stock, strip by strip.
use Rattle.std.proofs.Common.{◌≡◌, ℕ, ◌+◌, ◌<◌, ◌≤◌, Bool, List, [], ◌∷◌, ◌++◌, map, take, length, get_or, append_assoc, Some, Result, Ok, Err, IfOk, refl, arith, sym, ap, ◌∙◌, subst}
use Rattle.std.specs.Prelude.{slice_get}
use Rattle.std.specs.List.{flat_map}
use Rattle.std.proofs.lemmas.Grind.{flat_map-append}
use Rattle.std.proofs.lemmas.List.{append-nil, map-append, map_more, take_all, take_more}
use Rattle.std.proofs.lemmas.Option.{get_or_from_slice_get, slice_get-get_or}
use Rattle.vf_io.specs.declared.answers.NoMemory.{NoMemory}
use Rattle.ray_grid.specs.Grids.{GridSize}
use Rattle.ray_grid.specs.Points.{LatticePoint, rays_of}
use Rattle.ray_grid.specs.Strips.{strip_at, strips_of}
use Rattle.ray_grid.specs.declared.ray.Ray.{Ray}
use Rattle.ray_grid.specs.declared.ray.Family.TheVariants.{Z}
use Rattle.ray_shapes.specs.Sets.{AreSetsOver, HoldsPointsOf}
use Rattle.ray_shapes.specs.declared.solid.Solid.{Solid}
use Rattle.job_model.specs.Points.{left_moves, state_after}
use Rattle.job_model.specs.Tasks.{Job, PlanOf}
use Rattle.job_report.specs.Remaining.{remaining_stock, remains}
use Rattle.job_report.proofs.Remaining.{remains_where}
use Rattle.stock_file.specs.PointSets.{set_where, sets_where}
use Rattle.stock_file.specs.Saved.{Saved}
use Rattle.stock_file.proofs.PointSets.{set_is, sets_over}
use Rattle.strip_journal.specs.Remaining.{remains_at}
use Rattle.strip_journal.specs.Strips.{StripOf}
use Rattle.job_run.specs.Jobs.{job_with}
use Rattle.job_run.specs.Remaining.{AreFinishedOn, sets_along}
use Rattle.job_run.specs.declared.bodies.JobBodies.{JobBodies}
use Rattle.job_run.specs.Strips.{AreAt}
use Rattle.job_run.proofs.Standing.{strip_is}

-- one more ray of a strip
pub one_more_ray : (grid : GridSize) (inside : LatticePoint → Bool) (strip : List Ray) (n : ℕ) (set : List Bool) (before sets after : List (List Bool))
    → n < length strip
    → ((ray : Ray) → slice_get strip n ≡ Some ray → HoldsPointsOf grid ray inside set)
    → sets ≡ before ++ map (set_where grid inside) (take n strip) → after ≡ sets ++ set ∷ []
    → after ≡ before ++ map (set_where grid inside) (take (n + 1) strip)
one_more_ray grid inside strip n set before sets after low holds so_far pushed =
    let f : Ray → List Bool = set_where grid inside in
    let here : Ray = get_or strip n any_ray in
    let is : set ≡ f here = set_is grid inside here set (holds here (slice_get-get_or strip n any_ray low)) in
    pushed
    ∙ ap (λ (all : List (List Bool)). all ++ set ∷ []) so_far
    ∙ append_assoc before (map f (take n strip)) (set ∷ [])
    ∙ ap (λ (one : List Bool). before ++ (map f (take n strip) ++ one ∷ [])) is
    ∙ ap (λ (all : List (List Bool)). before ++ all) (sym (map_more f strip n any_ray low))
  where
    any_ray : Ray
    any_ray = record { family = Z; i = 0; j = 0 }

-- all rays of it
pub whole_strip : (grid : GridSize) (inside : LatticePoint → Bool) (strip : List Ray) (n : ℕ) (before sets : List (List Bool)) → length strip ≤ n
    → sets ≡ before ++ map (set_where grid inside) (take n strip) → sets ≡ before ++ map (set_where grid inside) strip
whole_strip grid inside strip n before sets all so_far =
    so_far ∙ ap (λ (rays : List Ray). before ++ map (set_where grid inside) rays) (take_all n strip all)

-- one more strip of the job
pub one_more_strip : (job : Job) (grid : GridSize) (strips : List StripOf) (k : ℕ) (s : StripOf) (sets after : List (List Bool)) → AreFinishedOn job grid strips
    → k < length strips → s ≡ get_or strips k s
    → sets ≡ sets_along grid (remains_at job (length job.plan.edits)) (take k (strips_of grid))
    → after ≡ sets ++ map (set_where grid (remains_at s.job s.done)) (strip_at grid s.number)
    → after ≡ sets_along grid (remains_at job (length job.plan.edits)) (take (k + 1) (strips_of grid))
one_more_strip job grid strips k s sets after are low here so_far added =
    let inside : LatticePoint → Bool = remains_at job (length job.plan.edits) in
    let f : List Ray → List (List Bool) = map (set_where grid inside) in
    let is = strip_is job.plan job (length job.plan.edits) strips k s are.strips_are low here in
    let many = are.strips_are.first.many in
    let same : length (strips_of job.plan.grid) ≡ length (strips_of grid) = ap (λ (g : GridSize). length (strips_of g)) are.grid_is in
    let within : k < length (strips_of grid) = omega (arith, low, many, same) in
    added
    ∙ ap (λ (all : List (List Bool)). all ++ map (set_where grid (remains_at s.job s.done)) (strip_at grid s.number)) so_far
    ∙ ap (λ (t : StripOf). sets_along grid inside (take k (strips_of grid)) ++ map (set_where grid (remains_at t.job t.done)) (strip_at grid t.number)) is
    ∙ sym (flat_map-append f (take k (strips_of grid)) (strip_at grid k ∷ []) ∙ ap (λ (l : List (List Bool)). sets_along grid inside (take k (strips_of grid)) ++ l) (append-nil (f (strip_at grid k))))
    ∙ ap (flat_map f) (sym (take_more (strips_of grid) k [] within))

-- the sets of all strips are those of all rays
flat_map_map : {X Y : Type 0} (f : X → Y) (parts : List (List X)) → flat_map (map f) parts ≡ map f (flat_map (λ part. part) parts)
flat_map_map f [] = refl
flat_map_map f (part ∷ parts) =
    ap (λ l. map f part ++ l) (flat_map_map f parts) ∙ sym (map-append f part (flat_map (λ p. p) parts))

-- what is left at the last version, by the two tests
same_test : (job : Job) → remains_at job (length job.plan.edits) ≡ (λ point. remains (state_after job (left_moves job.plan (length job.plan.edits)) point))
same_test job = λ i point. sym (remains_where job (left_moves job.plan (length job.plan.edits)) point) i

pub all_strips : (job : Job) (grid : GridSize) (strips : List StripOf) (k : ℕ) (sets : List (List Bool)) → AreFinishedOn job grid strips → length strips ≤ k
    → sets ≡ sets_along grid (remains_at job (length job.plan.edits)) (take k (strips_of grid)) → sets ≡ (remaining_stock job).sets
all_strips job grid strips k sets are all so_far =
    let inside : LatticePoint → Bool = remains_at job (length job.plan.edits) in
    let many = are.strips_are.first.many in
    let same : length (strips_of job.plan.grid) ≡ length (strips_of grid) = ap (λ (g : GridSize). length (strips_of g)) are.grid_is in
    so_far
    ∙ ap (sets_along grid inside) (take_all k (strips_of grid) (omega (arith, all, many, same)))
    ∙ flat_map_map (set_where grid inside) (strips_of grid)
    ∙ ap (λ (g : GridSize). sets_where g inside) (sym are.grid_is)
    ∙ ap (sets_where job.plan.grid) (same_test job)

-- a strip has the grid of its job, and a number among its strips
pub strip_fits : (job : Job) (grid : GridSize) (strips : List StripOf) (k : ℕ) (s : StripOf) → AreFinishedOn job grid strips → k < length strips
    → s ≡ get_or strips k s → (s.job.plan.grid ≡ grid) × (s.number < length (strips_of grid))
strip_fits job grid strips k s are low here =
    let is = strip_is job.plan job (length job.plan.edits) strips k s are.strips_are low here in
    let number : s.number ≡ k = ap (λ (t : StripOf). t.number) is in
    let many = are.strips_are.first.many in
    let same : length (strips_of job.plan.grid) ≡ length (strips_of grid) = ap (λ (g : GridSize). length (strips_of g)) are.grid_is in
    (ap (λ (t : StripOf). t.job.plan.grid) is ∙ are.grid_is, omega (arith, number, low, many, same))

-- a finished job is one on the grid of its plan, whatever list its strips are read from
pub finished_on : (job : Job) (grid : GridSize) (strips there : List StripOf) → job.plan.grid ≡ grid → there ≡ strips
    → AreAt job.plan job (length job.plan.edits) strips → AreFinishedOn job grid there
finished_on job grid strips there same read at = record {
  grid_is = same;
  strips_are = subst (AreAt job.plan job (length job.plan.edits)) (sym read) at;
}

-- the sets that are left are those of the grid's rays
pub left_over : (job : Job) (grid : GridSize) (sets : List (List Bool)) → job.plan.grid ≡ grid → sets ≡ (remaining_stock job).sets
    → AreSetsOver grid sets
left_over job grid sets same is =
    subst (λ (g : GridSize). AreSetsOver g sets) same
    (subst (AreSetsOver job.plan.grid) (sym is)
    (sets_over job.plan.grid (λ point. remains (state_after job (left_moves job.plan (length job.plan.edits)) point))))

pub left_is : (job : Job) (grid : GridSize) (sets : List (List Bool)) → job.plan.grid ≡ grid → sets ≡ (remaining_stock job).sets
    → ◌≡◌ {A = Saved} (record { grid = grid; sets = sets }) (remaining_stock job)
left_is job grid sets same is = λ i. record { grid = sym same i; sets = is i }

-- what is so of each job that has the strips is so of this one
pub at_job : (made : Result Saved NoMemory) (job : Job) (grid : GridSize) (strips : List StripOf) → AreFinishedOn job grid strips
    → IfOk made (λ stock. (other : Job) → AreFinishedOn other grid strips → stock ≡ remaining_stock other)
    → IfOk made (λ stock. stock ≡ remaining_stock job)
at_job (Ok stock) job grid strips are every = every job are
at_job (Err memory) job grid strips are every = tt

-- what is left rests on the stock, and on neither part nor fixtures
pub of_stock_alone : (made : Result Saved NoMemory) (plan : PlanOf) (bodies alone : JobBodies) → alone.stock ≡ bodies.stock
    → IfOk made (λ stock. stock ≡ remaining_stock (job_with plan alone)) → IfOk made (λ stock. stock ≡ remaining_stock (job_with plan bodies))
of_stock_alone made plan bodies alone same is =
    subst (λ (solid : Solid). IfOk made (λ stock. stock ≡ remaining_stock (record { plan = plan; stock = solid; part = bodies.part; fixture = bodies.fixture })))
    same is
