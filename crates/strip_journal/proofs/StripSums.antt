-- What a move finds on a strip by the sets of its rays is what it finds by the moves that are left.
use Rattle.std.proofs.Common.{◌≡◌, ℕ, ◌<◌, Bool, true, false, ◌&&◌, refl, List, length, map, arith, sym, ap, ◌∙◌}
use Rattle.std.specs.List.{range_with_len}
use Rattle.std.proofs.lemmas.List.{get_or-map, length-map}
use Rattle.std.proofs.lemmas.List.FromFn.{fill_by_all}
use Rattle.ray_grid.specs.declared.ray.Family.TheVariants.{X}
use Rattle.ray_grid.specs.declared.ray.Ray.{Ray}
use Rattle.ray_grid.specs.Strips.{strip_at, strips_of}
use Rattle.job_counts.specs.declared.counts.Counts.{Counts}
use Rattle.job_counts.specs.Counts.{no_counts}
use Rattle.dexel_rays.specs.Findings.{met}
use Rattle.dexel_rays.proofs.Laws.{point}
use Rattle.dexel_rays.proofs.WordLaws.{same_findings}
use Rattle.job_model.specs.Findings.{seen}
use Rattle.job_model.specs.Points.{is_fixture, is_part, is_stock, left_moves, some_possible, some_sure}
use Rattle.job_model.specs.Sums.{sum_counts}
use Rattle.job_model.specs.Tasks.{Job, JobMove}
use Rattle.job_model.proofs.Sums.{of_strip, ray_findings}
use Rattle.strip_marks.specs.Marks.{point_at, points_at, possible_there, ray_found, ray_of, seen_on, sets_of, strip_found, sure_there}
use Rattle.strip_journal.specs.declared.journal.Journal.{Journal}
use Rattle.strip_journal.specs.Journals.{AreRaysAt, found_at}

-- which rules a point meets by marks that are kept of stock alone is which it meets by all marks
same_rules : (a b c S P s p r : Bool) → met (point a b c (a && S) (a && P) s p r) ≡ met (point a b c S P s p r)
same_rules true b c S P s p r = refl
same_rules false b c S P s p r = refl

-- what the sets of a ray say of a point, as far as the rules ask, is what is true there by the moves that are left
pub rules_same : (job : Job) (strip done : ℕ) (j : Journal) (move : JobMove) (n l : ℕ) → AreRaysAt job strip done j
    → n < length j.rays → l < points_at job.plan.grid strip n
    → met (seen_on (sets_of j.rays n) (sure_there job.plan move strip n) (possible_there job.plan move strip n) move.rapid l)
    ≡ met (seen job (left_moves job.plan done) move (point_at job.plan.grid strip n l))
rules_same job strip done j move n l rays lt at =
    let body = rays.bodies n lt in
    let stock = body.stock l at in
    let part = body.part l at in
    let fixture = body.fixture l at in
    let sure = rays.sure n l lt at in
    let possible = rays.possible n l lt at in
    let here = point_at job.plan.grid strip n l in
    let left = left_moves job.plan done in
    (λ i. met (point (stock i) (part i) (fixture i) (sure i) (possible i) (sure_there job.plan move strip n l)
    (possible_there job.plan move strip n l) move.rapid))
    ∙ same_rules (is_stock job here) (is_part job here) (is_fixture job here) (some_sure job.plan left here) (some_possible job.plan left here)
    (sure_there job.plan move strip n l) (possible_there job.plan move strip n l) move.rapid

-- so it finds the same on each ray
pub ray_found_is : (job : Job) (strip done : ℕ) (j : Journal) (move : JobMove) (n : ℕ) → AreRaysAt job strip done j
    → n < length j.rays
    → ray_findings job.plan.grid (seen job (left_moves job.plan done) move) (ray_of job.plan.grid strip n)
    ≡ ray_found job.plan move strip j.rays n
ray_found_is job strip done j move n rays lt =
    same_findings (points_at job.plan.grid strip n)
    (λ l. seen job (left_moves job.plan done) move (point_at job.plan.grid strip n l))
    (seen_on (sets_of j.rays n) (sure_there job.plan move strip n) (possible_there job.plan move strip n) move.rapid)
    (λ l at. sym (rules_same job strip done j move n l rays lt at))

-- the findings of the rays of a strip are those by their sets, in order
rays_found_are : (job : Job) (strip done : ℕ) (j : Journal) (move : JobMove) → AreRaysAt job strip done j
    → map (ray_findings job.plan.grid (seen job (left_moves job.plan done) move)) (strip_at job.plan.grid strip)
    ≡ map (ray_found job.plan move strip j.rays) (range_with_len 0 (length j.rays))
rays_found_are job strip done j move rays =
    let find : Ray → Counts = ray_findings job.plan.grid (seen job (left_moves job.plan done) move) in
    let strip_rays : List Ray = strip_at job.plan.grid strip in
    let many = rays.rays.many in
    fill_by_all (ray_found job.plan move strip j.rays) (map find strip_rays) (length j.rays) no_counts
    (length-map strip_rays find ∙ sym many)
    (λ n lt. get_or-map find strip_rays n record { family = X; i = 0; j = 0 } no_counts (omega (arith, lt, many))
    ∙ ray_found_is job strip done j move n rays lt)

-- and on the strip
pub strip_found_is : (job : Job) (strip done : ℕ) (j : Journal) (move : JobMove) → AreRaysAt job strip done j
    → strip < length (strips_of job.plan.grid) → strip_found job.plan move strip j.rays ≡ found_at job strip done move
strip_found_is job strip done j move rays _ =
    ap sum_counts (sym (rays_found_are job strip done j move rays))
    ∙ sym (of_strip job.plan.grid (seen job (left_moves job.plan done) move) (strip_at job.plan.grid strip))
