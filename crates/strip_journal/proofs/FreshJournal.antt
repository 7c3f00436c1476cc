-- A journal that no edit has changed.
use Rattle.std.proofs.Common.{◌≡◌, false, true, ℕ, suc, ◌+◌, ◌<◌, ◌≤◌, Bool, List, [], ◌∷◌, length, get_or, count_by, arith, refl, sym, ap, ap₂, ◌∙◌, subst}
use Rattle.std.specs.List.{All, flat_map, range_with_len}
use Rattle.std.proofs.lemmas.List.Sums.{sum_by-cons}
use Rattle.vf_spans.specs.Members.{count_of, has}
use Rattle.vf_spans.proofs.WordCounts.{count_of_flags}
use Rattle.dexel_rays.proofs.Laws.{and_false}
use Rattle.dexel_rays.proofs.WordOnes.{below_same}
use Rattle.ray_grid.specs.Grids.{GridSize}
use Rattle.ray_grid.specs.declared.ray.Family.TheVariants.{X}
use Rattle.ray_grid.specs.declared.ray.Ray.{Ray}
use Rattle.ray_grid.specs.Lattice.{points_of}
use Rattle.ray_grid.specs.Points.{LatticePoint, point_in, points_on}
use Rattle.ray_grid.specs.Ranges.{IsGrid}
use Rattle.ray_grid.specs.Strips.{strip_at, strips_of}
use Rattle.ray_shapes.specs.declared.solid.Solid.{Solid}
use Rattle.edit_plan.specs.Edits.{AppliesBelow}
use Rattle.edit_plan.specs.Limits.{most_edits}
use Rattle.job_model.specs.Points.{is_stock, left_moves, strip_points, totals_over}
use Rattle.job_model.specs.Tasks.{IsPlan, Job, PlanOf}
use Rattle.job_model.proofs.Sums.{count_append, count_map}
use Rattle.ray_words.specs.Rays.{KeptSets}
use Rattle.ray_words.specs.Rows.{kept_at}
use Rattle.strip_marks.specs.Marks.{ray_of}
use Rattle.strip_marks.proofs.MoreRays.{no_sets}
use Rattle.strip_journal.specs.declared.journal.Journal.{Journal}
use Rattle.strip_journal.specs.Fresh.{AreFreshRays, IsFreshRay, stock_points}
use Rattle.strip_journal.specs.Journals.{IsJournal, job_of, stock_at}
use Rattle.strip_journal.proofs.KeptParts.{AreSetsAt, IsHeld, Parts, journal_by, parts_of}

-- what is read past the end of a strip's rays
abbrev no_ray : Ray
no_ray = record { family = X; i = 0; j = 0 }

-- where each ray has as many stock indices as the test has points on it, all together have as many
stock_sum : (grid : GridSize) (test : LatticePoint → Bool) (rays : List Ray) (kept : List KeptSets) → length kept ≡ length rays
    → ((n : ℕ) → n < length rays → count_of (get_or kept n no_sets).sets.stock ≡ count_by test (points_on grid (get_or rays n no_ray)))
    → stock_points kept ≡ count_by test (flat_map (points_on grid) rays)
stock_sum grid test [] [] many each = refl
stock_sum grid test [] (k ∷ kept) many each = absurd (omega (arith, many))
stock_sum grid test (ray ∷ rays) [] many each = absurd (omega (arith, many))
stock_sum grid test (ray ∷ rays) (k ∷ kept) many each =
    sum_by-cons (λ r. count_of r.sets.stock) k kept
    ∙ ap₂ (λ m n. m + n) (each 0 (omega arith))
    (stock_sum grid test rays kept (omega (arith, many)) (λ n low. each (suc n) (omega (arith, low))))
    ∙ sym (count_append test (points_on grid ray) (flat_map (points_on grid) rays))

-- the stock indices of a fresh ray are its points that are stock
ray_stock : (job : Job) (ray : Ray) (kept : KeptSets) → IsFreshRay job.plan.grid ray job.stock job.part job.fixture kept
    → count_of kept.sets.stock ≡ count_by (is_stock job) (points_on job.plan.grid ray)
ray_stock job ray kept fresh =
    let grid = job.plan.grid in
    let size = points_of grid ray.family in
    count_of_flags kept.sets.stock
    ∙ ap (λ n. count_by (has kept.sets.stock) (range_with_len 0 n)) fresh.bound.stock
    ∙ below_same size (has kept.sets.stock) (λ l. is_stock job (point_in grid ray l)) fresh.stock_is
    ∙ sym (count_map (is_stock job) (point_in grid ray) (range_with_len 0 size))

-- the rays of a strip before the first edit
abbrev pub AreFirstRays : Job → ℕ → List KeptSets → Type 0
AreFirstRays job strip kept =
    AreFreshRays job.plan.grid strip (length (strip_at job.plan.grid strip)) job.stock job.part job.fixture kept

pub first_stock : (job : Job) (strip : ℕ) (kept : List KeptSets) → AreFirstRays job strip kept
    → stock_points kept ≡ (totals_over job (strip_points job.plan.grid strip) (left_moves job.plan 0)).of
first_stock job strip kept fresh =
    stock_sum job.plan.grid (is_stock job) (strip_at job.plan.grid strip) kept fresh.many
    (λ n low. ray_stock job (ray_of job.plan.grid strip n) (kept_at kept n) (fresh.each n low))

-- no index of it is sure, and none possible
never : (b : Bool) → b ≡ false → b ≡ true → ⊥
never b off on = cc

first_sets : (job : Job) (strip : ℕ) (kept : List KeptSets) → AreFirstRays job strip kept → AreSetsAt job strip 0 kept
first_sets job strip kept fresh =
    let one : (n : ℕ) → n < length kept
    → IsFreshRay job.plan.grid (ray_of job.plan.grid strip n) job.stock job.part job.fixture (kept_at kept n) =
    λ n low. fresh.each n (omega (arith, low, fresh.many)) in
    record {
      rays = record {
        many = fresh.many;
        bounds = λ n low. (one n low).bound;
        possible = λ n l low sure. absurd (never _ ((one n low).sure l) sure);
      };
      bodies = λ n low. record { stock = (one n low).stock_is; part = (one n low).part_is; fixture = (one n low).fixture_is };
      sure = λ n l low at. (one n low).sure l ∙ sym (and_false (stock_at job strip n l));
      possible = λ n l low at. (one n low).possible l ∙ sym (and_false (stock_at job strip n l));
    }

-- what a journal holds before the first edit
abbrev pub first_parts : ℕ → ℕ → List KeptSets → Parts
first_parts number of rays = record {
  number = number;
  of = of;
  rays = rays;
  changes = [];
  entries = [];
  line = [];
  at = 0;
  done = 0;
}

first_held : (job : Job) (number : ℕ) (kept : List KeptSets) → IsPlan job.plan → IsGrid job.plan.grid
    → number < length (strips_of job.plan.grid) → length job.plan.edits ≤ most_edits
    → All (AppliesBelow (length job.plan.moves)) job.plan.edits → AreFirstRays job number kept
    → IsHeld job (first_parts number (stock_points kept) kept)
first_held job number kept valid grid strip few named fresh = record {
  valid = valid;
  grid = grid;
  strip = strip;
  few = few;
  named = named;
  within = omega arith;
  line = refl;
  newest = first_sets job number kept fresh;
  of = first_stock job number kept fresh;
  kept = record {
    ascend = record { each = λ i k before low. absurd (omega (arith, low)) };
    early = λ i low. absurd (omega (arith, low));
    order = λ i low. absurd (omega (arith, low));
    within = λ i low. absurd (omega (arith, low));
  };
  sorted = λ i low. absurd (omega (arith, low));
  on = λ k d low. absurd (omega (arith, low));
  few_changes = omega arith;
  tracked_sure = record {
    turned = λ i n l low. absurd (omega (arith, low));
    steady = λ v n l low. absurd (omega (arith, low));
  };
  tracked_possible = record {
    turned = λ i n l low. absurd (omega (arith, low));
    steady = λ v n l low. absurd (omega (arith, low));
  };
  totals = record {
    removed = λ i low. absurd (omega (arith, low));
    possible = λ i low. absurd (omega (arith, low));
  };
  found = record {
    applies = λ k i low. absurd (omega (arith, low));
    hits = λ k i move low. absurd (omega (arith, low));
    none = λ k move low. absurd (omega (arith, low));
  };
}

-- the job of a journal by what it is made of
job_made : (j : Journal) (plan : PlanOf) (stock part fixture : Solid) → j.plan.value ≡ plan → j.stock.value.value ≡ stock
    → j.part.value.value ≡ part → j.fixture.value.value ≡ fixture → job_of j ≡ record { plan = plan; stock = stock; part = part; fixture = fixture }
job_made j plan stock part fixture p s q f = λ i. record { plan = p i; stock = s i; part = q i; fixture = f i }

-- a journal that keeps nothing of edits
pub record IsUnedited (j : Journal) : Type 0 where
  pub of : j.of ≡ stock_points j.rays
  pub changes : j.changes.items ≡ []
  pub entries : j.entries.items ≡ []
  pub line : j.line ≡ []
  pub at : j.at ≡ 0
  pub done : j.done ≡ 0

parts_made : (j : Journal) → IsUnedited j → parts_of j ≡ first_parts j.number (stock_points j.rays) j.rays
parts_made j is = λ i. record {
  number = j.number;
  of = is.of i;
  rays = j.rays;
  changes = is.changes i;
  entries = is.entries i;
  line = is.line i;
  at = is.at i;
  done = is.done i;
}

-- the fresh rays of a grid are those of an equal one
pub first_on : (grid other : GridSize) (strip : ℕ) (stock part fixture : Solid) (rays : List KeptSets) → other ≡ grid
    → AreFreshRays other strip (length (strip_at other strip)) stock part fixture rays
    → AreFreshRays grid strip (length (strip_at grid strip)) stock part fixture rays
first_on grid other strip stock part fixture rays same fresh =
    subst (λ (g : GridSize). AreFreshRays g strip (length (strip_at g strip)) stock part fixture rays) same fresh

-- so one with fresh rays is a journal of its job
pub first_journal : (j : Journal) (plan : PlanOf) (stock part fixture : Solid) → j.plan.value ≡ plan → j.stock.value.value ≡ stock
    → j.part.value.value ≡ part → j.fixture.value.value ≡ fixture → IsPlan plan → IsGrid plan.grid → j.number < length (strips_of plan.grid)
    → length plan.edits ≤ most_edits
    → All (AppliesBelow (length plan.moves)) plan.edits
    → AreFreshRays plan.grid j.number (length (strip_at plan.grid j.number)) stock part fixture j.rays
    → IsUnedited j → IsJournal (job_of j) j
first_journal j plan stock part fixture p s q f valid grid strip few named fresh unedited =
    let job : Job = record { plan = plan; stock = stock; part = part; fixture = fixture } in
    journal_by job j (first_parts j.number (stock_points j.rays) j.rays) (job_made j plan stock part fixture p s q f)
    (parts_made j unedited) (first_held job j.number j.rays valid grid strip few named fresh)
