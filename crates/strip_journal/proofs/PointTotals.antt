-- Totals of points by the moves that are left.
use Rattle.std.proofs.Common.{◌≡◌, true, false, not, ℕ, suc, ◌+◌, ◌<◌, ◌≤◌, Bool, ◌&&◌, ◌||◌, List, [], ◌∷◌, ◌++◌, length, slice_index_or, count_by, arith, refl, sym, ap, ap₂, ◌∙◌}
use Rattle.std.specs.List.{flat_map, range_with_len}
use Rattle.std.proofs.lemmas.List.Sums.{sum_by-cons, sum_by-le-sum_by}
use Rattle.vf_spans.proofs.Below.{one_if}
use Rattle.ray_grid.specs.Grids.{GridSize}
use Rattle.ray_grid.specs.declared.ray.Family.TheVariants.{X}
use Rattle.ray_grid.specs.declared.ray.Ray.{Ray}
use Rattle.ray_grid.specs.Lattice.{points_of}
use Rattle.ray_grid.specs.Points.{LatticePoint, point_in, points_on}
use Rattle.ray_grid.specs.Strips.{strip_at}
use Rattle.dexel_rays.proofs.Laws.{and_false, none_counted}
use Rattle.dexel_rays.proofs.WordOnes.{below_same}
use Rattle.job_model.specs.Findings.{found_over}
use Rattle.job_model.specs.Points.{is_possible, is_stock, is_sure, left_moves, some_possible, some_sure, strip_points, totals_over}
use Rattle.job_model.specs.Tasks.{Job, JobMove}
use Rattle.job_model.proofs.Sums.{count_append, count_map}
use Rattle.strip_marks.specs.Marks.{point_at, points_at}
use Rattle.strip_journal.specs.Journals.{possible_at, sure_at}
use Rattle.strip_journal.proofs.MovesLeft.{any_more}

-- where one test says what either of two others does, its count is the sum of theirs
count_two : {P : Type 0} (p q r : P → Bool) → ((x : P) → one_if (p x) ≡ one_if (q x) + one_if (r x)) → (xs : List P)
    → count_by p xs ≡ count_by q xs + count_by r xs
count_two p q r e [] = omega arith
count_two p q r e (x ∷ xs) =
    let here = e x in
    let rest = count_two p q r e xs in
    let all_p = sum_by-cons (λ y. one_if (p y)) x xs in
    let all_q = sum_by-cons (λ y. one_if (q y)) x xs in
    let all_r = sum_by-cons (λ y. one_if (r y)) x xs in
    omega (arith, here, rest, all_p, all_q, all_r)

-- stock that is in a set or is added to it: what was there, and what is new
split_new : (stock before new : Bool)
    → one_if (stock && (before || new)) ≡ one_if (stock && before) + one_if (stock && (new && not before))
split_new true true true = refl
split_new true true false = refl
split_new true false true = refl
split_new true false false = refl
split_new false before new = refl

-- a count with one move more is the count before it and what is new by it
count_more : (stock test all before : LatticePoint → Bool) → ((p : LatticePoint) → all p ≡ (before p || test p))
    → (points : List LatticePoint)
    → count_by (λ p. stock p && all p) points
    ≡ count_by (λ p. stock p && before p) points + count_by (λ p. stock p && (test p && not (before p))) points
count_more stock test all before is points =
    count_two (λ p. stock p && all p) (λ p. stock p && before p) (λ p. stock p && (test p && not (before p)))
    (λ p. ap (λ b. one_if (stock p && b)) (is p) ∙ split_new (stock p) (before p) (test p)) points

-- one move more removes besides what it finds removed, and likewise for what is possible
pub removed_more : (job : Job) (points : List LatticePoint) (ahead : List JobMove) (move : JobMove)
    → (totals_over job points (ahead ++ move ∷ [])).removed
    ≡ (totals_over job points ahead).removed + (found_over job points ahead move).removed
removed_more job points ahead move =
    count_more (is_stock job) (is_sure job.plan move) (some_sure job.plan (ahead ++ move ∷ [])) (some_sure job.plan ahead)
    (λ p. any_more (λ m. is_sure job.plan m p) ahead move) points

pub possible_more : (job : Job) (points : List LatticePoint) (ahead : List JobMove) (move : JobMove)
    → (totals_over job points (ahead ++ move ∷ [])).possible
    ≡ (totals_over job points ahead).possible + (found_over job points ahead move).possible
possible_more job points ahead move =
    count_more (is_stock job) (is_possible job.plan move) (some_possible job.plan (ahead ++ move ∷ [])) (some_possible job.plan ahead)
    (λ p. any_more (λ m. is_possible job.plan m p) ahead move) points

-- two tests together count no more than the first
one_less : (a b : Bool) → one_if (a && b) ≤ one_if a
one_less true true = omega arith
one_less true false = omega arith
one_less false b = omega arith

-- no more is removed than there is stock, and no more is possible
pub removed_within : (job : Job) (points : List LatticePoint) (moves : List JobMove)
    → (totals_over job points moves).removed ≤ (totals_over job points moves).of
removed_within job points moves =
    sum_by-le-sum_by (λ p. one_if (is_stock job p && some_sure job.plan moves p)) (λ p. one_if (is_stock job p)) points
    (λ p. one_less (is_stock job p) (some_sure job.plan moves p))

pub possible_within : (job : Job) (points : List LatticePoint) (moves : List JobMove)
    → (totals_over job points moves).possible ≤ (totals_over job points moves).of
possible_within job points moves =
    sum_by-le-sum_by (λ p. one_if (is_stock job p && some_possible job.plan moves p)) (λ p. one_if (is_stock job p)) points
    (λ p. one_less (is_stock job p) (some_possible job.plan moves p))

-- the stock is the same whatever the moves are
pub of_same : (job : Job) (points : List LatticePoint) (moves others : List JobMove)
    → (totals_over job points moves).of ≡ (totals_over job points others).of
of_same job points moves others = refl

-- by no moves nothing is removed, and nothing is possible
pub nothing_left : (job : Job) (points : List LatticePoint) → (totals_over job points []).removed ≡ 0
nothing_left job points = none_counted (λ p. is_stock job p && false) (λ p. and_false (is_stock job p)) points

pub nothing_possible : (job : Job) (points : List LatticePoint) → (totals_over job points []).possible ≡ 0
nothing_possible job points = none_counted (λ p. is_stock job p && false) (λ p. and_false (is_stock job p)) points

-- tests that say the same at each point of each of these rays give one count
same_on_rays : (grid : GridSize) (p q : LatticePoint → Bool) (rays : List Ray) (d : Ray)
    → ((n l : ℕ) → n < length rays → l < points_of grid (slice_index_or rays n d).family
    → p (point_in grid (slice_index_or rays n d) l) ≡ q (point_in grid (slice_index_or rays n d) l))
    → count_by p (flat_map (points_on grid) rays) ≡ count_by q (flat_map (points_on grid) rays)
same_on_rays grid p q [] d same = refl
same_on_rays grid p q (ray ∷ rays) d same =
    let size = points_of grid ray.family in
    let rest : List LatticePoint = flat_map (points_on grid) rays in
    let here : count_by p (points_on grid ray) ≡ count_by q (points_on grid ray) =
    count_map p (point_in grid ray) (range_with_len 0 size)
    ∙ below_same size (λ l. p (point_in grid ray l)) (λ l. q (point_in grid ray l)) (λ l lt. same 0 l (omega arith) lt)
    ∙ sym (count_map q (point_in grid ray) (range_with_len 0 size)) in
    count_append p (points_on grid ray) rest
    ∙ ap₂ (λ a b. a + b) here (same_on_rays grid p q rays d (λ n l lt at. same (suc n) l (omega (arith, lt)) at))
    ∙ sym (count_append q (points_on grid ray) rest)

-- and at each point of a strip
same_on_strip : (grid : GridSize) (strip : ℕ) (stock p q : LatticePoint → Bool)
    → ((n l : ℕ) → n < length (strip_at grid strip) → l < points_at grid strip n
    → (stock (point_at grid strip n l) && p (point_at grid strip n l)) ≡ (stock (point_at grid strip n l) && q (point_at grid strip n l)))
    → count_by (λ point. stock point && p point) (strip_points grid strip)
    ≡ count_by (λ point. stock point && q point) (strip_points grid strip)
same_on_strip grid strip stock p q same =
    same_on_rays grid (λ point. stock point && p point) (λ point. stock point && q point) (strip_at grid strip)
    record { family = X; i = 0; j = 0 }
    same

-- where the same points are sure at two versions, the same number is removed; and the same number is possible where the same are
pub same_totals : (job : Job) (strip v w : ℕ)
    → ((n l : ℕ) → n < length (strip_at job.plan.grid strip) → l < points_at job.plan.grid strip n
    → sure_at job strip v n l ≡ sure_at job strip w n l)
    → (totals_over job (strip_points job.plan.grid strip) (left_moves job.plan v)).removed
    ≡ (totals_over job (strip_points job.plan.grid strip) (left_moves job.plan w)).removed
same_totals job strip v w same =
    same_on_strip job.plan.grid strip (is_stock job) (some_sure job.plan (left_moves job.plan v))
    (some_sure job.plan (left_moves job.plan w)) same

pub same_possible_totals : (job : Job) (strip v w : ℕ)
    → ((n l : ℕ) → n < length (strip_at job.plan.grid strip) → l < points_at job.plan.grid strip n
    → possible_at job strip v n l ≡ possible_at job strip w n l)
    → (totals_over job (strip_points job.plan.grid strip) (left_moves job.plan v)).possible
    ≡ (totals_over job (strip_points job.plan.grid strip) (left_moves job.plan w)).possible
same_possible_totals job strip v w same =
    same_on_strip job.plan.grid strip (is_stock job) (some_possible job.plan (left_moves job.plan v))
    (some_possible job.plan (left_moves job.plan w)) same
