-- The totals over the lattice are those over its strips, one after the other.
use Rattle.std.proofs.Common.{◌≡◌, ℕ, ◌+◌, ◌<◌, ◌≤◌, cond, List, [], ◌∷◌, ◌++◌, length, take, count_by, arith, refl, sym, ap, ◌∙◌}
use Rattle.std.specs.List.{flat_map}
use Rattle.std.proofs.lemmas.Grind.{flat_map-append}
use Rattle.std.proofs.lemmas.List.{flat_map_more, take_all, take_more}
use Rattle.std.proofs.lemmas.List.Folds.{length-flat_map-take}
use Rattle.std.proofs.lemmas.List.Sums.{count_by-le-length, sum_by-append}
use mathlib.Core.Bool.{Bool, ◌&&◌}
use Rattle.ray_grid.specs.Grids.{GridSize}
use Rattle.ray_grid.specs.declared.ray.Ray.{Ray}
use Rattle.ray_grid.specs.Points.{LatticePoint, lattice_of, points_on}
use Rattle.ray_grid.specs.Strips.{strip_at, strips_of}
use Rattle.job_counts.specs.declared.totals.Totals.{Totals}
use Rattle.job_counts.specs.Totals.{TotalsWithin, plus_totals}
use Rattle.job_model.specs.Points.{is_stock, some_possible, some_sure, strip_points, totals_over}
use Rattle.job_model.specs.Tasks.{Job, JobMove}

-- the points of the first k strips
abbrev pub first_points : GridSize → ℕ → List LatticePoint
first_points grid k = flat_map (flat_map (points_on grid)) (take k (strips_of grid))

joined : (grid : GridSize) (strips : List (List Ray))
    → flat_map (flat_map (points_on grid)) strips ≡ flat_map (points_on grid) (flat_map (λ strip. strip) strips)
joined grid [] = refl
joined grid (strip ∷ strips) =
    ap (λ l. flat_map (points_on grid) strip ++ l) (joined grid strips)
    ∙ sym (flat_map-append (points_on grid) strip (flat_map (λ s. s) strips))

-- those of all strips are the lattice
pub first_all : (grid : GridSize) (k : ℕ) → length (strips_of grid) ≤ k → first_points grid k ≡ lattice_of grid
first_all grid k le = ap (flat_map (flat_map (points_on grid))) (take_all k (strips_of grid) le) ∙ joined grid (strips_of grid)

-- one strip more
pub first_more : (grid : GridSize) (k : ℕ) → k < length (strips_of grid)
    → first_points grid (k + 1) ≡ first_points grid k ++ strip_points grid k
first_more grid k lt =
    ap (flat_map (flat_map (points_on grid))) (take_more (strips_of grid) k [] lt)
    ∙ sym (flat_map_more (flat_map (points_on grid)) [] (take k (strips_of grid)) (strip_at grid k))

-- the first strips have no more points than all
pub first_within : (grid : GridSize) (k : ℕ) → k < length (strips_of grid)
    → length (first_points grid k) + length (strip_points grid k) ≤ length (lattice_of grid)
first_within grid k lt =
    let whole : length (flat_map (flat_map (points_on grid)) (strips_of grid)) ≡ length (lattice_of grid) =
    ap length (joined grid (strips_of grid)) in
    let part = length-flat_map-take (flat_map (points_on grid)) (strips_of grid) k [] lt in
    omega arith

count_append : {X : Type 0} (p : X → Bool) (xs ys : List X) → count_by p (xs ++ ys) ≡ count_by p xs + count_by p ys
count_append p xs ys = sum_by-append (λ x. cond (p x) 1 0) xs ys

-- the totals over two lists together
totals_append : (job : Job) (moves : List JobMove) (xs ys : List LatticePoint)
    → totals_over job (xs ++ ys) moves ≡ plus_totals (totals_over job xs moves) (totals_over job ys moves)
totals_append job moves xs ys = λ i. record {
  removed = count_append (λ point. is_stock job point && some_sure job.plan moves point) xs ys i;
  possible = count_append (λ point. is_stock job point && some_possible job.plan moves point) xs ys i;
  of = count_append (is_stock job) xs ys i;
}

-- and with one strip more
pub totals_more : (job : Job) (grid : GridSize) (moves : List JobMove) (k : ℕ) → k < length (strips_of grid)
    → totals_over job (first_points grid (k + 1)) moves ≡ plus_totals (totals_over job (first_points grid k) moves)
    (totals_over job (strip_points grid k) moves)
totals_more job grid moves k lt = ap (λ points. totals_over job points moves) (first_more grid k lt)
    ∙ totals_append job moves (first_points grid k) (strip_points grid k)

-- no total is above the number of points
pub totals_within : (job : Job) (moves : List JobMove) (points : List LatticePoint)
    → TotalsWithin (length points) (totals_over job points moves)
totals_within job moves points = record {
  removed = count_by-le-length (λ point. is_stock job point && some_sure job.plan moves point) points;
  possible = count_by-le-length (λ point. is_stock job point && some_possible job.plan moves point) points;
  of = count_by-le-length (is_stock job) points;
}

-- bounds of two totals give one of their sum
pub plus_within : (a b : Totals) (m n most : ℕ) → TotalsWithin m a → TotalsWithin n b → m + n ≤ most → TotalsWithin most (plus_totals a b)
plus_within a b m n most x y le = record {
  removed = omega (arith, x.removed, y.removed);
  possible = omega (arith, x.possible, y.possible);
  of = omega (arith, x.of, y.of);
}
