-- Counts and totals over the lattice are those over its strips, one after the other.
use Rattle.std.proofs.Common.{◌≡◌, ℕ, zero, suc, ◌+◌, ◌-◌, ◌*◌, ◌^◌, ◌<◌, ◌≤◌, List}
use Rattle.std.proofs.Common.{[], ◌∷◌, ◌++◌, length, take, arith, refl, sym, ap, ◌∙◌, length-append, add-one}
use Rattle.std.specs.List.{flat_map}
use Rattle.std.proofs.lemmas.Grind.{flat_map-append}
use Rattle.std.proofs.lemmas.List.{flat_map_more, take_all, take_more}
use Rattle.std.proofs.lemmas.List.Sums.{count_by-le-length}
use mathlib.Core.Bool.{◌&&◌}
use Rattle.ray_grid.specs.Grids.{GridSize}
use Rattle.ray_grid.specs.declared.ray.Ray.{Ray}
use Rattle.ray_grid.specs.Points.{LatticePoint, lattice_of, points_on}
use Rattle.ray_grid.specs.Ranges.{IsGrid}
use Rattle.ray_grid.specs.Strips.{strip_at, strips_of}
use Rattle.job_counts.specs.Counts.{AreWithin, most_count, plus}
use Rattle.job_counts.specs.Totals.{TotalsWithin, plus_totals}
use Rattle.dexel_rays.specs.Findings.{Seen, findings, is_fixture_possible, is_fixture_sure, is_new_possible}
use Rattle.dexel_rays.specs.Findings.{is_part_possible, is_part_sure, is_rapid_possible, is_rapid_sure, is_removed}
use Rattle.dexel_rays.proofs.Found.{findings_within}
use Rattle.job_model.specs.Findings.{found_over, seen}
use Rattle.job_model.specs.Points.{is_stock, some_possible, some_sure, strip_points, totals_over}
use Rattle.job_model.specs.Tasks.{Job, JobMove}
use Rattle.job_model.proofs.Sums.{count_append}
use Rattle.strip_journal.specs.Strips.{most_before}
use Rattle.job_run.specs.Founds.{first_points}
use Rattle.job_run.proofs.Sizes.{points_few, strips_few}

joined : (grid : GridSize) (strips : List (List Ray))
    → flat_map (flat_map (points_on grid)) strips ≡ flat_map (points_on grid) (flat_map (λ strip. strip) strips)
joined grid [] = refl
joined grid (strip ∷ strips) =
    ap (λ l. flat_map (points_on grid) strip ++ l) (joined grid strips)
    ∙ sym (flat_map-append (points_on grid) strip (flat_map (λ s. s) strips))

-- the points of all strips are the lattice
pub first_all : (grid : GridSize) (count : ℕ) → length (strips_of grid) ≤ count → first_points grid count ≡ lattice_of grid
first_all grid count le = ap (flat_map (flat_map (points_on grid))) (take_all count (strips_of grid) le) ∙ joined grid (strips_of grid)

-- one strip more
pub first_more : (grid : GridSize) (count : ℕ) → count < length (strips_of grid)
    → first_points grid (count + 1) ≡ first_points grid count ++ strip_points grid count
first_more grid count lt =
    ap (flat_map (flat_map (points_on grid))) (take_more (strips_of grid) count [] lt)
    ∙ sym (flat_map_more (flat_map (points_on grid)) [] (take count (strips_of grid)) (strip_at grid count))

-- each strip has few points
pub first_few : (grid : GridSize) (count : ℕ) → IsGrid grid → count ≤ length (strips_of grid)
    → length (first_points grid count) ≤ count * (2 ^ 32 - 1)
first_few grid zero is le = omega arith
first_few grid (suc count) is le =
    let lt : count < length (strips_of grid) = omega arith in
    let more = ap (λ n. length (first_points grid n)) (sym (add-one count)) ∙ ap length (first_more grid count lt) in
    let parts = length-append (first_points grid count) (strip_points grid count) in
    let before = first_few grid count is (omega arith) in
    let here = points_few grid count is lt in
    omega (arith, more, parts, before, here)

-- those of some strips leave room for those of one more
pub room_for : (grid : GridSize) (count : ℕ) → IsGrid grid → count < length (strips_of grid)
    → length (first_points grid count) ≤ most_before
room_for grid count is lt =
    let few = strips_few grid is in
    let before = first_few grid count is (omega arith) in
    omega (arith, few, before)

-- and all of them can be counted
pub all_within : (grid : GridSize) (count : ℕ) → IsGrid grid → count ≤ length (strips_of grid)
    → length (first_points grid count) ≤ most_count
all_within grid count is le =
    let few = strips_few grid is in
    let before = first_few grid count is le in
    omega (arith, few, before)

-- what is found over two lists together
findings_append : {P : Type 0} (see : P → Seen) (xs ys : List P) → findings see (xs ++ ys) ≡ plus (findings see xs) (findings see ys)
findings_append see xs ys = λ i. record {
  removed = count_append (λ p. is_removed (see p)) xs ys i;
  possible = count_append (λ p. is_new_possible (see p)) xs ys i;
  part_sure = count_append (λ p. is_part_sure (see p)) xs ys i;
  part_possible = count_append (λ p. is_part_possible (see p)) xs ys i;
  fix_sure = count_append (λ p. is_fixture_sure (see p)) xs ys i;
  fix_possible = count_append (λ p. is_fixture_possible (see p)) xs ys i;
  rapid_sure = count_append (λ p. is_rapid_sure (see p)) xs ys i;
  rapid_possible = count_append (λ p. is_rapid_possible (see p)) xs ys i;
}

-- what a move finds with one strip more
pub found_more : (job : Job) (ahead : List JobMove) (move : JobMove) (count : ℕ) → count < length (strips_of job.plan.grid)
    → found_over job (first_points job.plan.grid (count + 1)) ahead move
    ≡ plus (found_over job (first_points job.plan.grid count) ahead move) (found_over job (strip_points job.plan.grid count) ahead move)
found_more job ahead move count lt =
    ap (λ points. found_over job points ahead move) (first_more job.plan.grid count lt)
    ∙ findings_append (seen job ahead move) (first_points job.plan.grid count) (strip_points job.plan.grid count)

-- counts over at most `most` points are at most `most`
pub within_room : (most : ℕ) (job : Job) (points : List LatticePoint) (ahead : List JobMove) (move : JobMove) → length points ≤ most
    → AreWithin most (found_over job points ahead move)
within_room most job points ahead move few =
    let within = findings_within (seen job ahead move) points in
    record {
      removed = omega (arith, few, within.removed);
      possible = omega (arith, few, within.possible);
      part_sure = omega (arith, few, within.part_sure);
      part_possible = omega (arith, few, within.part_possible);
      fix_sure = omega (arith, few, within.fix_sure);
      fix_possible = omega (arith, few, within.fix_possible);
      rapid_sure = omega (arith, few, within.rapid_sure);
      rapid_possible = omega (arith, few, within.rapid_possible);
    }

-- the totals over two lists together
totals_append : (job : Job) (moves : List JobMove) (xs ys : List LatticePoint)
    → totals_over job (xs ++ ys) moves ≡ plus_totals (totals_over job xs moves) (totals_over job ys moves)
totals_append job moves xs ys = λ i. record {
  removed = count_append (λ point. is_stock job point && some_sure job.plan moves point) xs ys i;
  possible = count_append (λ point. is_stock job point && some_possible job.plan moves point) xs ys i;
  of = count_append (is_stock job) xs ys i;
}

-- the totals with one strip more
pub totals_more : (job : Job) (moves : List JobMove) (count : ℕ) → count < length (strips_of job.plan.grid)
    → totals_over job (first_points job.plan.grid (count + 1)) moves
    ≡ plus_totals (totals_over job (first_points job.plan.grid count) moves) (totals_over job (strip_points job.plan.grid count) moves)
totals_more job moves count lt =
    ap (λ points. totals_over job points moves) (first_more job.plan.grid count lt)
    ∙ totals_append job moves (first_points job.plan.grid count) (strip_points job.plan.grid count)

-- no total is above the number of points
pub totals_within : (most : ℕ) (job : Job) (moves : List JobMove) (points : List LatticePoint) → length points ≤ most
    → TotalsWithin most (totals_over job points moves)
totals_within most job moves points few =
    let removed = count_by-le-length (λ point. is_stock job point && some_sure job.plan moves point) points in
    let possible = count_by-le-length (λ point. is_stock job point && some_possible job.plan moves point) points in
    let all = count_by-le-length (is_stock job) points in
    record { removed = omega (arith, few, removed); possible = omega (arith, few, possible); of = omega (arith, few, all) }
