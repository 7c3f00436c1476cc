-- The verdict by what was found.
use Rattle.std.proofs.Common.{◌≡◌, ℕ, ◌≤◌, not, ◌&&◌, leb, true, List, get_or, Option, Some, None, refl, ap, sym, subst, ◌∙◌}
use Rattle.std.specs.List.{find, list_all}
use Rattle.std.specs.Option.{option_map}
use Rattle.std.proofs.lemmas.Bool.{and_parts, leb-true}
use Rattle.std.proofs.lemmas.List.{get_or_default}
use Rattle.space.specs.Sweeps.{SweepOf}
use Rattle.bern_form.specs.Slab.{SlabSize}
use Rattle.cutter_slabs.specs.Cutter.{CutterSize}
use Rattle.cutter_slabs.specs.Stacks.{outer_stack}
use Rattle.ray_grid.specs.Grids.{GridSize}
use Rattle.ray_grid.specs.Points.{IsPointOf, LatticePoint, lattice_of, point_in}
use Rattle.ray_grid.specs.declared.ray.Ray.{Ray}
use Rattle.ray_grid.proofs.Counted.{only_points}
use Rattle.ray_shapes.specs.declared.solid.Solid.{Solid}
use Rattle.cert_lines.specs.Certificates.{are_slabs, is_cell_on}
use Rattle.cert_lines.specs.declared.cell.CertCell.{CertCell}
use Rattle.cert_boxes.specs.declared.span.CellSpan.{CellSpan}
use Rattle.cert_boxes.specs.declared.verdict.Verdict.TheVariants.{Accepted, BoxStands, Uncovered}
use Rattle.cert_boxes.specs.Covering.{wants_cover}
use Rattle.cert_boxes.specs.Holding.{are_slabs_excluded}
use Rattle.cert_boxes.specs.Rows.{AreRows}
use Rattle.cert_boxes.specs.Search.{IsFirstPlace, is_missed}
use Rattle.cert_boxes.specs.Tasks.{CertTask, cert_task}
use Rattle.cert_boxes.specs.Untouched.{AcceptedIsUntouched}
use Rattle.cert_boxes.specs.Verdicts.{is_uncovered, verdict_on}
use Rattle.cert_boxes.proofs.Found.{found_same}
use Rattle.cert_boxes.proofs.RowLemmas.{covered_by_row}

-- the line that was found, or that none was
pub stands : (found : Option CertCell) (point : Option LatticePoint) (line : ℕ) → Some line ≡ option_map (λ (cell : CertCell). cell.line) found → BoxStands line ≡ verdict_on found point
stands None point line h = cc
stands (Some cell) point line h = let same : line ≡ cell.line = cc in ap BoxStands same

pub none_stands : (found : Option CertCell) → None ≡ option_map (λ (cell : CertCell). cell.line) found → found ≡ None
none_stands None h = refl
none_stands (Some cell) h = cc

-- and the point
pub missed : (line : Option CertCell) (point : Option LatticePoint) (grid : GridSize) (ray : Ray) (l : ℕ) → line ≡ None → point ≡ Some (point_in grid ray l) → Uncovered ray l ≡ verdict_on line point
missed line point grid ray l none found = sym (ap (λ (x : Option CertCell). verdict_on x point) none ∙ ap (verdict_on None) found)

pub accepted : (line : Option CertCell) (point : Option LatticePoint) → line ≡ None → point ≡ None → Accepted ≡ verdict_on line point
accepted line point none nowhere = sym (ap (λ (x : Option CertCell). verdict_on x point) none ∙ ap (verdict_on None) nowhere)

-- the first line by the slabs that were made
pub by_slabs : (sweep : SweepOf) (grid : GridSize) (cells : List CertCell) {slabs : List SlabSize} {cutter other : CutterSize} {n m : ℕ} → slabs ≡ outer_stack cutter n → cutter ≡ other → n ≡ m
    → find (λ (cell : CertCell). not (are_slabs_excluded sweep grid slabs cell)) cells ≡ find (λ (cell : CertCell). not (are_slabs_excluded sweep grid (outer_stack other m) cell)) cells
by_slabs sweep grid cells es ec en =
    (λ t. find (λ (cell : CertCell). not (are_slabs_excluded sweep grid (es t) cell)) cells) ∙ (λ t. find (λ (cell : CertCell). not (are_slabs_excluded sweep grid (outer_stack (ec t) (en t)) cell)) cells)

-- a point is missed by the rows where it is not covered by the lines
missed_at : (task : CertTask) (cells : List CertCell) (rows : List (List CellSpan)) → AreRows task.grid cells rows → list_all (is_cell_on task.grid) cells ≡ true
    → (point : LatticePoint) → IsPointOf task.grid point → is_missed task rows point ≡ is_uncovered task cells point
missed_at task cells rows are on point of = ap (λ b. wants_cover task point && not b) (covered_by_row task.grid cells rows point are on of.ray)

pub same_points : (task : CertTask) (cells : List CertCell) (rows : List (List CellSpan)) → AreRows task.grid cells rows → list_all (is_cell_on task.grid) cells ≡ true
    → find (is_missed task rows) (lattice_of task.grid) ≡ find (is_uncovered task cells) (lattice_of task.grid)
same_points task cells rows are on =
    found_same (is_missed task rows) (is_uncovered task cells) (lattice_of task.grid)
    (λ k d low.
    let point = get_or (lattice_of task.grid) k d in
    missed_at task cells rows are on point (only_points task.grid point (k, low, get_or_default (lattice_of task.grid) k point d low)))

-- what was found on the shape's own grid was found on the grid that is the same
pub found_on : (sweep : SweepOf) (cutter other : CutterSize) (own grid : GridSize) (part fixture : Solid) (rows : List (List CellSpan)) (found : Option (Ray × ℕ)) → own ≡ grid → cutter ≡ other
    → IsFirstPlace (cert_task sweep cutter own part fixture) rows (lattice_of own) found → IsFirstPlace (cert_task sweep other grid part fixture) rows (lattice_of grid) found
found_on sweep cutter other own grid part fixture rows found eg ec h =
    subst (λ (g : GridSize). IsFirstPlace (cert_task sweep other g part fixture) rows (lattice_of g) found) eg
    (subst (λ (c : CutterSize). IsFirstPlace (cert_task sweep c own part fixture) rows (lattice_of own) found) ec h)

-- the number of slabs is in range
pub some_slabs : (n : ℕ) → are_slabs n ≡ true → 1 ≤ n
some_slabs n h = leb-true 1 n (and_parts (leb 1 n) (leb n 256) h).0

pub few_slabs : (n : ℕ) → are_slabs n ≡ true → n ≤ 256
few_slabs n h = leb-true n 256 (and_parts (leb 1 n) (leb n 256) h).1

-- the line that is due by what was found with the slabs and cells as they were passed
pub line_due : (sweep : SweepOf) (grid : GridSize) (cells others : List CertCell) {slabs : List SlabSize} {cutter other : CutterSize} {n m : ℕ} (standing : Option ℕ) → slabs ≡ outer_stack cutter n → cutter ≡ other → n ≡ m
    → cells ≡ others → standing ≡ option_map (λ (cell : CertCell). cell.line) (find (λ (cell : CertCell). not (are_slabs_excluded sweep grid slabs cell)) cells)
    → standing ≡ option_map (λ (cell : CertCell). cell.line) (find (λ (cell : CertCell). not (are_slabs_excluded sweep grid (outer_stack other m) cell)) others)
line_due sweep grid cells others {other = other} {m = m} standing es ec en same h =
    h ∙ ap (option_map (λ (cell : CertCell). cell.line)) (by_slabs sweep grid cells es ec en ∙ ap (find (λ (cell : CertCell). not (are_slabs_excluded sweep grid (outer_stack other m) cell))) same)

-- and the point
pub point_due : (sweep : SweepOf) (cutter other : CutterSize) (own grid : GridSize) (part fixture : Solid) (cells others : List CertCell) (rows passed : List (List CellSpan)) (found : Option (Ray × ℕ)) → own ≡ grid → cutter ≡ other
    → cells ≡ others → passed ≡ rows → AreRows grid cells rows → list_all (is_cell_on grid) others ≡ true → IsFirstPlace (cert_task sweep cutter own part fixture) passed (lattice_of own) found
    → find (is_uncovered (cert_task sweep other grid part fixture) others) (lattice_of grid) ≡ option_map (λ (place : Ray × ℕ). point_in grid place.0 place.1) found
point_due sweep cutter other own grid part fixture cells others rows passed found eg ec same kept are on h =
    let task = cert_task sweep other grid part fixture in
    let rows_are : AreRows grid others passed = subst (λ (r : List (List CellSpan)). AreRows grid others r) (sym kept) (subst (λ (l : List CertCell). AreRows grid l rows) same are) in
    sym (same_points task others passed rows_are on) ∙ found_on sweep cutter other own grid part fixture passed found eg ec h

-- the law of accepted certificates by the cutter and the slabs that were passed
pub untouched_by : (sweep : SweepOf) (cutter other : CutterSize) (n m : ℕ) → cutter ≡ other → n ≡ m → AcceptedIsUntouched sweep cutter n → AcceptedIsUntouched sweep other m
untouched_by sweep cutter other n m ec en law = subst (λ (k : ℕ). AcceptedIsUntouched sweep other k) en (subst (λ (c : CutterSize). AcceptedIsUntouched sweep c n) ec law)
