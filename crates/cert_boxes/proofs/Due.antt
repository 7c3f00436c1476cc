-- The certificate that is due is one for the task, and there is none exactly where some point of the part or of the fixtures is possible.
use Rattle.std.proofs.Common.{◌≡◌, ℕ, zero, suc, ◌+◌, ◌-◌, ◌*◌, ◌^◌, ◌<◌, ◌≤◌, Bool, true, false, not, cond, ◌||◌, ◌&&◌, leb, ltb, List, [], ◌∷◌, get_or, Option, Some, None, ℤ, pos, arith, refl, ap, sym, subst, ⊎_elim, ◌∙◌}
use Rattle.std.specs.List.{Contains, find, list_all, list_any, slice_get}
use Rattle.std.proofs.lemmas.Bool.{and_from, and_parts, cases_Bool, cases_lt, false_from_ne_true, leb-true, le-leb, lt-ltb, ltb-true, or_parts}
use Rattle.std.proofs.lemmas.Nat.{pow-add, pow_pos}
use Rattle.std.proofs.lemmas.Option.{slice_get_within}
use Rattle.std.proofs.Math.Nat.{mul-le-mul_left, le_of_mul-le-mul_left}
use Rattle.space.specs.Reach.{is_in_reach}
use Rattle.space.specs.Sweeps.{SweepOf}
use Rattle.bern_form.specs.Between.{is_unexcluded_between}
use Rattle.bern_form.specs.Marks.{is_unexcluded_on, is_unexcluded_on_cell}
use Rattle.bern_form.specs.Slab.{SlabSize}
use Rattle.bern_form.proofs.Decided.{decides_below}
use Rattle.cutter_slabs.specs.Cutter.{CutterSize}
use Rattle.cutter_slabs.specs.Stacks.{outer_stack, reach_of}
use Rattle.cutter_marks.specs.MarkBy.{is_possible_by}
use Rattle.ray_grid.specs.Grids.{GridSize}
use Rattle.ray_grid.specs.Families.{first_axis, second_axis}
use Rattle.ray_grid.specs.Lattice.{IsRay, is_ray_on, nodes_of, point_of, points_of}
use Rattle.ray_grid.specs.Points.{IsPointOf, LatticePoint, lattice_of, point_in, rays_of}
use Rattle.ray_grid.specs.Strips.{ray_number}
use Rattle.ray_grid.specs.declared.ray.Ray.{Ray}
use Rattle.ray_grid.proofs.Counted.{only_points}
use Rattle.ray_grid.proofs.Numbered.{number_is_place}
use Rattle.ray_boxes.specs.Boxes.{is_excluded_in_box}
use Rattle.ray_boxes.proofs.Excluded.{none_left_alone}
use Rattle.ray_boxes.proofs.Lines.{ray_line}
use Rattle.cert_lines.specs.Certificates.{are_slabs, is_cell_on, is_span_on}
use Rattle.cert_lines.specs.Spelling.{AreAtTheirLines, is_same_ray, line_of_cell}
use Rattle.cert_lines.specs.declared.cell.CertCell.{CertCell}
use Rattle.cert_lines.specs.declared.cert.Cert.{Cert}
use Rattle.cert_boxes.specs.Covering.{finest_in, is_among, is_covered, is_during, names, wants_cover}
use Rattle.cert_boxes.specs.Holding.{box_holds, is_slab_excluded}
use Rattle.cert_boxes.specs.Made.{DueIsForTask, IsCertFor, is_guarded_possible, may_touch}
use Rattle.cert_boxes.specs.Making.{cells_of_rays, cert_with, numbered}
use Rattle.cert_boxes.specs.Tasks.{CertTask, is_guarded}
use Rattle.cert_boxes.specs.Verdicts.{first_line, first_point, is_uncovered, verdict_on}
use Rattle.cert_boxes.proofs.Accepted.{box_at}
use Rattle.cert_boxes.proofs.Covers.{all_from}
use Rattle.cert_boxes.proofs.Listed.{any_listed, none_fails, some_item}
use Rattle.cert_boxes.proofs.RayTrees.{AreCellsOf, IsCellOf, IsStuckOn, RaysFacts, listed_cases, point_listed, rays_facts}
use Rattle.cert_boxes.proofs.RowLemmas.{same_ray}
use Rattle.cert_boxes.proofs.Scales.{left_on_no_finer}
use Rattle.cert_boxes.proofs.Trees.{EachCell, each_by, least_box}

-- tests that say both
denied : (b : Bool) → b ≡ true → not b ≡ true → ⊥
denied b h k = cc

denied_is : (b : Bool) → b ≡ true → b ≡ false → ⊥
denied_is b h k = cc

passes : (b : Bool) → not b ≡ false → b ≡ true
passes true h = refl
passes false h = cc

-- cells with the numbers of their lines: what is so of a cell without its number
none_stands : (task : CertTask) (slabs number : ℕ) (last : Option Ray) (cells : List CertCell) → EachCell (λ cell. box_holds task slabs cell ≡ true) cells
    → find (λ cell. not (box_holds task slabs cell)) (numbered number last cells) ≡ None
none_stands task slabs number last [] each = refl
none_stands task slabs number last (cell ∷ cells) each =
    let line = line_of_cell number last cell.ray in let here : CertCell = record cell { line = line } in
    let rest = find (λ c. not (box_holds task slabs c)) (numbered (line + 1) (Some cell.ray) cells) in
    ap (λ b. cond (not b) (Some here) rest) each.0 ∙ none_stands task slabs (line + 1) (Some cell.ray) cells each.1

same_names : (point : LatticePoint) (e number : ℕ) (last : Option Ray) (cells : List CertCell) → list_any (names point e) (numbered number last cells) ≡ list_any (names point e) cells
same_names point e number last [] = refl
same_names point e number last (cell ∷ cells) =
    let line = line_of_cell number last cell.ray in
    ap (λ b. names point e cell || b) (same_names point e (line + 1) (Some cell.ray) cells)

are_all_on : (grid : GridSize) (number : ℕ) (last : Option Ray) (cells : List CertCell) → EachCell (λ cell. is_cell_on grid cell ≡ true) cells → list_all (is_cell_on grid) (numbered number last cells) ≡ true
are_all_on grid number last [] each = refl
are_all_on grid number last (cell ∷ cells) each =
    let line = line_of_cell number last cell.ray in
    and_from (is_cell_on grid cell) (list_all (is_cell_on grid) (numbered (line + 1) (Some cell.ray) cells)) each.0 (are_all_on grid (line + 1) (Some cell.ray) cells each.1)

at_their_lines : (number : ℕ) (last : Option Ray) (cells : List CertCell) → AreAtTheirLines number last (numbered number last cells)
at_their_lines number last [] = tt
at_their_lines number last (cell ∷ cells) =
    let line = line_of_cell number last cell.ray in (refl, at_their_lines (line + 1) (Some cell.ray) cells)

-- a list in which no item passes
nothing_found : {X : Type 0} (test : X → Bool) (xs : List X) → ((x : X) → Contains xs x → test x ≡ false) → find test xs ≡ None
nothing_found test [] none = refl
nothing_found test (x ∷ xs) none =
    ap (λ b. cond b (Some x) (find test xs)) (none x (0, omega arith, refl))
    ∙ nothing_found test xs (λ y there. none y (suc there.0, (let l = there.1 in omega arith), there.2))

-- the rays of the grid
pub found_there : {X : Type 0} (xs : List X) (i : ℕ) (x : X) → slice_get xs i ≡ Some x → get_or xs i x ≡ x
found_there [] i x h = cc
found_there (y ∷ xs) zero x h = cc
found_there (y ∷ xs) (suc i) x h = found_there xs i x h

ray_listed : (grid : GridSize) (ray : Ray) → IsRay grid ray → Contains (rays_of grid) ray
ray_listed grid ray on =
    let place = number_is_place grid ray on in
    (ray_number grid ray, slice_get_within (rays_of grid) (ray_number grid ray) ray place, found_there (rays_of grid) (ray_number grid ray) ray place)

cell_is_on : (task : CertTask) (slabs depth : ℕ) → depth ≤ 10 → (cell : CertCell) → IsCellOf task slabs depth (rays_of task.grid) cell → is_cell_on task.grid cell ≡ true
cell_is_on task slabs depth shallow cell p =
    let grid = task.grid in let points = points_of grid cell.ray.family in
    let low : cell.a < points = (let s = p.some in let w = p.within in omega arith) in
    let few : cell.q ≤ 10 = (let f = p.few in omega arith) in
    let on : IsRay grid cell.ray = (only_points grid (point_in grid cell.ray cell.a) (point_listed grid (rays_of grid) cell.ray cell.a p.ray low)).ray in
    and_from (is_ray_on grid cell.ray) (is_span_on grid cell)
    (and_from (ltb cell.ray.i (nodes_of grid (first_axis cell.ray.family))) (ltb cell.ray.j (nodes_of grid (second_axis cell.ray.family)))
    (lt-ltb cell.ray.i (nodes_of grid (first_axis cell.ray.family)) on.first) (lt-ltb cell.ray.j (nodes_of grid (second_axis cell.ray.family)) on.second))
    (and_from (leb cell.q 10) (ltb cell.k (2 ^ cell.q) && (ltb cell.a cell.b && leb cell.b points)) (le-leb cell.q 10 few)
    (and_from (ltb cell.k (2 ^ cell.q)) (ltb cell.a cell.b && leb cell.b points) (lt-ltb cell.k (2 ^ cell.q) p.part)
    (and_from (ltb cell.a cell.b) (leb cell.b points) (lt-ltb cell.a cell.b p.some) (le-leb cell.b points p.within))))

-- a point of the lattice is that of its ray and index
own_point : (grid : GridSize) (point : LatticePoint) → IsPointOf grid point → point ≡ point_in grid point.ray point.l
own_point grid point of = let same = of.position in λ t. record { ray = point.ray; l = point.l; position = same t }

-- each point that has to be covered is
covered_at : (task : CertTask) (slabs depth : ℕ) (cells : List CertCell) (point : LatticePoint) → AreCellsOf task slabs depth (rays_of task.grid) cells → Contains (lattice_of task.grid) point
    → wants_cover task point ≡ true → (e : ℕ) → e < 1024 → list_any (names point e) cells ≡ true
covered_at task slabs depth cells point of there want e within =
    let is = only_points task.grid point there in
    of.cover point.ray point.l e (ray_listed task.grid point.ray is.ray) is.index (ap (wants_cover task) (sym (own_point task.grid point is)) ∙ want) within

none_uncovered : (task : CertTask) (slabs depth : ℕ) (cells : List CertCell) (point : LatticePoint) → AreCellsOf task slabs depth (rays_of task.grid) cells → Contains (lattice_of task.grid) point
    → is_uncovered task (numbered 3 None cells) point ≡ false
none_uncovered task slabs depth cells point of there =
    false_from_ne_true (is_uncovered task (numbered 3 None cells) point)
    (λ missed.
    let both = and_parts (wants_cover task point) (not (is_covered (numbered 3 None cells) point)) missed in
    let covered : is_covered (numbered 3 None cells) point ≡ true =
    all_from (λ e. list_any (names point e) (numbered 3 None cells)) 0 1024
    (λ e after before. same_names point e 3 None cells ∙ covered_at task slabs depth cells point of there both.0 e before) in
    denied (is_covered (numbered 3 None cells) point) covered both.1)

cert_for : (task : CertTask) (slabs depth : ℕ) (cells : List CertCell) → are_slabs slabs ≡ true → depth ≤ 10 → AreCellsOf task slabs depth (rays_of task.grid) cells
    → IsCertFor task (record { slabs = slabs; cells = numbered 3 None cells })
cert_for task slabs depth cells some shallow of =
    let cert : Cert = record { slabs = slabs; cells = numbered 3 None cells } in
    let lines : first_line task cert ≡ None =
    none_stands task slabs 3 None cells (each_by (IsCellOf task slabs depth (rays_of task.grid)) (λ cell. box_holds task slabs cell ≡ true) (λ cell p. p.holds) cells of.each) in
    let points : first_point task cert ≡ None = nothing_found (is_uncovered task cert.cells) (lattice_of task.grid) (λ point there. none_uncovered task slabs depth cells point of there) in
    record {
      accepted = ap (λ line. verdict_on line (first_point task cert)) lines ∙ ap (verdict_on None) points;
      ranges = record {
        slabs = some;
        cells = are_all_on task.grid 3 None cells (each_by (IsCellOf task slabs depth (rays_of task.grid)) (λ cell. is_cell_on task.grid cell ≡ true) (cell_is_on task slabs depth shallow) cells of.each);
      };
      lines = at_their_lines 3 None cells;
    }

-- where one index at the depth does not hold its point is possible
all_pass : {X : Type 0} (test : X → Bool) (xs : List X) → list_any (λ x. not (test x)) xs ≡ false → list_all test xs ≡ true
all_pass test [] none = refl
all_pass test (x ∷ xs) none =
    let both = or_parts (not (test x)) (list_any (λ y. not (test y)) xs) none in
    and_from (test x) (list_all test xs) (passes (test x) both.0) (all_pass test xs both.1)

possible_on : (task : CertTask) (slabs depth : ℕ) (stuck : IsStuckOn task slabs depth (rays_of task.grid))
    → is_unexcluded_on (outer_stack task.cutter slabs) task.sweep (point_of task.grid stuck.ray stuck.place) stuck.part (2 ^ depth) ≡ true
possible_on task slabs depth stuck =
    let outer = outer_stack task.cutter slabs in let m = task.sweep in let point = point_of task.grid stuck.ray in
    let place = stuck.place in let k = stuck.part in let S = 2 ^ depth in
    let box = least_box depth 0 stuck.ray k place in
    let last : (place + 1) - 1 ≡ place = omega arith in
    ⊎_elim (λ left. left)
    (λ out.
    let alone : list_any (λ s. not (is_excluded_in_box m (point place) (point place) k (k + 1) S s)) outer ≡ false = none_left_alone outer m (point place) k (k + 1) S out in
    let none : list_any (λ s. not (is_slab_excluded m task.grid box s)) outer ≡ false =
    subst (λ (q : ℕ). list_any (λ s. not (is_excluded_in_box m (point place) (point q) k (k + 1) S s)) outer ≡ false) (sym last) alone in
    let holds : box_holds task slabs box ≡ true = all_pass (is_slab_excluded m task.grid box) outer none in
    absurd (denied_is (box_holds task slabs box) holds stuck.stuck))
    (cases_Bool (is_unexcluded_between outer m (point place) k (k + 1) S))

possible_by : (c : CutterSize) (n : ℕ) (m : SweepOf) (p : List ℤ) (S k : ℕ) → is_in_reach (pos (reach_of c)) m.from m.to p ≡ true → k < S
    → is_unexcluded_on (outer_stack c n) m p k S ≡ true → is_possible_by c n m p S ≡ true
unfolding is_possible_by
possible_by c n m p S k near low left =
    and_from (is_in_reach (pos (reach_of c)) m.from m.to p) (is_unexcluded_on_cell (outer_stack c n) m p S) near
    ((decides_below (λ i. is_unexcluded_on (outer_stack c n) m p i S) (λ i. is_unexcluded_on (outer_stack c n) m p i S ≡ true) S (λ i. (λ e. e, λ e. e))).1 (k, low, left))

stuck_touches : (task : CertTask) (slabs depth : ℕ) → IsStuckOn task slabs depth (rays_of task.grid) → may_touch task slabs depth ≡ true
stuck_touches task slabs depth stuck =
    let point = point_in task.grid stuck.ray stuck.place in
    let both = and_parts (is_in_reach (pos (reach_of task.cutter)) task.sweep.from task.sweep.to point.position) (is_guarded task point) stuck.there in
    any_listed (is_guarded_possible task slabs depth) (lattice_of task.grid) point
    (point_listed task.grid (rays_of task.grid) stuck.ray stuck.place stuck.listed stuck.within)
    (and_from (is_guarded task point) (is_possible_by task.cutter slabs task.sweep point.position (2 ^ depth)) both.1
    (possible_by task.cutter slabs task.sweep point.position (2 ^ depth) stuck.part both.0 stuck.few (possible_on task slabs depth stuck)))

-- and a point that is possible is covered by no cells that hold
possible_parts : (c : CutterSize) (n : ℕ) (m : SweepOf) (p : List ℤ) (S : ℕ) → is_possible_by c n m p S ≡ true
    → (is_in_reach (pos (reach_of c)) m.from m.to p ≡ true) × ((k : ℕ) × (k < S) × (is_unexcluded_on (outer_stack c n) m p k S ≡ true))
unfolding is_possible_by
possible_parts c n m p S h =
    let both = and_parts (is_in_reach (pos (reach_of c)) m.from m.to p) (is_unexcluded_on_cell (outer_stack c n) m p S) h in
    (both.0, (decides_below (λ k. is_unexcluded_on (outer_stack c n) m p k S) (λ k. is_unexcluded_on (outer_stack c n) m p k S ≡ true) S (λ k. (λ e. e, λ e. e))).0 both.1)

-- a finest cell of cell c of 2^depth, which lies in cell k of 2^q: so c does
finer_after : (k c f g : ℕ) → 0 < f → k * (g * f) ≤ c * f → g * k ≤ c
finer_after k c f g some h =
    let scaled : f * (g * k) ≤ f * c = omega arith in
    le_of_mul-le-mul_left {m = g * k} {n = c} {k = f} scaled some

finer_before : (k c f g : ℕ) → 0 < f → c * f < k * (g * f) + g * f → c < g * k + g
finer_before k c f g some h =
    ⊎_elim (λ low. low)
    (λ high.
    let more : f * (g * k + g) ≤ f * c = mul-le-mul_left f high in
    absurd (omega arith))
    (cases_lt c (g * k + g))

-- the finest cells of both levels
finest_scaled : (q depth : ℕ) → q ≤ depth → depth ≤ 10 → finest_in q ≡ 2 ^ (depth - q) * finest_in depth
finest_scaled q depth level shallow =
    let e : 10 - q ≡ (depth - q) + (10 - depth) = omega arith in
    ap (λ n. 2 ^ n) e ∙ pow-add 2 (depth - q) (10 - depth)

finest_within : (depth c : ℕ) → depth ≤ 10 → c < 2 ^ depth → c * finest_in depth < 1024
finest_within depth c shallow low =
    let e : depth + (10 - depth) ≡ 10 = omega arith in
    let whole : 2 ^ depth * finest_in depth ≡ 1024 = sym (pow-add 2 depth (10 - depth)) ∙ ap (λ n. 2 ^ n) e in
    let some = pow_pos (10 - depth) in
    let next : c + 1 ≤ 2 ^ depth = omega arith in
    let more : finest_in depth * (c + 1) ≤ finest_in depth * 2 ^ depth = mul-le-mul_left (finest_in depth) next in
    omega arith

-- a cell that holds leaves no slab for its points on the cells of the depth that it has
held_on : (task : CertTask) (slabs depth : ℕ) (cell : CertCell) (l c : ℕ) → box_holds task slabs cell ≡ true → cell.q ≤ depth → depth ≤ 10 → cell.a ≤ l → l < cell.b
    → cell.k * finest_in cell.q ≤ c * finest_in depth → c * finest_in depth < cell.k * finest_in cell.q + finest_in cell.q
    → is_unexcluded_on (outer_stack task.cutter slabs) task.sweep (point_of task.grid cell.ray l) c (2 ^ depth) ≡ false
held_on task slabs depth cell l c holds level shallow first last after before =
    let outer = outer_stack task.cutter slabs in let m = task.sweep in
    let n = depth - cell.q in let g = 2 ^ n in let f = finest_in depth in
    let some : 0 < f = pow_pos (10 - depth) in
    let scaled = finest_scaled cell.q depth level shallow in
    let low : g * cell.k ≤ c = finer_after cell.k c f g some (subst (λ (x : ℕ). cell.k * x ≤ c * f) scaled after) in
    let high : c < g * cell.k + g = finer_before cell.k c f g some (subst (λ (x : ℕ). c * f < cell.k * x + x) scaled before) in
    let whole : n + cell.q ≡ depth = omega arith in
    subst (λ (x : ℕ). is_unexcluded_on outer m (point_of task.grid cell.ray l) c (2 ^ x) ≡ false) whole
    (left_on_no_finer outer m (point_of task.grid cell.ray l) cell.q n cell.k c
    (box_at outer m (point_of task.grid cell.ray) (2 ^ cell.q) cell.k (cell.k + 1) cell.a cell.b l (ray_line task.grid cell.ray) first last
    (none_fails (is_slab_excluded m task.grid cell) outer holds))
    low high)

-- each of the cells, listed
each_listed : (P : CertCell → Type 0) (cells : List CertCell) → EachCell P cells → (cell : CertCell) → Contains cells cell → P cell
each_listed P [] each cell there = absurd (let h = there.1 in omega arith)
each_listed P (c ∷ cells) each cell there =
    ⊎_elim (λ same. subst P same each.0) (λ later. each_listed P cells each.1 cell later) (listed_cases c cells cell there)

own_place : (grid : GridSize) (ray : Ray) (point : LatticePoint) → ray ≡ point.ray → IsPointOf grid point → point_of grid ray point.l ≡ point.position
own_place grid ray point same is = ap (λ (r : Ray). point_of grid r point.l) same ∙ sym is.position

moved : (slabs : List SlabSize) (m : SweepOf) (p q : List ℤ) (c S : ℕ) → p ≡ q → is_unexcluded_on slabs m p c S ≡ false → is_unexcluded_on slabs m q c S ≡ false
moved slabs m p q c S same h = subst (λ (x : List ℤ). is_unexcluded_on slabs m x c S ≡ false) same h

none_touched : (task : CertTask) (slabs depth : ℕ) (cells : List CertCell) → depth ≤ 10 → AreCellsOf task slabs depth (rays_of task.grid) cells → may_touch task slabs depth ≡ true → ⊥
none_touched task slabs depth cells shallow of touched =
    let outer = outer_stack task.cutter slabs in let m = task.sweep in
    let found = some_item (is_guarded_possible task slabs depth) (lattice_of task.grid) touched in
    let point = found.0 in let there = found.1 in
    let is = only_points task.grid point there in
    let both = and_parts (is_guarded task point) (is_possible_by task.cutter slabs m point.position (2 ^ depth)) found.2 in
    let parts = possible_parts task.cutter slabs m point.position (2 ^ depth) both.1 in
    let c = parts.1.0 in let low = parts.1.1 in let left = parts.1.2 in
    let want : wants_cover task point ≡ true = and_from (is_in_reach (pos (reach_of task.cutter)) m.from m.to point.position) (is_guarded task point) parts.0 both.0 in
    let e = c * finest_in depth in
    let some = some_item (names point e) cells (covered_at task slabs depth cells point of there want e (finest_within depth c shallow low)) in
    let cell = some.0 in
    let first = and_parts (is_same_ray cell.ray point.ray) (is_among point.l cell && is_during e cell) some.2 in
    let last = and_parts (is_among point.l cell) (is_during e cell) first.1 in
    let ends = and_parts (leb cell.a point.l) (ltb point.l cell.b) last.0 in
    let time = and_parts (leb (cell.k * finest_in cell.q) e) (ltb e (cell.k * finest_in cell.q + finest_in cell.q)) last.1 in
    let part = each_listed (IsCellOf task slabs depth (rays_of task.grid)) cells of.each cell some.1 in
    let place = own_place task.grid cell.ray point (same_ray cell.ray point.ray first.0) is in
    let held : is_unexcluded_on outer m (point_of task.grid cell.ray point.l) c (2 ^ depth) ≡ false =
    held_on task slabs depth cell point.l c part.holds part.few shallow (leb-true cell.a point.l ends.0) (ltb-true point.l cell.b ends.1)
    (leb-true (cell.k * finest_in cell.q) e time.0) (ltb-true e (cell.k * finest_in cell.q + finest_in cell.q) time.1) in
    let none : is_unexcluded_on outer m point.position c (2 ^ depth) ≡ false = moved outer m (point_of task.grid cell.ray point.l) point.position c (2 ^ depth) place held in
    denied_is (is_unexcluded_on outer m point.position c (2 ^ depth)) left none

-- both ways, of what the rays have
cert_by : (task : CertTask) (slabs depth : ℕ) (made : Option (List CertCell)) → are_slabs slabs ≡ true → depth ≤ 10 → RaysFacts task slabs depth (rays_of task.grid) made
    → (cert : Cert) → cert_with slabs made ≡ Some cert → IsCertFor task cert
cert_by task slabs depth None some shallow facts cert h = cc
cert_by task slabs depth (Some cells) some shallow facts cert h =
    let same : record { slabs = slabs; cells = numbered 3 None cells } ≡ cert = cc in
    subst (IsCertFor task) same (cert_for task slabs depth cells some shallow facts)

touched_by : (task : CertTask) (slabs depth : ℕ) (made : Option (List CertCell)) → RaysFacts task slabs depth (rays_of task.grid) made → cert_with slabs made ≡ None → may_touch task slabs depth ≡ true
touched_by task slabs depth None facts h = stuck_touches task slabs depth facts
touched_by task slabs depth (Some cells) facts h = cc

none_by : (task : CertTask) (slabs depth : ℕ) (made : Option (List CertCell)) → depth ≤ 10 → RaysFacts task slabs depth (rays_of task.grid) made → may_touch task slabs depth ≡ true → cert_with slabs made ≡ None
none_by task slabs depth None shallow facts h = refl
none_by task slabs depth (Some cells) shallow facts h = absurd (none_touched task slabs depth cells shallow facts h)

pub due_is_for_task : DueIsForTask
due_is_for_task = λ task slabs depth some shallow.
    let facts = rays_facts task slabs depth (rays_of task.grid) shallow in let made = cells_of_rays task slabs depth (rays_of task.grid) in (
      λ cert is. cert_by task slabs depth made some shallow facts cert is,
      (λ none. touched_by task slabs depth made facts none, λ touched. none_by task slabs depth made shallow facts touched),
    )
