-- What is so of the cells of rays, and where some ray has none.
use Rattle.std.proofs.Common.{◌≡◌, ℕ, zero, suc, ◌+◌, ◌^◌, ◌<◌, ◌≤◌, true, false, ◌&&◌, List, [], ◌∷◌, ◌++◌, length, get_or, Option, Some, None, ◌⊎◌, inl, inr, arith, ap, sym, subst, ⊎_elim, ◌∙◌}
use Rattle.std.specs.List.{Contains, flat_map, list_any}
use Rattle.std.proofs.lemmas.Bool.{or_cases, or_left, or_right}
use Rattle.std.proofs.lemmas.List.Elements.{Contains-append_left, Contains-append_right}
use Rattle.std.proofs.lemmas.List.Folds.{list_any-append}
use Rattle.std.proofs.lemmas.List.FromFn.{get_or-map-range_with_len, length-map-range_with_len}
use Rattle.ray_grid.specs.Grids.{GridSize}
use Rattle.ray_grid.specs.Lattice.{points_of}
use Rattle.ray_grid.specs.Points.{LatticePoint, point_in, points_on}
use Rattle.ray_grid.specs.declared.ray.Ray.{Ray}
use Rattle.cert_lines.specs.Spelling.{is_same_ray}
use Rattle.cert_lines.specs.declared.cell.CertCell.{CertCell}
use Rattle.cert_boxes.specs.Covering.{names}
use Rattle.cert_boxes.specs.Holding.{box_holds}
use Rattle.cert_boxes.specs.Making.{both_cells, cells_of_ray, cells_of_rays, wants_index, whole_box}
use Rattle.cert_boxes.specs.Tasks.{CertTask}
use Rattle.cert_boxes.proofs.Listed.{first_listed, rest_listed}
use Rattle.cert_boxes.proofs.RowLemmas.{own_ray}
use Rattle.cert_boxes.proofs.Trees.{EachCell, IsPartOf, TreeFacts, each_appended, each_by, has_at, least_box, tree_facts}

-- a listed item is the first or one of the rest
listed_at : {X : Type 0} (x : X) (xs : List X) (y : X) (i : ℕ) → i < length (x ∷ xs) → get_or (x ∷ xs) i y ≡ y → (x ≡ y) ⊎ Contains xs y
listed_at x xs y zero low there = inl there
listed_at x xs y (suc i) low there = inr (i, omega arith, there)

pub listed_cases : {X : Type 0} (x : X) (xs : List X) (y : X) → Contains (x ∷ xs) y → (x ≡ y) ⊎ Contains xs y
listed_cases x xs y there = listed_at x xs y there.0 there.1 there.2

-- a point of a listed ray is listed
on_ray : (grid : GridSize) (ray : Ray) (l : ℕ) → l < points_of grid ray.family → Contains (points_on grid ray) (point_in grid ray l)
on_ray grid ray l low =
    let point : ℕ → LatticePoint = λ k. record { ray = ray; l = k; position = (point_in grid ray k).position } in
    let size = length-map-range_with_len point 0 (points_of grid ray.family) in
    (l, omega arith, get_or-map-range_with_len point 0 (points_of grid ray.family) l l (point_in grid ray l) low (omega arith))

pub point_listed : (grid : GridSize) (rays : List Ray) (ray : Ray) (l : ℕ) → Contains rays ray → l < points_of grid ray.family → Contains (flat_map (points_on grid) rays) (point_in grid ray l)
point_listed grid [] ray l there low = absurd (let h = there.1 in omega arith)
point_listed grid (r ∷ rays) ray l there low =
    ⊎_elim
    (λ same. Contains-append_left (points_on grid r) (flat_map (points_on grid) rays) (point_in grid ray l)
    (subst (λ (s : Ray). Contains (points_on grid s) (point_in grid ray l)) (sym same) (on_ray grid ray l low)))
    (λ later. Contains-append_right (points_on grid r) (flat_map (points_on grid) rays) (point_in grid ray l) (point_listed grid rays ray l later low))
    (listed_cases r rays ray there)

-- a cell of one of the rays, which holds
pub record IsCellOf (task : CertTask) (slabs depth : ℕ) (rays : List Ray) (cell : CertCell) : Type 0 where
  pub holds : box_holds task slabs cell ≡ true
  pub ray : Contains rays cell.ray
  pub few : cell.q ≤ depth
  pub part : cell.k < 2 ^ cell.q
  pub some : cell.a < cell.b
  pub within : cell.b ≤ points_of task.grid cell.ray.family

pub record AreCellsOf (task : CertTask) (slabs depth : ℕ) (rays : List Ray) (cells : List CertCell) : Type 0 where
  pub each : EachCell (IsCellOf task slabs depth rays) cells
  pub cover : (ray : Ray) (l e : ℕ) → Contains rays ray → l < points_of task.grid ray.family → wants_index task ray l ≡ true → e < 1024
      → list_any (names (point_in task.grid ray l) e) cells ≡ true

pub record IsStuckOn (task : CertTask) (slabs depth : ℕ) (rays : List Ray) : Type 0 where
  pub ray : Ray
  pub place : ℕ
  pub part : ℕ
  pub listed : Contains rays ray
  pub within : place < points_of task.grid ray.family
  pub there : wants_index task ray place ≡ true
  pub few : part < 2 ^ depth
  pub stuck : box_holds task slabs (least_box depth 0 ray part place) ≡ false

abbrev pub RaysFacts : CertTask → ℕ → ℕ → List Ray → Option (List CertCell) → Type 0
RaysFacts task slabs depth rays None = IsStuckOn task slabs depth rays
RaysFacts task slabs depth rays (Some cells) = AreCellsOf task slabs depth rays cells

-- of one ray
ray_facts : (task : CertTask) (slabs depth : ℕ) (ray : Ray) → depth ≤ 10
    → TreeFacts (wants_index task ray) (box_holds task slabs) depth (whole_box ray (points_of task.grid ray.family)) (cells_of_ray task slabs depth ray)
ray_facts task slabs depth ray shallow =
    let points = points_of task.grid ray.family in
    tree_facts (wants_index task ray) (box_holds task slabs) depth (points + depth + 1) (whole_box ray points) shallow (omega arith) (omega arith) (omega arith)

-- cells of one ray name a point of it where they have its index
named_by : (grid : GridSize) (ray : Ray) (l e : ℕ) (cells : List CertCell) → EachCell (λ cell. cell.ray ≡ ray) cells → list_any (has_at l e) cells ≡ true
    → list_any (names (point_in grid ray l) e) cells ≡ true
named_by grid ray l e [] each h = h
named_by grid ray l e (cell ∷ cells) each h =
    let rest = list_any (names (point_in grid ray l) e) cells in
    let same : is_same_ray cell.ray ray ≡ true = subst (λ (r : Ray). is_same_ray r ray ≡ true) (sym each.0) (own_ray ray) in
    ⊎_elim
    (λ here. or_left (names (point_in grid ray l) e cell) rest (ap (λ b. b && has_at l e cell) same ∙ here))
    (λ later. or_right (names (point_in grid ray l) e cell) rest (named_by grid ray l e cells each.1 later))
    (or_cases (has_at l e cell) (list_any (has_at l e) cells) h)

-- of a ray more
cell_more : (task : CertTask) (slabs depth : ℕ) (ray : Ray) (rays : List Ray) (cell : CertCell) → IsPartOf (box_holds task slabs) depth ray (points_of task.grid ray.family) cell
    → IsCellOf task slabs depth (ray ∷ rays) cell
cell_more task slabs depth ray rays cell p = record {
  holds = p.held;
  ray = subst (Contains (ray ∷ rays)) (sym p.same) (first_listed ray rays);
  few = p.few;
  part = p.part;
  some = p.some;
  within = subst (λ (r : Ray). cell.b ≤ points_of task.grid r.family) (sym p.same) p.within;
}

cell_later : (task : CertTask) (slabs depth : ℕ) (ray : Ray) (rays : List Ray) (cell : CertCell) → IsCellOf task slabs depth rays cell → IsCellOf task slabs depth (ray ∷ rays) cell
cell_later task slabs depth ray rays cell p = record { holds = p.holds; ray = rest_listed ray rays cell.ray p.ray; few = p.few; part = p.part; some = p.some; within = p.within }

part_ray : (task : CertTask) (slabs depth : ℕ) (ray : Ray) (cell : CertCell) → IsPartOf (box_holds task slabs) depth ray (points_of task.grid ray.family) cell → cell.ray ≡ ray
part_ray task slabs depth ray cell p = p.same

joined : (point : LatticePoint) (e : ℕ) (xs ys : List CertCell) → (list_any (names point e) xs ≡ true) ⊎ (list_any (names point e) ys ≡ true) → list_any (names point e) (xs ++ ys) ≡ true
joined point e xs ys h =
    list_any-append (names point e) xs ys
    ∙ ⊎_elim (λ one. or_left (list_any (names point e) xs) (list_any (names point e) ys) one) (λ other. or_right (list_any (names point e) xs) (list_any (names point e) ys) other) h

more_facts : (task : CertTask) (slabs depth : ℕ) (ray : Ray) (rays : List Ray) (xs ys : Option (List CertCell))
    → TreeFacts (wants_index task ray) (box_holds task slabs) depth (whole_box ray (points_of task.grid ray.family)) xs → RaysFacts task slabs depth rays ys → depth ≤ 10
    → RaysFacts task slabs depth (ray ∷ rays) (both_cells xs ys)
more_facts task slabs depth ray rays None ys hx hy shallow = record {
  ray = ray;
  place = hx.place;
  part = hx.part;
  listed = first_listed ray rays;
  within = hx.within;
  there = hx.there;
  few = hx.few;
  stuck = hx.stuck;
}
more_facts task slabs depth ray rays (Some xs) None hx hy shallow = record {
  ray = hy.ray;
  place = hy.place;
  part = hy.part;
  listed = rest_listed ray rays hy.ray hy.listed;
  within = hy.within;
  there = hy.there;
  few = hy.few;
  stuck = hy.stuck;
}
more_facts task slabs depth ray rays (Some xs) (Some ys) hx hy shallow = record {
  each = each_appended (IsCellOf task slabs depth (ray ∷ rays)) xs ys
      (each_by (IsPartOf (box_holds task slabs) depth ray (points_of task.grid ray.family)) (IsCellOf task slabs depth (ray ∷ rays)) (cell_more task slabs depth ray rays) xs hx.each)
      (each_by (IsCellOf task slabs depth rays) (IsCellOf task slabs depth (ray ∷ rays)) (cell_later task slabs depth ray rays) ys hy.each);
  cover = λ other l e there low want within.
      joined (point_in task.grid other l) e xs ys
      (⊎_elim
      (λ same. inl (subst (λ (r : Ray). list_any (names (point_in task.grid r l) e) xs ≡ true) same
      (named_by task.grid ray l e xs (each_by (IsPartOf (box_holds task slabs) depth ray (points_of task.grid ray.family)) (λ cell. cell.ray ≡ ray) (part_ray task slabs depth ray) xs hx.each)
      (hx.cover l e (omega arith) (subst (λ (r : Ray). l < points_of task.grid r.family) (sym same) low) (subst (λ (r : Ray). wants_index task r l ≡ true) (sym same) want) (omega arith, omega arith)))))
      (λ later. inr (hy.cover other l e later low want within))
      (listed_cases ray rays other there));
}

pub rays_facts : (task : CertTask) (slabs depth : ℕ) (rays : List Ray) → depth ≤ 10 → RaysFacts task slabs depth rays (cells_of_rays task slabs depth rays)
rays_facts task slabs depth [] shallow = record { each = tt; cover = λ ray l e there low want within. absurd (let h = there.1 in omega arith) }
rays_facts task slabs depth (ray ∷ rays) shallow =
    more_facts task slabs depth ray rays (cells_of_ray task slabs depth ray) (cells_of_rays task slabs depth rays)
    (ray_facts task slabs depth ray shallow) (rays_facts task slabs depth rays shallow) shallow
