-- The rows of a certificate's lines: each ray has its own by its number.
use Rattle.std.proofs.Common.{◌≡◌, ℕ, zero, suc, ◌+◌, ◌^◌, ◌<◌, Bool, true, false, cond, eqb, leb, ltb, ◌||◌, ◌&&◌, List, [], ◌∷◌, ◌++◌, length, get_or, set, take, refl, ap, sym, subst, ⊎_elim, ◌∙◌}
use Rattle.std.specs.List.{list_all, list_any, range_with_len, slice_get}
use Rattle.std.proofs.lemmas.Bool.{and_from, and_parts, cases_eq, eq-eqb, eqb-true, leb-true, ltb-true, ne_eqb}
use Rattle.std.proofs.lemmas.List.{get_or-set_other, get_or-set_same, get_or_read, take_more}
use Rattle.std.proofs.lemmas.List.Folds.{list_any-append}
use Rattle.ray_grid.specs.Grids.{GridSize}
use Rattle.ray_grid.specs.Lattice.{IsRay, is_ray_on, nodes_of, points_of}
use Rattle.ray_grid.specs.Families.{first_axis, second_axis}
use Rattle.ray_grid.specs.Points.{LatticePoint, rays_of}
use Rattle.ray_grid.specs.Strips.{ray_number}
use Rattle.ray_grid.specs.declared.ray.Family.{Family}
use Rattle.ray_grid.specs.declared.ray.Family.TheVariants.{X, Y, Z}
use Rattle.ray_grid.specs.declared.ray.Ray.{Ray}
use Rattle.ray_grid.proofs.Numbered.{number_is_place}
use Rattle.cert_lines.specs.Certificates.{is_cell_on, is_span_on}
use Rattle.cert_lines.specs.Spelling.{is_same_family, is_same_ray}
use Rattle.cert_lines.specs.declared.cell.CertCell.{CertCell}
use Rattle.cert_boxes.specs.declared.span.CellSpan.{CellSpan}
use Rattle.cert_boxes.specs.Covering.{finest_cells, is_among, is_covered, is_during, names}
use Rattle.cert_boxes.specs.Holding.{IsLineInRange}
use Rattle.cert_boxes.specs.Rows.{AreRows, covers_throughout, has_both, span_of}
use Rattle.cert_boxes.proofs.Covers.{same_tests}
use Rattle.cert_boxes.proofs.Listed.{any_same}

-- the numbers of a line in range
ray_on : (grid : GridSize) (ray : Ray) → is_ray_on grid ray ≡ true → IsRay grid ray
ray_on grid ray h =
    let both = and_parts (ltb ray.i (nodes_of grid (first_axis ray.family))) (ltb ray.j (nodes_of grid (second_axis ray.family))) h in record {
      first = ltb-true ray.i (nodes_of grid (first_axis ray.family)) both.0;
      second = ltb-true ray.j (nodes_of grid (second_axis ray.family)) both.1;
    }

pub line_in_range : (grid : GridSize) (cell : CertCell) → is_cell_on grid cell ≡ true → IsLineInRange grid cell
line_in_range grid cell h =
    let top = and_parts (is_ray_on grid cell.ray) (is_span_on grid cell) h in
    let level = and_parts (leb cell.q 10) (ltb cell.k (2 ^ cell.q) && (ltb cell.a cell.b && leb cell.b (points_of grid cell.ray.family))) top.1 in
    let part = and_parts (ltb cell.k (2 ^ cell.q)) (ltb cell.a cell.b && leb cell.b (points_of grid cell.ray.family)) level.1 in
    let ends = and_parts (ltb cell.a cell.b) (leb cell.b (points_of grid cell.ray.family)) part.1 in record {
      ray = ray_on grid cell.ray top.0;
      few = leb-true cell.q 10 level.0;
      part = ltb-true cell.k (2 ^ cell.q) part.0;
      some = ltb-true cell.a cell.b ends.0;
      within = leb-true cell.b (points_of grid cell.ray.family) ends.1;
    }

-- two rays that are the same
same_family : (f g : Family) → is_same_family f g ≡ true → f ≡ g
same_family X X h = refl
same_family X Y h = cc
same_family X Z h = cc
same_family Y X h = cc
same_family Y Y h = refl
same_family Y Z h = cc
same_family Z X h = cc
same_family Z Y h = cc
same_family Z Z h = refl

own_family : (f : Family) → is_same_family f f ≡ true
own_family X = refl
own_family Y = refl
own_family Z = refl

ray_by : (r s : Ray) → r.family ≡ s.family → r.i ≡ s.i → r.j ≡ s.j → r ≡ s
ray_by r s ef ei ej = λ t. record { family = ef t; i = ei t; j = ej t }

pub same_ray : (r s : Ray) → is_same_ray r s ≡ true → r ≡ s
same_ray r s h =
    let top = and_parts (is_same_family r.family s.family) (eqb r.i s.i && eqb r.j s.j) h in let nodes = and_parts (eqb r.i s.i) (eqb r.j s.j) top.1 in
    ray_by r s (same_family r.family s.family top.0) (eqb-true r.i s.i nodes.0) (eqb-true r.j s.j nodes.1)

pub own_ray : (r : Ray) → is_same_ray r r ≡ true
own_ray r = and_from (is_same_family r.family r.family) (eqb r.i r.i && eqb r.j r.j) (own_family r.family) (and_from (eqb r.i r.i) (eqb r.j r.j) (eq-eqb r.i r.i refl) (eq-eqb r.j r.j refl))

-- the ray of a number is known
the_ray : (grid : GridSize) (r s : Ray) → IsRay grid r → IsRay grid s → ray_number grid r ≡ ray_number grid s → r ≡ s
the_ray grid r s hr hs e =
    let one = number_is_place grid r hr in let other = number_is_place grid s hs in
    let same : slice_get (rays_of grid) (ray_number grid r) ≡ slice_get (rays_of grid) (ray_number grid s) = ap (slice_get (rays_of grid)) e in
    cc

pub same_by_number : (grid : GridSize) (r s : Ray) → IsRay grid r → IsRay grid s → eqb (ray_number grid r) (ray_number grid s) ≡ is_same_ray r s
same_by_number grid r s hr hs =
    same_tests (eqb (ray_number grid r) (ray_number grid s)) (is_same_ray r s)
    (λ e. subst (λ z. is_same_ray r z ≡ true) (the_ray grid r s hr hs (eqb-true (ray_number grid r) (ray_number grid s) e)) (own_ray r))
    (λ h. eq-eqb (ray_number grid r) (ray_number grid s) (ap (ray_number grid) (same_ray r s h)))

-- the row of a ray covers what the lines cover
named_by_row : (grid : GridSize) (cells : List CertCell) (rows : List (List CellSpan)) (point : LatticePoint) (e : ℕ) → AreRows grid cells rows → list_all (is_cell_on grid) cells ≡ true
    → IsRay grid point.ray → list_any (has_both point.l e) (get_or rows (ray_number grid point.ray) []) ≡ list_any (names point e) cells
named_by_row grid cells rows point e are all on =
    are (ray_number grid point.ray) (has_both point.l e)
    ∙ any_same (is_cell_on grid) (λ cell. eqb (ray_number grid cell.ray) (ray_number grid point.ray) && has_both point.l e (span_of cell)) (names point e)
    (λ cell h. ap (λ b. b && (is_among point.l cell && is_during e cell)) (same_by_number grid cell.ray point.ray (line_in_range grid cell h).ray on)) cells all

pub covered_by_row : (grid : GridSize) (cells : List CertCell) (rows : List (List CellSpan)) (point : LatticePoint) → AreRows grid cells rows → list_all (is_cell_on grid) cells ≡ true
    → IsRay grid point.ray → covers_throughout (get_or rows (ray_number grid point.ray) []) point.l ≡ is_covered cells point
unfolding covers_throughout
covered_by_row grid cells rows point are all on =
    let each = λ (e : ℕ). named_by_row grid cells rows point e are all on in
    λ t. list_all (λ e. each e t) (range_with_len 0 finest_cells)

-- an empty row more is no row
pub pad : {A : Type 0} (rows : List (List A)) (n : ℕ) → get_or (rows ++ [] ∷ []) n [] ≡ get_or rows n []
pad [] zero = refl
pad [] (suc n) = refl
pad (x ∷ xs) zero = refl
pad (x ∷ xs) (suc n) = pad xs n

-- one more span in a row
pub row_added : (before rows : List (List CellSpan)) (at n : ℕ) (span : CellSpan) (read row : List CellSpan) → at < length rows → ((k : ℕ) → get_or rows k [] ≡ get_or before k [])
    → read ≡ get_or rows at read → row ≡ read ++ span ∷ [] → get_or (set rows at row) n [] ≡ cond (eqb at n) (get_or before n [] ++ span ∷ []) (get_or before n [])
row_added before rows at n span read row low same is more =
    ⊎_elim
    (λ e.
    let old : read ≡ get_or before at [] = get_or_read rows at read low is [] ∙ same at in
    subst (λ k. get_or (set rows at row) k [] ≡ cond (eqb at k) (get_or before k [] ++ span ∷ []) (get_or before k [])) e
    (get_or-set_same rows at row [] low ∙ more ∙ ap (λ l. l ++ span ∷ []) old
    ∙ sym (ap (λ b. cond b (get_or before at [] ++ span ∷ []) (get_or before at [])) (eq-eqb at at refl))))
    (λ ne.
    get_or-set_other rows at n row [] (λ e. ne (sym e)) ∙ same n
    ∙ sym (ap (λ b. cond b (get_or before n [] ++ span ∷ []) (get_or before n [])) (ne_eqb at n ne)))
    (cases_eq at n)

-- a row that may have one span more
never : (b : Bool) → b ≡ (b || false)
never true = refl
never false = refl

one_row : (test : CellSpan → Bool) (here : Bool) (row : List CellSpan) (span : CellSpan) → list_any test (cond here (row ++ span ∷ []) row) ≡ (list_any test row || ((here && test span) || false))
one_row test true row span = list_any-append test row (span ∷ [])
one_row test false row span = never (list_any test row)

-- one more line
pub rows_more : (grid : GridSize) (cells : List CertCell) (i : ℕ) (cell : CertCell) (old new : List (List CellSpan)) → i < length cells → AreRows grid (take i cells) old
    → ((n : ℕ) → get_or new n [] ≡ cond (eqb (ray_number grid (get_or cells i cell).ray) n) (get_or old n [] ++ span_of (get_or cells i cell) ∷ []) (get_or old n []))
    → AreRows grid (take (i + 1) cells) new
rows_more grid cells i cell old new low are added number test =
    let c = get_or cells i cell in
    let asked : CertCell → Bool = λ x. eqb (ray_number grid x.ray) number && test (span_of x) in
    let here = eqb (ray_number grid c.ray) number in
    let row = get_or old number [] in
    ap (list_any test) (added number)
    ∙ one_row test here row (span_of c)
    ∙ ap (λ b. b || ((here && test (span_of c)) || false)) (are number test)
    ∙ sym (list_any-append asked (take i cells) (c ∷ []))
    ∙ ap (list_any asked) (sym (take_more cells i cell low))
