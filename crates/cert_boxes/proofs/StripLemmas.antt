-- The first point that is not covered, ray by ray and strip by strip.
use Rattle.std.proofs.Common.{◌≡◌, ℕ, zero, suc, ◌+◌, ◌<◌, ◌≤◌, false, not, ◌&&◌, List, [], ◌∷◌, length, get_or, set, take, ⊎_elim, Option, Some, None, arith, refl, ap, sym, subst, ◌∙◌}
use Rattle.std.specs.List.{find, flat_map, list_any, range_with_len, slice_get}
use Rattle.std.proofs.lemmas.Bool.{cases_eq}
use Rattle.std.specs.Option.{option_map}
use Rattle.std.proofs.lemmas.List.{get_or-set_other, get_or-set_same, get_or_default, get_or_read, take_all}
use Rattle.ray_grid.specs.Lattice.{points_of}
use Rattle.ray_grid.specs.Points.{LatticePoint, lattice_of, point_in, points_on}
use Rattle.ray_grid.specs.Strips.{ray_number, strip_at, strips_of}
use Rattle.ray_grid.specs.declared.ray.Ray.{Ray}
use Rattle.cert_boxes.specs.declared.span.CellSpan.{CellSpan}
use Rattle.cert_boxes.specs.Covering.{wants_cover}
use Rattle.cert_boxes.specs.Rows.{AreAlike, AreRowsAlike, covers_throughout}
use Rattle.cert_boxes.specs.Search.{IsFirstPlace, IsFirstOn, is_missed, is_missed_by}
use Rattle.cert_boxes.specs.Tasks.{CertTask}
use Rattle.cert_boxes.proofs.Covers.{throughout_alike, throughout_none}
use Rattle.cert_boxes.proofs.Found.{found_along_same, found_in, item_at, joined_twice, none_more, placed}

-- the row of a ray
abbrev row_at : CertTask → List (List CellSpan) → Ray → List CellSpan
row_at task rows ray = get_or rows (ray_number task.grid ray) []

-- the points of a ray are judged by its row
on_ray : (task : CertTask) (rows : List (List CellSpan)) (ray : Ray) (found : Option ℕ) → IsFirstOn task (row_at task rows ray) ray found
    → find (is_missed task rows) (points_on task.grid ray) ≡ option_map (point_in task.grid ray) found
on_ray task rows ray found h =
    found_along_same (is_missed task rows) (is_missed_by task (row_at task rows ray)) (point_in task.grid ray) (λ l. refl) (range_with_len 0 (points_of task.grid ray.family)) ∙ h

-- one ray more that has none, and one that has
pub ray_none : (task : CertTask) (rows : List (List CellSpan)) (rays : List Ray) (n : ℕ) (ray : Ray) → slice_get rays n ≡ Some ray
    → find (is_missed task rows) (flat_map (points_on task.grid) (take n rays)) ≡ None → IsFirstOn task (row_at task rows ray) ray None
    → find (is_missed task rows) (flat_map (points_on task.grid) (take (n + 1) rays)) ≡ None
ray_none task rows rays n ray there before here =
    none_more (is_missed task rows) (points_on task.grid) rays n ray (placed rays n ray there) before
    (ap (λ (r : Ray). find (is_missed task rows) (points_on task.grid r)) (item_at rays n ray there) ∙ on_ray task rows ray None here)

pub ray_found : (task : CertTask) (rows : List (List CellSpan)) (rays : List Ray) (n : ℕ) (ray : Ray) (l : ℕ) → slice_get rays n ≡ Some ray
    → find (is_missed task rows) (flat_map (points_on task.grid) (take n rays)) ≡ None → IsFirstOn task (row_at task rows ray) ray (Some l)
    → IsFirstPlace task rows (flat_map (points_on task.grid) rays) (Some (ray, l))
ray_found task rows rays n ray l there before here =
    found_in (is_missed task rows) (points_on task.grid) rays n ray (point_in task.grid ray l) (placed rays n ray there) before
    (ap (λ (r : Ray). find (is_missed task rows) (points_on task.grid r)) (item_at rays n ray there) ∙ on_ray task rows ray (Some l) here)

pub rays_none : (task : CertTask) (rows : List (List CellSpan)) (rays : List Ray) (n : ℕ) → length rays ≤ n
    → find (is_missed task rows) (flat_map (points_on task.grid) (take n rays)) ≡ None → IsFirstPlace task rows (flat_map (points_on task.grid) rays) None
rays_none task rows rays n all before = ap (λ (l : List Ray). find (is_missed task rows) (flat_map (points_on task.grid) l)) (sym (take_all n rays all)) ∙ before

-- the points of the strips so far
abbrev pub strip_points : CertTask → List (List Ray) → List LatticePoint
strip_points task strips = flat_map (λ (rays : List Ray). flat_map (points_on task.grid) rays) strips

pub strip_none : (task : CertTask) (rows : List (List CellSpan)) (s : ℕ) → s < length (strips_of task.grid) → find (is_missed task rows) (strip_points task (take s (strips_of task.grid))) ≡ None
    → IsFirstPlace task rows (flat_map (points_on task.grid) (strip_at task.grid s)) None → find (is_missed task rows) (strip_points task (take (s + 1) (strips_of task.grid))) ≡ None
strip_none task rows s low before here = none_more (is_missed task rows) (λ (rays : List Ray). flat_map (points_on task.grid) rays) (strips_of task.grid) s [] low before here

pub strip_found : (task : CertTask) (rows : List (List CellSpan)) (s : ℕ) (place : Ray × ℕ) → s < length (strips_of task.grid) → find (is_missed task rows) (strip_points task (take s (strips_of task.grid))) ≡ None
    → IsFirstPlace task rows (flat_map (points_on task.grid) (strip_at task.grid s)) (Some place) → IsFirstPlace task rows (lattice_of task.grid) (Some place)
strip_found task rows s place low before here =
    ap (find (is_missed task rows)) (joined_twice (points_on task.grid) (strips_of task.grid))
    ∙ found_in (is_missed task rows) (λ (rays : List Ray). flat_map (points_on task.grid) rays) (strips_of task.grid) s [] (point_in task.grid place.0 place.1) low before here

pub strips_none : (task : CertTask) (rows : List (List CellSpan)) (s : ℕ) → length (strips_of task.grid) ≤ s → find (is_missed task rows) (strip_points task (take s (strips_of task.grid))) ≡ None
    → IsFirstPlace task rows (lattice_of task.grid) None
strips_none task rows s all before =
    ap (find (is_missed task rows)) (joined_twice (points_on task.grid) (strips_of task.grid))
    ∙ ap (λ (l : List (List Ray)). find (is_missed task rows) (strip_points task l)) (sym (take_all s (strips_of task.grid) all)) ∙ before

-- rows that are alike miss the same points
pub rows_alike_too : (rows others third : List (List CellSpan)) → AreRowsAlike rows others → AreRowsAlike others third → AreRowsAlike rows third
rows_alike_too rows others third h k number test = h number test ∙ k number test

pub first_alike : (task : CertTask) (row other : List CellSpan) (ray : Ray) (found : Option ℕ) → AreAlike row other → IsFirstOn task row ray found → IsFirstOn task other ray found
first_alike task row other ray found alike h =
    sym (λ t. find (λ (point : LatticePoint). wants_cover task point && not (throughout_alike row other point.l alike t)) (points_on task.grid ray)) ∙ h

pub first_of_alike : (task : CertTask) (rows others : List (List CellSpan)) (points : List LatticePoint) (found : Option (Ray × ℕ)) → AreRowsAlike rows others → IsFirstPlace task rows points found
    → IsFirstPlace task others points found
first_of_alike task rows others points found alike h =
    sym (λ t. find (λ (point : LatticePoint). wants_cover task point && not (throughout_alike (row_at task rows point.ray) (row_at task others point.ray) point.l (alike (ray_number task.grid point.ray)) t)) points) ∙ h

-- the row of one number changes into one that is alike
pub row_alike : (rows : List (List CellSpan)) (at : ℕ) (read row : List CellSpan) → at < length rows → read ≡ get_or rows at read → AreAlike row read → AreRowsAlike (set rows at row) rows
row_alike rows at read row low is alike number test =
    ⊎_elim
    (λ e.
    subst (λ k. list_any test (get_or (set rows at row) k []) ≡ list_any test (get_or rows k [])) e
    (ap (list_any test) (get_or-set_same rows at row [] low) ∙ alike test ∙ ap (list_any test) (get_or_read rows at read low is [])))
    (λ ne. ap (list_any test) (get_or-set_other rows at number row [] (λ e. ne (sym e))))
    (cases_eq at number)

-- past the last row there is none, and it covers nothing
past : {A : Type 0} (rows : List (List A)) (n : ℕ) → length rows ≤ n → get_or rows n [] ≡ []
past [] zero h = refl
past [] (suc n) h = refl
past (x ∷ xs) zero h = absurd (omega arith)
past (x ∷ xs) (suc n) h = past xs n (omega arith)

pub no_row : (rows : List (List CellSpan)) (number l : ℕ) → length rows ≤ number → covers_throughout (get_or rows number []) l ≡ false
no_row rows number l none = ap (λ (row : List CellSpan). covers_throughout row l) (past rows number none) ∙ throughout_none l

-- a row is read whatever stands where there is none
pub row_read : (rows : List (List CellSpan)) (number l : ℕ) (read : List CellSpan) → number < length rows → read ≡ get_or rows number read
    → covers_throughout read l ≡ covers_throughout (get_or rows number []) l
row_read rows number l read low is = ap (λ (row : List CellSpan). covers_throughout row l) (get_or_read rows number read low is [])

pub row_there : (rows : List (List CellSpan)) (number l : ℕ) (other : List CellSpan) → number < length rows
    → covers_throughout (get_or rows number other) l ≡ covers_throughout (get_or rows number []) l
row_there rows number l other low = ap (λ (row : List CellSpan). covers_throughout row l) (get_or_default rows number other [] low)
