-- A certificate that is written is read again.
use Rattle.std.proofs.Common.{◌≡◌, ℕ, ◌+◌, ◌^◌, ◌<◌, ◌≤◌, ◌==◌, ◌&&◌, List, [], ◌∷◌, ◌++◌, Bool, true, false, cond, codes, Option, Some, None, Result, Ok, arith, refl, sym, ap, ◌∙◌, append_assoc, append-nil, decimal, nat_lt, nat_le}
use Rattle.std.specs.List.{list_all}
use Rattle.std.proofs.Math.Pow.{pow_mono}
use Rattle.std.proofs.lemmas.Bool.{and_parts, eqb-true, leb-true, ltb-true}
use Rattle.vf_io.specs.Pieces.{pieces_of}
use Rattle.vf_text.specs.Pages.{line}
use Rattle.ray_grid.specs.Families.{first_axis, second_axis}
use Rattle.ray_grid.specs.Grids.{GridSize}
use Rattle.ray_grid.specs.Lattice.{is_ray_on, nodes_of, points_of}
use Rattle.ray_grid.specs.Ranges.{IsGrid}
use Rattle.ray_grid.specs.declared.ray.Family.{Family}
use Rattle.ray_grid.specs.declared.ray.Family.TheVariants.{X, Y, Z}
use Rattle.ray_grid.specs.declared.ray.Ray.{Ray}
use Rattle.ray_grid.proofs.Sizes.{few_places}
use Rattle.cert_lines.specs.declared.cell.CertCell.{CertCell}
use Rattle.cert_lines.specs.declared.cert.Cert.{Cert}
use Rattle.cert_lines.specs.declared.fault.CertFault.{CertFault}
use Rattle.cert_lines.specs.declared.line.Form.{Form}
use Rattle.cert_lines.specs.declared.line.Form.TheVariants.{Slabs, OfRay, OfCell}
use Rattle.cert_lines.specs.declared.reading.Due.{Due}
use Rattle.cert_lines.specs.declared.reading.Due.TheVariants.{Second, AnyRay, CellOf}
use Rattle.cert_lines.specs.declared.reading.Reading.{Reading}
use Rattle.cert_lines.specs.Certificates.{are_slabs, is_cell_on, is_span_on}
use Rattle.cert_lines.specs.Law.{ReadsBack}
use Rattle.cert_lines.specs.Lines.{named_family, form_in}
use Rattle.cert_lines.specs.Reading.{cert_from, cert_read_on, with_cert_line}
use Rattle.cert_lines.specs.Spelling.{AreAtTheirLines, cell_line, cells_text, end_line, family_letter, is_last, is_same_family, is_same_ray, joined, line_of_cell, ray_line, slabs_line, text_of_cert}
use Rattle.cert_lines.proofs.SpeltLemmas.{are_plain, decimal_plain, form_of-line, is_plain, spelt_number-decimal, pieces_of-joined}

-- reading goes on after a line that is spelt
line_read : (grid : GridSize) (number : ℕ) (word : List ℕ) (words : List (List ℕ)) (rest : List ℕ) (reading : Reading) (form : Option Form)
    → are_plain (word ∷ words) ≡ true → form_in (word ∷ words) ≡ form
    → cert_from grid number (pieces_of (line (joined (word ∷ words)) ++ rest)) reading ≡ cert_read_on number (with_cert_line grid number form reading) (cert_from grid (number + 1) (pieces_of rest))
line_read grid number word words rest reading form plain says =
    ap (λ pieces. cert_from grid number pieces reading) (pieces_of-joined (word ∷ words) rest plain)
    ∙ ap (λ (f : Option Form). cert_read_on number (with_cert_line grid number f reading) (cert_from grid (number + 1) (pieces_of rest))) (form_of-line word words plain ∙ says)

-- the line `end`, after which there is nothing
abbrev due_after : Option Ray → Due
due_after None = AnyRay
due_after (Some ray) = CellOf ray

end_read : (grid : GridSize) (number slabs : ℕ) (last : Option Ray) (cells : List CertCell)
    → cert_from grid number (pieces_of end_line) (record { due = due_after last; slabs = slabs; cells = cells }) ≡ Ok (record { slabs = slabs; cells = cells })
end_read grid number slabs None cells = refl
end_read grid number slabs (Some ray) cells = refl

-- the line `slabs N`
slabs_read : (grid : GridSize) (slabs : ℕ) (rest : List ℕ) → are_slabs slabs ≡ true
    → cert_from grid 2 (pieces_of (slabs_line slabs ++ rest)) (record { due = Second; slabs = 0; cells = [] })
    ≡ cert_from grid 3 (pieces_of rest) (record { due = AnyRay; slabs = slabs; cells = [] })
slabs_read grid slabs rest are =
    let (some, most) = and_parts (nat_le 1 slabs) (nat_le slabs 256) are in
    let few : slabs < 10 ^ 9 = omega (arith, leb-true slabs 256 most) in
    let plain : are_plain (codes "slabs" ∷ decimal slabs ∷ []) ≡ true = rw (decimal_plain slabs few) refl in
    let says : form_in (codes "slabs" ∷ decimal slabs ∷ []) ≡ Some (Slabs slabs) = rw (spelt_number-decimal slabs few) refl in
    line_read grid 2 (codes "slabs") (decimal slabs ∷ []) rest (record { due = Second; slabs = 0; cells = [] }) (Some (Slabs slabs)) plain says
    ∙ rw are refl

-- the nodes of a ray of a grid are few
few_nodes : (grid : GridSize) (f : Family) → IsGrid grid → (nodes_of grid (first_axis f) ≤ 400) × (nodes_of grid (second_axis f) ≤ 400)
few_nodes grid X is = (is.y.most, is.z.most)
few_nodes grid Y is = (is.x.most, is.z.most)
few_nodes grid Z is = (is.x.most, is.y.most)

few_points : (grid : GridSize) (f : Family) → IsGrid grid → points_of grid f ≤ 400000
few_points grid X is = few_places grid 0 is (omega arith)
few_points grid Y is = few_places grid 1 is (omega arith)
few_points grid Z is = few_places grid 2 is (omega arith)

family_plain : (f : Family) → list_all is_plain (family_letter f) ≡ true
family_plain X = refl
family_plain Y = refl
family_plain Z = refl

family_read : (f : Family) → named_family (family_letter f) ≡ Some f
family_read X = refl
family_read Y = refl
family_read Z = refl

-- a ray line
ray_read : (grid : GridSize) (number slabs : ℕ) (last : Option Ray) (ray : Ray) (cells : List CertCell) (rest : List ℕ) → IsGrid grid → is_ray_on grid ray ≡ true
    → cert_from grid number (pieces_of (ray_line ray ++ rest)) (record { due = due_after last; slabs = slabs; cells = cells })
    ≡ cert_from grid (number + 1) (pieces_of rest) (record { due = CellOf ray; slabs = slabs; cells = cells })
ray_read grid number slabs last ray cells rest is on =
    let f = ray.family in
    let (first, second) = and_parts (nat_lt ray.i (nodes_of grid (first_axis f))) (nat_lt ray.j (nodes_of grid (second_axis f))) on in
    let few = few_nodes grid f is in
    let i_few : ray.i < 10 ^ 9 = omega (arith, ltb-true ray.i (nodes_of grid (first_axis f)) first, few.0) in
    let j_few : ray.j < 10 ^ 9 = omega (arith, ltb-true ray.j (nodes_of grid (second_axis f)) second, few.1) in
    let plain : are_plain (codes "ray" ∷ family_letter f ∷ decimal ray.i ∷ decimal ray.j ∷ []) ≡ true =
    rw (family_plain f, decimal_plain ray.i i_few, decimal_plain ray.j j_few) refl in
    let says : form_in (codes "ray" ∷ family_letter f ∷ decimal ray.i ∷ decimal ray.j ∷ []) ≡ Some (OfRay ray) =
    rw (family_read f, spelt_number-decimal ray.i i_few, spelt_number-decimal ray.j j_few) refl in
    line_read grid number (codes "ray") (family_letter f ∷ decimal ray.i ∷ decimal ray.j ∷ []) rest (record { due = due_after last; slabs = slabs; cells = cells }) (Some (OfRay ray)) plain says
    ∙ taken grid number slabs last ray cells rest on
  where
    taken : (grid : GridSize) (number slabs : ℕ) (last : Option Ray) (ray : Ray) (cells : List CertCell) (rest : List ℕ) → is_ray_on grid ray ≡ true
        → cert_read_on number (with_cert_line grid number (Some (OfRay ray)) (record { due = due_after last; slabs = slabs; cells = cells })) (cert_from grid (number + 1) (pieces_of rest))
        ≡ cert_from grid (number + 1) (pieces_of rest) (record { due = CellOf ray; slabs = slabs; cells = cells })
    taken grid number slabs None ray cells rest on = rw on refl
    taken grid number slabs (Some last) ray cells rest on = rw on refl

-- a cell line of the ray of the last ray line
cell_read : (grid : GridSize) (slabs : ℕ) (cell : CertCell) (cells : List CertCell) (rest : List ℕ) → IsGrid grid → is_span_on grid cell ≡ true
    → cert_from grid cell.line (pieces_of (cell_line cell ++ rest)) (record { due = CellOf cell.ray; slabs = slabs; cells = cells })
    ≡ cert_from grid (cell.line + 1) (pieces_of rest) (record { due = CellOf cell.ray; slabs = slabs; cells = cells ++ cell ∷ [] })
cell_read grid slabs cell cells rest is on =
    let points = points_of grid cell.ray.family in
    let (level, more) = and_parts (nat_le cell.q 10) (nat_lt cell.k (2 ^ cell.q) && (nat_lt cell.a cell.b && nat_le cell.b points)) on in
    let (part, ends) = and_parts (nat_lt cell.k (2 ^ cell.q)) (nat_lt cell.a cell.b && nat_le cell.b points) more in
    let (some, most) = and_parts (nat_lt cell.a cell.b) (nat_le cell.b points) ends in
    let deep : cell.q ≤ 10 = leb-true cell.q 10 level in
    let few : points ≤ 400000 = few_points grid cell.ray.family is in
    let parts : 2 ^ cell.q ≤ 2 ^ 10 = pow_mono deep in
    let below : cell.k < 2 ^ cell.q = ltb-true cell.k (2 ^ cell.q) part in
    let order : cell.a < cell.b = ltb-true cell.a cell.b some in
    let last : cell.b ≤ points = leb-true cell.b points most in
    let q_few : cell.q < 10 ^ 9 = omega (arith, deep) in
    let k_few : cell.k < 10 ^ 9 = omega (arith, parts, below) in
    let a_few : cell.a < 10 ^ 9 = omega (arith, order, last, few) in
    let b_few : cell.b < 10 ^ 9 = omega (arith, last, few) in
    let plain : are_plain (codes "cell" ∷ decimal cell.q ∷ decimal cell.k ∷ decimal cell.a ∷ decimal cell.b ∷ []) ≡ true =
    rw (decimal_plain cell.q q_few, decimal_plain cell.k k_few, decimal_plain cell.a a_few, decimal_plain cell.b b_few) refl in
    let says : form_in (codes "cell" ∷ decimal cell.q ∷ decimal cell.k ∷ decimal cell.a ∷ decimal cell.b ∷ []) ≡ Some (OfCell (record { q = cell.q; k = cell.k; a = cell.a; b = cell.b })) =
    rw (spelt_number-decimal cell.q q_few, spelt_number-decimal cell.k k_few, spelt_number-decimal cell.a a_few, spelt_number-decimal cell.b b_few) refl in
    line_read grid cell.line (codes "cell") (decimal cell.q ∷ decimal cell.k ∷ decimal cell.a ∷ decimal cell.b ∷ []) rest (record { due = CellOf cell.ray; slabs = slabs; cells = cells })
    (Some (OfCell (record { q = cell.q; k = cell.k; a = cell.a; b = cell.b }))) plain says
    ∙ rw on refl

-- rays that are the same by the test
same_family : (f g : Family) → is_same_family f g ≡ true → f ≡ g
same_family X X is = refl
same_family X Y is = absurd (cc)
same_family X Z is = absurd (cc)
same_family Y X is = absurd (cc)
same_family Y Y is = refl
same_family Y Z is = absurd (cc)
same_family Z X is = absurd (cc)
same_family Z Y is = absurd (cc)
same_family Z Z is = refl

same_ray : (ray other : Ray) → is_same_ray ray other ≡ true → ray ≡ other
same_ray ray other is =
    let (family, nodes) = and_parts (is_same_family ray.family other.family) (ray.i == other.i && ray.j == other.j) is in
    let (first, second) = and_parts (ray.i == other.i) (ray.j == other.j) nodes in
    let f = same_family ray.family other.family family in
    let i = eqb-true ray.i other.i first in
    let j = eqb-true ray.j other.j second in
    ap (λ (g : Family). record { family = g; i = ray.i; j = ray.j }) f ∙ ap (λ (n : ℕ). record { family = other.family; i = n; j = ray.j }) i ∙ ap (λ (n : ℕ). record { family = other.family; i = other.i; j = n }) j

-- what follows the second line makes the cells
abbrev IsReadBack : GridSize → ℕ → Option Ray → ℕ → List CertCell → List CertCell → Type 0
IsReadBack grid number last slabs before cells =
    cert_from grid number (pieces_of (cells_text last cells ++ end_line)) (record { due = due_after last; slabs = slabs; cells = before }) ≡ Ok (record { slabs = slabs; cells = before ++ cells })

cell_then : (grid : GridSize) (slabs : ℕ) (before : List CertCell) (cell : CertCell) (cells : List CertCell) → IsGrid grid → is_span_on grid cell ≡ true
    → IsReadBack grid (cell.line + 1) (Some cell.ray) slabs (before ++ cell ∷ []) cells
    → cert_from grid cell.line (pieces_of ((cell_line cell ++ cells_text (Some cell.ray) cells) ++ end_line)) (record { due = CellOf cell.ray; slabs = slabs; cells = before })
    ≡ Ok (record { slabs = slabs; cells = before ++ cell ∷ cells })
cell_then grid slabs before cell cells is on later =
    ap (λ (bytes : List ℕ). cert_from grid cell.line (pieces_of bytes) (record { due = CellOf cell.ray; slabs = slabs; cells = before })) (append_assoc (cell_line cell) (cells_text (Some cell.ray) cells) end_line)
    ∙ cell_read grid slabs cell before (cells_text (Some cell.ray) cells ++ end_line) is on
    ∙ later
    ∙ ap (λ (all : List CertCell). made slabs all) (append_assoc before (cell ∷ []) cells)
  where
    made : ℕ → List CertCell → Result Cert CertFault
    made slabs all = Ok (record { slabs = slabs; cells = all })

last_is : (last : Option Ray) (ray : Ray) → is_last last ray ≡ true → last ≡ Some ray
last_is None ray is = absurd (cc)
last_is (Some last) ray is = ap (λ (r : Ray). given r) (same_ray last ray is)
  where
    given : Ray → Option Ray
    given ray = Some ray

one_cell : (grid : GridSize) (number slabs : ℕ) (last : Option Ray) (before : List CertCell) (cell : CertCell) (cells : List CertCell) (test : Bool) → is_last last cell.ray ≡ test
    → IsGrid grid → is_cell_on grid cell ≡ true → cell.line ≡ line_of_cell number last cell.ray → IsReadBack grid (cell.line + 1) (Some cell.ray) slabs (before ++ cell ∷ []) cells
    → IsReadBack grid number last slabs before (cell ∷ cells)
one_cell grid number slabs last before cell cells test same is on numbered later =
    let (ray, span) = and_parts (is_ray_on grid cell.ray) (is_span_on grid cell) on in
    let lines = cell_line cell ++ cells_text (Some cell.ray) cells in
    ap (λ (t : Bool). cert_from grid number (pieces_of ((cond t [] (ray_line cell.ray) ++ lines) ++ end_line)) (record { due = due_after last; slabs = slabs; cells = before })) same
    ∙ by_test test same (numbered ∙ ap (λ (t : Bool). cond t number (number + 1)) same) ray span
  where
    by_test : (t : Bool) → is_last last cell.ray ≡ t → cell.line ≡ cond t number (number + 1) → is_ray_on grid cell.ray ≡ true → is_span_on grid cell ≡ true
        → cert_from grid number (pieces_of ((cond t [] (ray_line cell.ray) ++ (cell_line cell ++ cells_text (Some cell.ray) cells)) ++ end_line)) (record { due = due_after last; slabs = slabs; cells = before })
        ≡ Ok (record { slabs = slabs; cells = before ++ cell ∷ cells })
    by_test true same here ray span =
        ap (λ (n : ℕ). cert_from grid n (pieces_of ((cell_line cell ++ cells_text (Some cell.ray) cells) ++ end_line)) (record { due = due_after last; slabs = slabs; cells = before })) (sym here)
        ∙ ap (λ (r : Option Ray). cert_from grid cell.line (pieces_of ((cell_line cell ++ cells_text (Some cell.ray) cells) ++ end_line)) (record { due = due_after r; slabs = slabs; cells = before })) (last_is last cell.ray same)
        ∙ cell_then grid slabs before cell cells is span later
    by_test false same here ray span =
        ap (λ (bytes : List ℕ). cert_from grid number (pieces_of bytes) (record { due = due_after last; slabs = slabs; cells = before }))
        (append_assoc (ray_line cell.ray) (cell_line cell ++ cells_text (Some cell.ray) cells) end_line)
        ∙ ray_read grid number slabs last cell.ray before ((cell_line cell ++ cells_text (Some cell.ray) cells) ++ end_line) is ray
        ∙ ap (λ (n : ℕ). cert_from grid n (pieces_of ((cell_line cell ++ cells_text (Some cell.ray) cells) ++ end_line)) (record { due = CellOf cell.ray; slabs = slabs; cells = before })) (sym here)
        ∙ cell_then grid slabs before cell cells is span later

cells_back : (grid : GridSize) (number slabs : ℕ) (last : Option Ray) (before cells : List CertCell) → IsGrid grid → list_all (is_cell_on grid) cells ≡ true → AreAtTheirLines number last cells
    → IsReadBack grid number last slabs before cells
cells_back grid number slabs last before [] is on numbered =
    end_read grid number slabs last before ∙ ap (λ (all : List CertCell). done slabs all) (sym (append-nil before))
  where
    done : ℕ → List CertCell → Result Cert CertFault
    done slabs all = Ok (record { slabs = slabs; cells = all })
cells_back grid number slabs last before (cell ∷ cells) is on numbered =
    let (one, more) = and_parts (is_cell_on grid cell) (list_all (is_cell_on grid) cells) on in
    one_cell grid number slabs last before cell cells (is_last last cell.ray) refl is one numbered.0
    (cells_back grid (cell.line + 1) slabs (Some cell.ray) (before ++ cell ∷ []) cells is more numbered.1)

-- the text of a certificate stands for it
pub reads_back : (cert : Cert) → ReadsBack cert (text_of_cert cert)
reads_back cert grid is valid =
    slabs_read grid cert.slabs (cells_text None cert.cells ++ end_line) valid.ranges.slabs
    ∙ cells_back grid 3 cert.slabs None [] cert.cells is valid.ranges.cells valid.numbered
