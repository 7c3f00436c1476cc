-- What was read is in range.
use Rattle.std.proofs.Common.{◌≡◌, ◌&&◌, ◌+◌, ℕ, Bool, true, false, List, [], ◌∷◌, ◌++◌, Option, Some, None, Result, Ok, Err, cond, length, arith, refl, subst, sym, ap, ◌∙◌}
use Rattle.std.specs.Prelude.{IfOk, MatchResult}
use Rattle.std.specs.List.{list_all}
use Rattle.std.proofs.lemmas.List.Folds.{list_all-append}
use Rattle.ray_grid.specs.Grids.{GridSize}
use Rattle.ray_grid.specs.Lattice.{is_ray_on}
use Rattle.ray_grid.specs.declared.ray.Ray.{Ray}
use Rattle.cert_lines.specs.declared.cell.CertCell.{CertCell}
use Rattle.cert_lines.specs.declared.cert.Cert.{Cert}
use Rattle.cert_lines.specs.declared.fault.CertFault.{CertFault}
use Rattle.cert_lines.specs.declared.fault.CertEnd.{CertEnd}
use Rattle.cert_lines.specs.declared.fault.CertWhy.{CertWhy}
use Rattle.cert_lines.specs.declared.fault.CertWhy.TheVariants.{CertRange}
use Rattle.cert_lines.specs.declared.line.Form.{Form}
use Rattle.cert_lines.specs.declared.line.Form.TheVariants.{Opening, Slabs, OfRay, OfCell, End}
use Rattle.cert_lines.specs.declared.line.Span.{Span}
use Rattle.cert_lines.specs.declared.reading.Due.{Due}
use Rattle.cert_lines.specs.declared.reading.Due.TheVariants.{First, Second, AnyRay, CellOf, Nothing}
use Rattle.cert_lines.specs.declared.reading.Reading.{Reading}
use Rattle.cert_lines.specs.Certificates.{IsInRange, are_slabs, is_cell_on, is_span_on}
use Rattle.cert_lines.specs.Lines.{form_of}
use Rattle.vf_io.specs.Pieces.{pieces_of}
use Rattle.cert_lines.specs.Reading.{EndsCert, cell_at, cell_on, cert_from, cert_of, end_where, ended, ended_at, nothing_read, opening_at, ray_where, cert_read_on, slabs_at, with_form, with_cert_line}

-- the ray of the last ray line is one of the grid
abbrev pub IsRayDue : GridSize → Due → Type 0
IsRayDue grid First = Unit {0}
IsRayDue grid Second = Unit {0}
IsRayDue grid AnyRay = Unit {0}
IsRayDue grid (CellOf ray) = is_ray_on grid ray ≡ true
IsRayDue grid Nothing = Unit {0}

-- after the second line the number of slabs is in range
abbrev pub AreSlabsDue : Due → ℕ → Type 0
AreSlabsDue First slabs = Unit {0}
AreSlabsDue Second slabs = Unit {0}
AreSlabsDue AnyRay slabs = are_slabs slabs ≡ true
AreSlabsDue (CellOf ray) slabs = are_slabs slabs ≡ true
AreSlabsDue Nothing slabs = are_slabs slabs ≡ true

pub record IsReading (grid : GridSize) (reading : Reading) : Type 0 where
  pub ray : IsRayDue grid reading.due
  pub slabs : AreSlabsDue reading.due reading.slabs
  pub cells : list_all (is_cell_on grid) reading.cells ≡ true

-- an answer keeps that
abbrev pub Keeps : GridSize → Result Reading CertWhy → Type 0
Keeps grid (Ok reading) = IsReading grid reading
Keeps grid (Err why) = Unit {0}

opening_keeps : (grid : GridSize) (due : Due) (reading : Reading) → list_all (is_cell_on grid) reading.cells ≡ true → Keeps grid (opening_at due reading)
opening_keeps grid First reading cells = record { ray = tt; slabs = tt; cells = cells }
opening_keeps grid Second reading cells = tt
opening_keeps grid AnyRay reading cells = tt
opening_keeps grid (CellOf ray) reading cells = tt
opening_keeps grid Nothing reading cells = tt

slabs_taken : (grid : GridSize) (slabs : ℕ) (reading : Reading) (test : Bool) → are_slabs slabs ≡ test → list_all (is_cell_on grid) reading.cells ≡ true
    → Keeps grid (cond test (Ok (record reading { due = AnyRay; slabs = slabs })) (Err CertRange))
slabs_taken grid slabs reading true is cells = record { ray = tt; slabs = is; cells = cells }
slabs_taken grid slabs reading false is cells = tt

slabs_keeps : (grid : GridSize) (due : Due) (slabs : ℕ) (reading : Reading) → list_all (is_cell_on grid) reading.cells ≡ true → Keeps grid (slabs_at due slabs reading)
slabs_keeps grid First slabs reading cells = tt
slabs_keeps grid Second slabs reading cells = slabs_taken grid slabs reading (are_slabs slabs) refl cells
slabs_keeps grid AnyRay slabs reading cells = tt
slabs_keeps grid (CellOf ray) slabs reading cells = tt
slabs_keeps grid Nothing slabs reading cells = tt

ray_taken : (grid : GridSize) (ray : Ray) (reading : Reading) (test : Bool) → is_ray_on grid ray ≡ test → are_slabs reading.slabs ≡ true → list_all (is_cell_on grid) reading.cells ≡ true
    → Keeps grid (cond test (Ok (record reading { due = CellOf ray })) (Err CertRange))
ray_taken grid ray reading true is slabs cells = record { ray = is; slabs = slabs; cells = cells }
ray_taken grid ray reading false is slabs cells = tt

ray_keeps : (grid : GridSize) (due : Due) (ray : Ray) (reading : Reading) → AreSlabsDue due reading.slabs → list_all (is_cell_on grid) reading.cells ≡ true → Keeps grid (ray_where due grid ray reading)
ray_keeps grid First ray reading slabs cells = tt
ray_keeps grid Second ray reading slabs cells = tt
ray_keeps grid AnyRay ray reading slabs cells = ray_taken grid ray reading (is_ray_on grid ray) refl slabs cells
ray_keeps grid (CellOf last) ray reading slabs cells = ray_taken grid ray reading (is_ray_on grid ray) refl slabs cells
ray_keeps grid Nothing ray reading slabs cells = tt

more_cells : (grid : GridSize) (cells : List CertCell) (cell : CertCell) → is_ray_on grid cell.ray ≡ true → is_span_on grid cell ≡ true → list_all (is_cell_on grid) cells ≡ true
    → list_all (is_cell_on grid) (cells ++ cell ∷ []) ≡ true
more_cells grid cells cell ray span all =
    let one : is_cell_on grid cell ≡ true = rw (ray, span) refl in
    list_all-append (is_cell_on grid) cells (cell ∷ []) ∙ ap (λ b. b && (is_cell_on grid cell && true)) all ∙ ap (λ b. b && true) one

cell_taken : (grid : GridSize) (cell : CertCell) (due : Due) (reading : Reading) (test : Bool) → is_span_on grid cell ≡ test → IsRayDue grid due → AreSlabsDue due reading.slabs
    → is_ray_on grid cell.ray ≡ true → reading.due ≡ due → list_all (is_cell_on grid) reading.cells ≡ true
    → Keeps grid (cond test (Ok (record reading { cells = reading.cells ++ cell ∷ [] })) (Err CertRange))
cell_taken grid cell due reading true is ray slabs on same cells =
    record { ray = rw same ray; slabs = rw same slabs; cells = more_cells grid reading.cells cell on is cells }
cell_taken grid cell due reading false is ray slabs on same cells = tt

cell_keeps : (grid : GridSize) (due : Due) (number : ℕ) (span : Span) (reading : Reading) → IsRayDue grid due → AreSlabsDue due reading.slabs → reading.due ≡ due
    → list_all (is_cell_on grid) reading.cells ≡ true → Keeps grid (cell_at due grid number span reading)
cell_keeps grid First number span reading ray slabs same cells = tt
cell_keeps grid Second number span reading ray slabs same cells = tt
cell_keeps grid AnyRay number span reading ray slabs same cells = tt
cell_keeps grid (CellOf last) number span reading ray slabs same cells =
    cell_taken grid (cell_on number last span) (CellOf last) reading (is_span_on grid (cell_on number last span)) refl ray slabs ray same cells
cell_keeps grid Nothing number span reading ray slabs same cells = tt

end_keeps : (grid : GridSize) (due : Due) (reading : Reading) → AreSlabsDue due reading.slabs → list_all (is_cell_on grid) reading.cells ≡ true → Keeps grid (end_where due reading)
end_keeps grid First reading slabs cells = tt
end_keeps grid Second reading slabs cells = tt
end_keeps grid AnyRay reading slabs cells = record { ray = tt; slabs = slabs; cells = cells }
end_keeps grid (CellOf last) reading slabs cells = record { ray = tt; slabs = slabs; cells = cells }
end_keeps grid Nothing reading slabs cells = tt

form_keeps : (grid : GridSize) (number : ℕ) (form : Form) (reading : Reading) → IsReading grid reading → Keeps grid (with_form grid number form reading)
form_keeps grid number Opening reading is = opening_keeps grid reading.due reading is.cells
form_keeps grid number (Slabs slabs) reading is = slabs_keeps grid reading.due slabs reading is.cells
form_keeps grid number (OfRay ray) reading is = ray_keeps grid reading.due ray reading is.slabs is.cells
form_keeps grid number (OfCell span) reading is = cell_keeps grid reading.due number span reading is.ray is.slabs refl is.cells
form_keeps grid number End reading is = end_keeps grid reading.due reading is.slabs is.cells

line_keeps : (grid : GridSize) (number : ℕ) (form : Option Form) (reading : Reading) → IsReading grid reading → Keeps grid (with_cert_line grid number form reading)
line_keeps grid number None reading is = tt
line_keeps grid number (Some form) reading is = form_keeps grid number form reading is

ended_in_range : (grid : GridSize) (due : Due) (number : ℕ) (reading : Reading) (cert : Cert) → AreSlabsDue due reading.slabs → list_all (is_cell_on grid) reading.cells ≡ true
    → ended_at due number reading ≡ Ok cert → IsInRange grid cert
ended_in_range grid First number reading cert slabs cells made = absurd (cc)
ended_in_range grid Second number reading cert slabs cells made = absurd (cc)
ended_in_range grid AnyRay number reading cert slabs cells made = absurd (cc)
ended_in_range grid (CellOf last) number reading cert slabs cells made = absurd (cc)
ended_in_range grid Nothing number reading cert slabs cells made =
    let is : record { slabs = reading.slabs; cells = reading.cells } ≡ cert = cc in
    subst (IsInRange grid) is (record { slabs = slabs; cells = cells })

read_on_in_range : (grid : GridSize) (number : ℕ) (answer : Result Reading CertWhy) (rest : Reading → Result Cert CertFault) (cert : Cert)
    → ((reading : Reading) → IsReading grid reading → rest reading ≡ Ok cert → IsInRange grid cert) → Keeps grid answer → cert_read_on number answer rest ≡ Ok cert → IsInRange grid cert
read_on_in_range grid number (Ok reading) rest cert later keeps made = later reading keeps made
read_on_in_range grid number (Err why) rest cert later keeps made = absurd (cc)

pub cert_from_in_range : (grid : GridSize) (number : ℕ) (pieces : List (List ℕ)) (reading : Reading) (cert : Cert) → IsReading grid reading → cert_from grid number pieces reading ≡ Ok cert → IsInRange grid cert
cert_from_in_range grid number [] reading cert is made = ended_in_range grid reading.due number reading cert is.slabs is.cells made
cert_from_in_range grid number (piece ∷ pieces) reading cert is made =
    read_on_in_range grid number (with_cert_line grid number (form_of piece) reading) (cert_from grid (number + 1) pieces) cert
    (λ next keeps due. cert_from_in_range grid (number + 1) pieces next cert keeps due) (line_keeps grid number (form_of piece) reading is) made

-- the certificate of a text is in range
pub cert_of_in_range : (grid : GridSize) (bytes : List ℕ) (cert : Cert) → cert_of grid bytes ≡ Ok cert → IsInRange grid cert
cert_of_in_range grid bytes cert made =
    cert_from_in_range grid 1 (pieces_of bytes) nothing_read cert (record { ray = tt; slabs = tt; cells = refl }) made

-- so an answer that has one has one in range
pub answer_in_range : (grid : GridSize) (bytes : List ℕ) (answer : Result Cert CertEnd)
    → MatchResult answer (λ cert. cert_of grid bytes ≡ Ok cert) (EndsCert (cert_of grid bytes)) → IfOk answer (IsInRange grid)
answer_in_range grid bytes (Ok cert) made = cert_of_in_range grid bytes cert made
answer_in_range grid bytes (Err end) made = tt

nothing_left : (bytes : List ℕ) → length bytes ≡ 0 → bytes ≡ []
nothing_left [] none = refl
nothing_left (b ∷ bytes) none = absurd (omega (arith, none))

-- where no line is left, what was read is the certificate, or the line that is missing is the fault
pub all_read : (grid : GridSize) (bytes rest : List ℕ) (number : ℕ) (reading : Reading) → length rest ≡ 0 → cert_from grid number (pieces_of rest) reading ≡ cert_of grid bytes
    → ended number reading ≡ cert_of grid bytes
all_read grid bytes rest number reading none same =
    ap (λ (left : List ℕ). cert_from grid number (pieces_of left) reading) (sym (nothing_left rest none)) ∙ same
