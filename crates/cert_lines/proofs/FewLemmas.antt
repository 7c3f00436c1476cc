-- A certificate has no more cells than its text has lines, and no more of those than bytes.
use Rattle.std.proofs.Common.{◌≡◌, ◌+◌, ◌≤◌, ◌==◌, ℕ, Bool, true, false, List, [], ◌∷◌, ◌++◌, Option, Some, None, Result, Ok, Err, cond, length, length-append, arith, ap, sym}
use Rattle.std.specs.Prelude.{IfOk, MatchResult}
use Rattle.vf_io.specs.Pieces.{lead, line_feed, pieces_of}
use Rattle.ray_grid.specs.Grids.{GridSize}
use Rattle.ray_grid.specs.Lattice.{is_ray_on}
use Rattle.ray_grid.specs.declared.ray.Ray.{Ray}
use Rattle.cert_lines.specs.declared.cert.Cert.{Cert}
use Rattle.cert_lines.specs.declared.fault.CertEnd.{CertEnd}
use Rattle.cert_lines.specs.declared.fault.CertFault.{CertFault}
use Rattle.cert_lines.specs.declared.fault.CertWhy.{CertWhy}
use Rattle.cert_lines.specs.declared.fault.CertWhy.TheVariants.{CertRange}
use Rattle.cert_lines.specs.declared.line.Form.{Form}
use Rattle.cert_lines.specs.declared.line.Form.TheVariants.{Opening, Slabs, OfRay, OfCell, End}
use Rattle.cert_lines.specs.declared.line.Span.{Span}
use Rattle.cert_lines.specs.declared.reading.Due.{Due}
use Rattle.cert_lines.specs.declared.reading.Due.TheVariants.{First, Second, AnyRay, CellOf, Nothing}
use Rattle.cert_lines.specs.declared.reading.Reading.{Reading}
use Rattle.cert_lines.specs.Certificates.{are_slabs, is_span_on}
use Rattle.cert_lines.specs.Lines.{form_of}
use Rattle.cert_lines.specs.Reading.{EndsCert, cell_at, cell_on, cert_from, cert_of, end_where, ended_at, nothing_read, opening_at, ray_where, cert_read_on, slabs_at, with_cert_line}

-- an answer has at most n cells
abbrev HasFew : ℕ → Result Reading CertWhy → Type 0
HasFew most (Ok reading) = length reading.cells ≤ most
HasFew most (Err why) = Unit {0}

-- an answer by a test has, where it has in both cases
few_if : (most : ℕ) (test : Bool) (reading : Reading) (why : CertWhy) → length reading.cells ≤ most → HasFew most (cond test (Ok reading) (Err why))
few_if most true reading why few = few
few_if most false reading why few = tt

opening_few : (due : Due) (reading : Reading) → HasFew (length reading.cells + 1) (opening_at due reading)
opening_few First reading = omega arith
opening_few Second reading = tt
opening_few AnyRay reading = tt
opening_few (CellOf last) reading = tt
opening_few Nothing reading = tt

slabs_few : (due : Due) (slabs : ℕ) (reading : Reading) → HasFew (length reading.cells + 1) (slabs_at due slabs reading)
slabs_few First slabs reading = tt
slabs_few Second slabs reading = few_if (length reading.cells + 1) (are_slabs slabs) (record reading { due = AnyRay; slabs = slabs }) CertRange (omega arith)
slabs_few AnyRay slabs reading = tt
slabs_few (CellOf last) slabs reading = tt
slabs_few Nothing slabs reading = tt

ray_few : (grid : GridSize) (due : Due) (ray : Ray) (reading : Reading) → HasFew (length reading.cells + 1) (ray_where due grid ray reading)
ray_few grid First ray reading = tt
ray_few grid Second ray reading = tt
ray_few grid AnyRay ray reading = few_if (length reading.cells + 1) (is_ray_on grid ray) (record reading { due = CellOf ray }) CertRange (omega arith)
ray_few grid (CellOf last) ray reading = few_if (length reading.cells + 1) (is_ray_on grid ray) (record reading { due = CellOf ray }) CertRange (omega arith)
ray_few grid Nothing ray reading = tt

cell_few : (grid : GridSize) (due : Due) (number : ℕ) (span : Span) (reading : Reading) → HasFew (length reading.cells + 1) (cell_at due grid number span reading)
cell_few grid First number span reading = tt
cell_few grid Second number span reading = tt
cell_few grid AnyRay number span reading = tt
cell_few grid (CellOf ray) number span reading =
    few_if (length reading.cells + 1) (is_span_on grid (cell_on number ray span)) (record reading { cells = reading.cells ++ cell_on number ray span ∷ [] }) CertRange
    (omega (arith, length-append reading.cells (cell_on number ray span ∷ [])))
cell_few grid Nothing number span reading = tt

end_few : (due : Due) (reading : Reading) → HasFew (length reading.cells + 1) (end_where due reading)
end_few First reading = tt
end_few Second reading = tt
end_few AnyRay reading = omega arith
end_few (CellOf last) reading = omega arith
end_few Nothing reading = tt

line_few : (grid : GridSize) (number : ℕ) (form : Option Form) (reading : Reading) → HasFew (length reading.cells + 1) (with_cert_line grid number form reading)
line_few grid number None reading = tt
line_few grid number (Some Opening) reading = opening_few reading.due reading
line_few grid number (Some (Slabs slabs)) reading = slabs_few reading.due slabs reading
line_few grid number (Some (OfRay ray)) reading = ray_few grid reading.due ray reading
line_few grid number (Some (OfCell span)) reading = cell_few grid reading.due number span reading
line_few grid number (Some End) reading = end_few reading.due reading

ended_few : (due : Due) (number : ℕ) (reading : Reading) (cert : Cert) → ended_at due number reading ≡ Ok cert → cert.cells ≡ reading.cells
ended_few First number reading cert made = absurd (cc)
ended_few Second number reading cert made = absurd (cc)
ended_few AnyRay number reading cert made = absurd (cc)
ended_few (CellOf last) number reading cert made = absurd (cc)
ended_few Nothing number reading cert made =
    let is : record { slabs = reading.slabs; cells = reading.cells } ≡ cert = cc in ap (λ (c : Cert). c.cells) (sym is)

read_on_few : (number most left : ℕ) (answer : Result Reading CertWhy) (rest : Reading → Result Cert CertFault) (cert : Cert)
    → ((reading : Reading) → rest reading ≡ Ok cert → length cert.cells ≤ length reading.cells + left) → HasFew most answer → cert_read_on number answer rest ≡ Ok cert → length cert.cells ≤ most + left
read_on_few number most left (Ok reading) rest cert later few made = omega (arith, later reading made, few)
read_on_few number most left (Err why) rest cert later few made = absurd (cc)

-- the lines that are left add at most one cell each
cert_from_few : (grid : GridSize) (number : ℕ) (pieces : List (List ℕ)) (reading : Reading) (cert : Cert) → cert_from grid number pieces reading ≡ Ok cert → length cert.cells ≤ length reading.cells + length pieces
cert_from_few grid number [] reading cert made = omega (arith, ap length (ended_few reading.due number reading cert made))
cert_from_few grid number (piece ∷ pieces) reading cert made =
    let most = length reading.cells + 1 in
    omega (
      arith,
      read_on_few number most (length pieces) (with_cert_line grid number (form_of piece) reading) (cert_from grid (number + 1) pieces) cert
          (λ next due. cert_from_few grid (number + 1) pieces next cert due) (line_few grid number (form_of piece) reading) made,
    )

lead_few : (b : ℕ) (pieces : List (List ℕ)) → length (lead b pieces) ≤ length pieces + 1
lead_few b [] = omega arith
lead_few b (piece ∷ pieces) = omega arith

pieces_few : (bytes : List ℕ) → length (pieces_of bytes) ≤ length bytes
pieces_few [] = omega arith
pieces_few (b ∷ bytes) =
    elim (b == line_feed) as (λ t. length (cond t ((b ∷ []) ∷ pieces_of bytes) (lead b (pieces_of bytes))) ≤ length (b ∷ bytes)) [
      | true ↦ omega (arith, pieces_few bytes)
      | false ↦ omega (arith, pieces_few bytes, lead_few b (pieces_of bytes))
    ]

-- an answer that has a certificate has few cells
pub answer_few : (grid : GridSize) (bytes : List ℕ) (answer : Result Cert CertEnd)
    → MatchResult answer (λ cert. cert_of grid bytes ≡ Ok cert) (EndsCert (cert_of grid bytes)) → IfOk answer (λ cert. length cert.cells ≤ length bytes)
answer_few grid bytes (Ok cert) made = omega (arith, cert_from_few grid 1 (pieces_of bytes) nothing_read cert made, pieces_few bytes)
answer_few grid bytes (Err end) made = tt
