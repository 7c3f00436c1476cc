-- The certificate that a text stands for, or its first fault.
use Rattle.std.specs.Prelude.{◌≡◌, ℕ, ◌+◌, List, [], ◌∷◌, ◌++◌, Option, Some, None, Result, Ok, Err, if◌then◌else◌}
use Rattle.vf_io.specs.Pieces.{pieces_of}
use Rattle.ray_grid.specs.Grids.{GridSize}
use Rattle.ray_grid.specs.Lattice.{is_ray_on}
use Rattle.ray_grid.specs.declared.ray.Ray.{Ray}
use Rattle.cert_lines.specs.declared.cell.CertCell.{CertCell}
use Rattle.cert_lines.specs.declared.cert.Cert.{Cert}
use Rattle.cert_lines.specs.declared.fault.CertFault.{CertFault}
use Rattle.cert_lines.specs.declared.fault.CertEnd.{CertEnd}
use Rattle.cert_lines.specs.declared.fault.CertEnd.TheVariants.{Refused, NoMemory}
use Rattle.cert_lines.specs.declared.fault.CertWhy.{CertWhy}
use Rattle.cert_lines.specs.declared.fault.CertWhy.TheVariants.{CertSyntax, CertRange}
use Rattle.cert_lines.specs.declared.line.Form.{Form}
use Rattle.cert_lines.specs.declared.line.Form.TheVariants.{Opening, Slabs, OfRay, OfCell, End}
use Rattle.cert_lines.specs.declared.line.Span.{Span}
use Rattle.cert_lines.specs.declared.reading.Due.{Due}
use Rattle.cert_lines.specs.declared.reading.Due.TheVariants.{First, Second, AnyRay, CellOf, Nothing}
use Rattle.cert_lines.specs.declared.reading.Reading.{Reading}
use Rattle.cert_lines.specs.declared.reading.Stop.{Stop}
use Rattle.cert_lines.specs.declared.reading.Stop.TheVariants as stops
use Rattle.cert_lines.specs.Certificates.{are_slabs, is_span_on}
use Rattle.cert_lines.specs.Lines.{form_of}

-- before the first line
abbrev pub nothing_read : Reading
nothing_read = record { due = First; slabs = 0; cells = [] }

-- `cert 1` is the first line
abbrev pub opening_at : Due → Reading → Result Reading CertWhy
opening_at First reading = Ok (record reading { due = Second })
opening_at _ reading = Err CertSyntax

abbrev pub with_opening : Reading → Result Reading CertWhy
with_opening reading = opening_at reading.due reading

-- `slabs N` is the second one
abbrev pub slabs_at : Due → ℕ → Reading → Result Reading CertWhy
slabs_at Second slabs reading = if are_slabs slabs then Ok (record reading { due = AnyRay; slabs = slabs }) else Err CertRange
slabs_at _ slabs reading = Err CertSyntax

abbrev pub with_slabs : ℕ → Reading → Result Reading CertWhy
with_slabs slabs reading = slabs_at reading.due slabs reading

-- the cells that follow are of this ray
abbrev pub cells_of : GridSize → Ray → Reading → Result Reading CertWhy
cells_of grid ray reading = if is_ray_on grid ray then Ok (record reading { due = CellOf ray }) else Err CertRange

-- a ray line is one of those after the second
abbrev pub ray_where : Due → GridSize → Ray → Reading → Result Reading CertWhy
ray_where AnyRay grid ray reading = cells_of grid ray reading
ray_where (CellOf last) grid ray reading = cells_of grid ray reading
ray_where _ grid ray reading = Err CertSyntax

abbrev pub with_ray : GridSize → Ray → Reading → Result Reading CertWhy
with_ray grid ray reading = ray_where reading.due grid ray reading

-- one more cell of a ray, unless it is out of range
abbrev pub cell_on : ℕ → Ray → Span → CertCell
cell_on number ray span = record { line = number; ray = ray; q = span.q; k = span.k; a = span.a; b = span.b }

abbrev pub one_more : GridSize → CertCell → Reading → Result Reading CertWhy
one_more grid cell reading =
    if is_span_on grid cell then Ok (record reading { cells = reading.cells ++ cell ∷ [] }) else Err CertRange

-- a cell line is of the ray of the last ray line, so it comes after one
abbrev pub cell_at : Due → GridSize → ℕ → Span → Reading → Result Reading CertWhy
cell_at (CellOf ray) grid number span reading = one_more grid (cell_on number ray span) reading
cell_at _ grid number span reading = Err CertSyntax

abbrev pub with_cell : GridSize → ℕ → Span → Reading → Result Reading CertWhy
with_cell grid number span reading = cell_at reading.due grid number span reading

-- `end` is one of the lines after the second, and nothing follows it
abbrev pub end_where : Due → Reading → Result Reading CertWhy
end_where AnyRay reading = Ok (record reading { due = Nothing })
end_where (CellOf last) reading = Ok (record reading { due = Nothing })
end_where _ reading = Err CertSyntax

abbrev pub with_end : Reading → Result Reading CertWhy
with_end reading = end_where reading.due reading

-- what the line of a number adds to what was read so far, or what is wrong with it
abbrev pub with_form : GridSize → ℕ → Form → Reading → Result Reading CertWhy
with_form grid number Opening reading = with_opening reading
with_form grid number (Slabs slabs) reading = with_slabs slabs reading
with_form grid number (OfRay ray) reading = with_ray grid ray reading
with_form grid number (OfCell span) reading = with_cell grid number span reading
with_form grid number End reading = with_end reading

-- the same of a line that may be none of the grammar
abbrev pub with_cert_line : GridSize → ℕ → Option Form → Reading → Result Reading CertWhy
with_cert_line grid number None reading = Err CertSyntax
with_cert_line grid number (Some form) reading = with_form grid number form reading

-- a fault of a line
abbrev pub fault_at : ℕ → CertWhy → Result Cert CertFault
fault_at number why = Err (record { line = number; why = why })

-- the text may end where no line is due; else the line that is missing is a fault
abbrev pub ended_at : Due → ℕ → Reading → Result Cert CertFault
ended_at Nothing number reading = Ok (record { slabs = reading.slabs; cells = reading.cells })
ended_at _ number reading = fault_at number CertSyntax

abbrev pub ended : ℕ → Reading → Result Cert CertFault
ended number reading = ended_at reading.due number reading

-- the rest goes on from what one line made, and a fault has that line's number
abbrev pub cert_read_on : ℕ → Result Reading CertWhy → (Reading → Result Cert CertFault) → Result Cert CertFault
cert_read_on number (Ok reading) rest = rest reading
cert_read_on number (Err why) rest = fault_at number why

-- what lines that are numbered from here on add to what was read so far, or the first fault
abbrev pub cert_from : GridSize → ℕ → List (List ℕ) → Reading → Result Cert CertFault
cert_from grid number [] reading = ended number reading
cert_from grid number (piece ∷ pieces) reading =
    cert_read_on number (with_cert_line grid number (form_of piece) reading) (cert_from grid (number + 1) pieces)

-- the certificate of a whole text, or its first fault
abbrev pub cert_of : GridSize → List ℕ → Result Cert CertFault
cert_of grid bytes = cert_from grid 1 (pieces_of bytes) nothing_read

-- a refusal is the first fault; out of memory is free
abbrev pub EndsCert : Result Cert CertFault → CertEnd → Type 0
EndsCert cert (Refused fault) = cert ≡ Err fault
EndsCert cert NoMemory = Unit {0}

-- the same of one line
abbrev pub EndsCertLine : Result Reading CertWhy → Stop → Type 0
EndsCertLine reading (stops.Refused why) = reading ≡ Err why
EndsCertLine reading stops.NoMemory = Unit {0}
