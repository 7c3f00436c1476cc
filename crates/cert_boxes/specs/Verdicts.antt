-- The verdict on a certificate.
use Rattle.std.specs.Prelude.{Bool, ◌&&◌, not, List, Option, Some, None}
use Rattle.std.specs.List.{find}
use Rattle.ray_grid.specs.Points.{LatticePoint, lattice_of}
use Rattle.cert_lines.specs.declared.cell.CertCell.{CertCell}
use Rattle.cert_lines.specs.declared.cert.Cert.{Cert}
use Rattle.cert_boxes.specs.declared.verdict.Verdict.{Verdict}
use Rattle.cert_boxes.specs.declared.verdict.Verdict.TheVariants.{Accepted, BoxStands, Uncovered}
use Rattle.cert_boxes.specs.Covering.{is_covered, wants_cover}
use Rattle.cert_boxes.specs.Holding.{box_holds}
use Rattle.cert_boxes.specs.Tasks.{CertTask}

-- the point has to be covered, and is not
abbrev pub is_uncovered : CertTask → List CertCell → LatticePoint → Bool
is_uncovered task cells point = wants_cover task point && not (is_covered cells point)

-- the first line whose box does not hold, and the first point that is not covered
abbrev pub first_line : CertTask → Cert → Option CertCell
first_line task cert = find (λ cell. not (box_holds task cert.slabs cell)) cert.cells

abbrev pub first_point : CertTask → Cert → Option LatticePoint
first_point task cert = find (is_uncovered task cert.cells) (lattice_of task.grid)

-- the line comes before the point, and where there is neither the certificate is accepted
abbrev pub verdict_on : Option CertCell → Option LatticePoint → Verdict
verdict_on (Some cell) point = BoxStands cell.line
verdict_on None (Some point) = Uncovered point.ray point.l
verdict_on None None = Accepted

abbrev pub verdict_of : CertTask → Cert → Verdict
verdict_of task cert = verdict_on (first_line task cert) (first_point task cert)
