-- What is read of a text that was written.
use Rattle.std.specs.Prelude.{◌≡◌, ℕ, List, None, Ok}
use Rattle.ray_grid.specs.Grids.{GridSize}
use Rattle.ray_grid.specs.Ranges.{IsGrid}
use Rattle.cert_lines.specs.declared.cert.Cert.{Cert}
use Rattle.cert_lines.specs.Certificates.{IsInRange}
use Rattle.cert_lines.specs.Reading.{cert_of}
use Rattle.cert_lines.specs.Spelling.{AreAtTheirLines}

-- a certificate that may be written: its numbers are in range for the grid, and each cell has the number of its line
pub record IsCert (grid : GridSize) (cert : Cert) : Type 0 where
  pub ranges : IsInRange grid cert
  pub numbered : AreAtTheirLines 3 None cert.cells

-- a text stands for the certificate, over any grid for which its numbers are in range
abbrev pub ReadsBack : Cert → List ℕ → Type 0
ReadsBack cert bytes = (grid : GridSize) → IsGrid grid → IsCert grid cert → cert_of grid bytes ≡ Ok cert
