-- What an accepted certificate means, without a certificate, a slab or a mark; and what it is to be covered, without a finest cell.
use Rattle.std.specs.Prelude.{◌≡◌, ℕ, ◌^◌, ◌↔◌, true, List, Contains}
use Rattle.std.specs.List.{list_all}
use Rattle.space.specs.Sweeps.{IsTime, SweepOf}
use Rattle.bern_form.specs.Cells.{IsInCell}
use Rattle.cutter_slabs.specs.Cutter.{CutterSize}
use Rattle.cutter_slabs.specs.Meets.{MeetsUpper}
use Rattle.ray_grid.specs.Grids.{GridSize}
use Rattle.ray_grid.specs.Points.{LatticePoint, lattice_of}
use Rattle.ray_shapes.specs.declared.solid.Solid.{Solid}
use Rattle.cert_lines.specs.Certificates.{IsInRange, is_cell_on}
use Rattle.cert_lines.specs.Spelling.{is_same_ray}
use Rattle.cert_lines.specs.declared.cell.CertCell.{CertCell}
use Rattle.cert_lines.specs.declared.cert.Cert.{Cert}
use Rattle.cert_boxes.specs.declared.verdict.Verdict.TheVariants.{Accepted}
use Rattle.cert_boxes.specs.Covering.{is_among, is_covered}
use Rattle.cert_boxes.specs.Tasks.{CertTask, is_guarded, cert_task}
use Rattle.cert_boxes.specs.Verdicts.{verdict_of}

-- the upper cutter meets no lattice point of the part or of the fixtures at any rational time of the move
abbrev pub IsUntouched : CertTask → Type 0
IsUntouched task =
    (point : LatticePoint) → Contains (lattice_of task.grid) point → is_guarded task point ≡ true
    → ¬ MeetsUpper task.cutter task.sweep point.position

-- a line that names the point, and whose cell holds the time a / b, ends included
pub record NamesAt (cells : List CertCell) (point : LatticePoint) (a b : ℕ) : Type 0 where
  pub cell : CertCell
  pub listed : Contains cells cell
  pub same : is_same_ray cell.ray point.ray ≡ true
  pub among : is_among point.l cell ≡ true
  pub during : IsInCell cell.k (2 ^ cell.q) a b

-- a point is covered by lines in range exactly where at every rational time from 0 to 1 some line that names it holds that time
abbrev pub TimesAreCovered : Type 0
TimesAreCovered =
    (grid : GridSize) (cells : List CertCell) (point : LatticePoint) → list_all (is_cell_on grid) cells ≡ true
    → (is_covered cells point ≡ true) ↔ ((a b : ℕ) → IsTime a b → NamesAt cells point a b)

-- a certificate in range that is accepted for the move and the cutter, cut into the certificate's own number of slabs, leaves part and
-- fixtures untouched
abbrev pub AcceptedIsUntouched : SweepOf → CutterSize → ℕ → Type 0
AcceptedIsUntouched sweep cutter slabs =
    (grid : GridSize) (part fixture : Solid) (cert : Cert) → cert.slabs ≡ slabs → IsInRange grid cert
    → verdict_of (cert_task sweep cutter grid part fixture) cert ≡ Accepted → IsUntouched (cert_task sweep cutter grid part fixture)
