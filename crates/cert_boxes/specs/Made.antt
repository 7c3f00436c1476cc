-- What is so of the certificate that is due, and where there is none.
use Rattle.std.specs.Prelude.{◌≡◌, ℕ, ◌^◌, ◌≤◌, ◌↔◌, Bool, true, ◌&&◌, IsTrue, Some, None}
use Rattle.std.specs.List.{list_any}
use Rattle.cutter_marks.specs.MarkBy.{is_possible_by}
use Rattle.ray_grid.specs.Points.{LatticePoint, lattice_of}
use Rattle.cert_lines.specs.Certificates.{IsInRange, are_slabs}
use Rattle.cert_lines.specs.Limits.{deepest_level}
use Rattle.cert_lines.specs.Spelling.{AreAtTheirLines}
use Rattle.cert_lines.specs.declared.cert.Cert.{Cert}
use Rattle.cert_boxes.specs.declared.verdict.Verdict.TheVariants.{Accepted}
use Rattle.cert_boxes.specs.Making.{cert_due}
use Rattle.cert_boxes.specs.Tasks.{CertTask, is_guarded}
use Rattle.cert_boxes.specs.Verdicts.{verdict_of}

-- a point of the part or of the fixtures that is possible, with the cutter in so many slabs and the move in 2^depth cells
abbrev pub is_guarded_possible : CertTask → ℕ → ℕ → LatticePoint → Bool
is_guarded_possible task slabs depth point =
    is_guarded task point && is_possible_by task.cutter slabs task.sweep point.position (2 ^ depth)

-- some point of the lattice is such a point
abbrev pub may_touch : CertTask → ℕ → ℕ → Bool
may_touch task slabs depth = list_any (is_guarded_possible task slabs depth) (lattice_of task.grid)

-- a certificate for the task: it is accepted, its numbers are in range, and each cell has the number of its line in the text
pub record IsCertFor (task : CertTask) (cert : Cert) : Type 0 where
  pub accepted : verdict_of task cert ≡ Accepted
  pub ranges : IsInRange task.grid cert
  pub lines : AreAtTheirLines 3 None cert.cells

-- the certificate that is due is one for the task, and there is none exactly where some point may be touched
abbrev pub DueIsForTask : Type 0
DueIsForTask =
    (task : CertTask) (slabs depth : ℕ) → IsTrue (are_slabs slabs) → depth ≤ deepest_level
    → ((cert : Cert) → cert_due task slabs depth ≡ Some cert → IsCertFor task cert)
    × ((cert_due task slabs depth ≡ None) ↔ (may_touch task slabs depth ≡ true))
