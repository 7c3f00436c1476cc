-- What is known of a certificate that was made for a move, and of a verdict.
use Rattle.std.specs.Prelude.{◌≡◌, ℕ, ◌↔◌, true, Option, None, IfSome}
use Rattle.cert_lines.specs.Law.{IsCert}
use Rattle.cert_lines.specs.declared.cert.Cert.{Cert}
use Rattle.cert_boxes.specs.Made.{may_touch}
use Rattle.cert_boxes.specs.Making.{cert_due}
use Rattle.cert_boxes.specs.Tasks.{CertTask}
use Rattle.cert_boxes.specs.Untouched.{IsUntouched}
use Rattle.cert_boxes.specs.Verdicts.{verdict_of}
use Rattle.cert_boxes.specs.declared.verdict.Verdict.{Verdict}
use Rattle.cert_boxes.specs.declared.verdict.Verdict.TheVariants.{Accepted}

-- It is the one that is due. A certificate is accepted, its numbers and lines are right, and the move touches nothing; there is none
-- exactly where some point may be touched.
pub record IsMadeFor (task : CertTask) (slabs depth : ℕ) (made : Option Cert) : Type 0 where
  pub is_due : made ≡ cert_due task slabs depth
  pub accepted : IfSome made (λ cert. verdict_of task cert ≡ Accepted)
  pub untouched : IfSome made (λ cert. IsUntouched task)
  pub valid : IfSome made (IsCert task.grid)
  pub none : (made ≡ None) ↔ (may_touch task slabs depth ≡ true)

-- it is the one that is due, and where it is that the certificate is accepted the move touches nothing
pub record IsVerdictOn (task : CertTask) (cert : Cert) (verdict : Verdict) : Type 0 where
  pub is_due : verdict ≡ verdict_of task cert
  pub untouched : verdict ≡ Accepted → IsUntouched task
