-- What is so of what was made, since it is what is due.
use Rattle.std.proofs.Common.{◌≡◌, ℕ, ◌≤◌, ◌↔◌, true, leb, Option, Some, None, sym, ◌∙◌}
use Rattle.std.proofs.lemmas.Bool.{and_from, le-leb}
use Rattle.cert_lines.specs.Certificates.{are_slabs}
use Rattle.cert_lines.specs.declared.cert.Cert.{Cert}
use Rattle.cert_boxes.specs.Made.{IsCertFor, may_touch}
use Rattle.cert_boxes.specs.Making.{cert_due}
use Rattle.cert_boxes.specs.Tasks.{CertTask}
use Rattle.cert_boxes.proofs.Due.{due_is_for_task}

slabs_are : (slabs : ℕ) → 1 ≤ slabs → slabs ≤ 256 → are_slabs slabs ≡ true
slabs_are slabs some few = and_from (leb 1 slabs) (leb slabs 256) (le-leb 1 slabs some) (le-leb slabs 256 few)

pub cert_is_for : (task : CertTask) (slabs depth : ℕ) (cert : Cert) → 1 ≤ slabs → slabs ≤ 256 → depth ≤ 10 → Some cert ≡ cert_due task slabs depth → IsCertFor task cert
cert_is_for task slabs depth cert some few shallow is = (due_is_for_task task slabs depth (slabs_are slabs some few) shallow).0 cert (sym is)

pub none_where_touched : (task : CertTask) (slabs depth : ℕ) (made : Option Cert) → 1 ≤ slabs → slabs ≤ 256 → depth ≤ 10 → made ≡ cert_due task slabs depth
    → (made ≡ None) ↔ (may_touch task slabs depth ≡ true)
none_where_touched task slabs depth made some few shallow is =
    let both = (due_is_for_task task slabs depth (slabs_are slabs some few) shallow).1 in
    (λ none. both.0 (sym is ∙ none), λ touched. is ∙ both.1 touched)
