-- The texts about certificates: the one that was made, or that there is none; and the verdict on one.
use Rattle.std.specs.Prelude.{ℕ, List, ◌++◌, codes, decimal, Option, Some, None}
use Rattle.vf_text.specs.Pages.{line}
use Rattle.cert_lines.specs.Spelling.{text_of_cert}
use Rattle.cert_lines.specs.declared.cert.Cert.{Cert}
use Rattle.cert_boxes.specs.declared.verdict.Verdict.{Verdict}
use Rattle.cert_boxes.specs.declared.verdict.Verdict.TheVariants.{Accepted, BoxStands, Uncovered}
use Rattle.report_text.specs.Places.{place_text}

-- the certificate, or that there is none
abbrev pub made_cert_text : Option Cert → List ℕ
made_cert_text (Some cert) = text_of_cert cert
made_cert_text None = line (codes "nocert")

-- whether it is accepted, or else the line whose box doesn't hold or the point that isn't covered
abbrev pub cert_verdict_words : Verdict → List ℕ
cert_verdict_words Accepted = codes "cert accepted"
cert_verdict_words (BoxStands at) = codes "cert rejected line " ++ decimal at
cert_verdict_words (Uncovered ray l) = codes "cert rejected" ++ place_text ray l

-- the one line of a verdict
abbrev pub cert_verdict_text : Verdict → List ℕ
cert_verdict_text verdict = line (cert_verdict_words verdict)
