-- The text of a certificate's fault.
use Rattle.std.specs.Prelude.{ℕ, List, ◌++◌, codes, decimal}
use Rattle.cert_lines.specs.declared.fault.CertFault.{CertFault}
use Rattle.cert_lines.specs.declared.fault.CertWhy.{CertWhy}
use Rattle.cert_lines.specs.declared.fault.CertWhy.TheVariants.{CertSyntax, CertRange}

abbrev pub cert_why_name : CertWhy → List ℕ
cert_why_name CertSyntax = codes "CertSyntax"
cert_why_name CertRange = codes "CertRange"

-- the line where it is, and what is wrong there
abbrev pub cert_fault_text : CertFault → List ℕ
cert_fault_text fault = codes "cert line " ++ decimal fault.line ++ codes ": " ++ cert_why_name fault.why
