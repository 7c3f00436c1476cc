-- The exit codes.
use Rattle.std.specs.Prelude.{ℕ}
use Rattle.clverify.specs.declared.status.Status.{Status}
use Rattle.clverify.specs.declared.status.Status.TheVariants.{Clean, Findings, Usage, Refused, ReadFault, WriteFault, NoMemory}

abbrev pub code_of : Status → ℕ
code_of Clean = 0
code_of Findings = 1
code_of Usage = 2
code_of (Refused fault) = 3
code_of ReadFault = 4
code_of WriteFault = 5
code_of NoMemory = 6
