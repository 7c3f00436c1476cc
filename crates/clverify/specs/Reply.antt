-- An answer that is due: a text, and the status that goes with it.
use Rattle.std.specs.Prelude.{ℕ, List, ◌++◌, codes, Result, Ok, Err}
use Rattle.vf_text.specs.Pages.{line}
use Rattle.report_text.specs.Refusals.{refusal_of}
use Rattle.input_faults.specs.declared.fault.Fault.{Fault}
use Rattle.clverify.specs.declared.status.Status.{Status}
use Rattle.clverify.specs.declared.status.Status.TheVariants.{Clean, Findings, Usage, Refused}

pub record Due : Type 0 where
  pub text : List ℕ
  pub status : Status

-- the one line for words that are no command
abbrev pub usage_line : List ℕ
usage_line =
    line (codes "usage: clverify list CL | point CL X Y Z --depth M [--slabs N] | verify CL SETUP [--script F] [--workers N] [--stock F]"
    ++ codes " | selftest N | certify CL SETUP I | check CL SETUP I CERT | save CL SETUP [--script F] [--stock F]")

-- words that are no command are due that line
abbrev pub usage_due : Due
usage_due = record { text = usage_line; status = Usage }

-- a fault is due the one line of its refusal
abbrev pub refused : Fault → Due
refused fault = record { text = refusal_of fault; status = Refused fault }

-- what is due to an input that was read, or to the fault that it is refused with
abbrev pub answer_of : {T : Type 0} → (T → Due) → Result T Fault → Due
answer_of report (Ok input) = report input
answer_of report (Err fault) = refused fault

-- a status that comes with a whole text
abbrev pub IsWhole : Status → Type 0
IsWhole Clean = Unit {0}
IsWhole Findings = Unit {0}
IsWhole Usage = Unit {0}
IsWhole (Refused fault) = Unit {0}
IsWhole _ = ⊥

-- a status that comes with a command's report
abbrev pub IsVerdict : Status → Type 0
IsVerdict Clean = Unit {0}
IsVerdict Findings = Unit {0}
IsVerdict _ = ⊥
