-- A command that reads no file.
use Rattle.std.proofs.Common.{arith, ◌≡◌, ℕ, Bool, true, false, Option, Some, None, Result, IfOk, IfSome, refl, sym, ◌∙◌}
use Rattle.vf_io.specs.Causes.{Rose}
use Rattle.vf_io.specs.Files.{Files}
use Rattle.clverify.specs.Commands.{self_test}
use Rattle.clverify.specs.Commands.Selftest.{IsTrueSelftest}
use Rattle.job_inputs.specs.Reads.{ReadsOnce}
use Rattle.clverify.specs.Truth.{IsTrueText}
use Rattle.clverify.specs.declared.reply.Reply.{Reply}
use Rattle.input_faults.specs.declared.stopped.Stopped.{Stopped}

-- what is true of the summary of a generated task is true whatever the files are
pub true_over_all : (files : Option Files) (report : Result Reply Stopped) (number : ℕ)
    → IfOk report (λ answer. IsTrueSelftest number answer.status answer.text.items)
    → IfSome files (λ told. IfOk report (λ answer. IsTrueText answer.status told (self_test number) answer.text.items))
true_over_all None report number summary = tt
true_over_all (Some told) report number summary = summary

-- no file was read, and no read failed
pub unread : {S : Type 0} (files : S → Option Files) (faults : S → ℕ) (failures : S → Option ℕ) (failed : Bool) (shelf : S)
    → failed ≡ false → ReadsOnce files faults failures failed shelf shelf
unread files faults failures failed shelf calm = record {
  kept = refl;
  rose = λ one. let e : true ≡ false = sym one ∙ calm in cc;
  one = λ one. let e : true ≡ false = sym one ∙ calm in cc;
  calm = λ none. refl;
}

-- a count that stays at none didn't rise
pub none_rose : ¬ (Rose 0 0)
none_rose rose = omega arith
