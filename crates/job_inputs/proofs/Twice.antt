-- What is read after a read that didn't fail is all that can fail.
use Rattle.std.proofs.Common.{ℕ, ◌≤◌, Bool, false, Option, refl, ap, arith, ◌∙◌}
use Rattle.vf_io.specs.Causes.{Rose, one_more_failure}
use Rattle.vf_io.specs.Files.{Files}
use Rattle.job_inputs.specs.Reads.{ReadsOnce}

rises : (old middle new : ℕ) → old ≤ middle → Rose middle new → Rose old new
rises old middle new later rose = omega arith

pub reads_on : {S : Type 0} (files : S → Option Files) (faults : S → ℕ) (failures : S → Option ℕ) (failed : Bool) (old middle new : S)
    → faults old ≤ faults middle → ReadsOnce files faults failures false old middle → ReadsOnce files faults failures failed middle new
    → ReadsOnce files faults failures failed old new
reads_on files faults failures failed old middle new later first last = record {
  kept = last.kept ∙ first.kept;
  rose = λ fault. rises (faults old) (faults middle) (faults new) later (last.rose fault);
  one = λ fault. last.one fault ∙ ap one_more_failure (first.calm refl);
  calm = λ none. last.calm none ∙ first.calm refl;
}
