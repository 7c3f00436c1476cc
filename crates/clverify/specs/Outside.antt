-- What a call leaves of the sink that it writes to. The first three arguments name what is seen of the sink.
use Rattle.std.specs.Prelude.{◌≡◌, ℕ, List, Option}
use Rattle.vf_io.specs.Causes.{Rose}
use Rattle.clverify.specs.Headline.{Answers, Hands}
use Rattle.clverify.specs.Reply.{Due}
use Rattle.clverify.specs.declared.status.Status.{Status}
use Rattle.clverify.specs.declared.status.Status.TheVariants.{WriteFault}

-- The answer that is due is written, a line by each put, and a fault of writing comes only where a put failed.
pub record WritesAnswer {K : Type 0} (written : K → Option (List ℕ)) (pieces : K → Option (List (List ℕ))) (faults : K → ℕ)
    (status : Status) (due : Option Due) (old new : K) : Type 0 where
  pub answer : Answers status due (written old) (written new)
  pub hands : Hands status due (written old) (written new) (pieces old) (pieces new)
  pub rose : status ≡ WriteFault → Rose (faults old) (faults new)
