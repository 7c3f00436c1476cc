-- What is done on one strip.
use Rattle.std.specs.Prelude.{◌≡◌, ℕ, ◌<◌, ◌≤◌}
use Rattle.strip_journal.specs.Strips.{StripOf}

-- the same strip at another version
pub record IsRaised (before after : StripOf) (version : ℕ) : Type 0 where
  pub job : after.job ≡ before.job
  pub number : after.number ≡ before.number
  pub done : after.done ≡ version

-- the same strip at its version or a later one, short of the one that it was to reach
pub record IsStopped (before after : StripOf) (version : ℕ) : Type 0 where
  pub job : after.job ≡ before.job
  pub number : after.number ≡ before.number
  pub later : before.done ≤ after.done
  pub short : after.done < version
