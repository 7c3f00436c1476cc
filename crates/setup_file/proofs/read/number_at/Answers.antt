-- A value at the key that is no whole number is refused.
use Rattle.std.proofs.Common.{refl}
use Rattle.setup_file.proofs.read.number_at.Goals as goal

pub returns-in-None-clause-value : goal.returns-in-None-clause-value
returns-in-None-clause-value c = rw (← c.in-Some.ensures, ← c.in-None.ensures) refl

pub returns-in-None-clause-range : goal.returns-in-None-clause-range
returns-in-None-clause-range c = tt
