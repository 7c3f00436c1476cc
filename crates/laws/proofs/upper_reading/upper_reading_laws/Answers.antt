use Rattle.laws.proofs.Standing.{in_upper, not_in_lower, valid_cone, valid_sweep}
use Rattle.laws.proofs.upper_reading.upper_reading_laws.Goals as goal

pub returns-clause-upper : goal.returns-clause-upper
returns-clause-upper c = λ size m p. (λ met. (met.numerator, met.denominator, met.time, met.inside), λ at. record { numerator = at.0; denominator = at.1; time = at.2; inside = at.3 })

pub returns-clause-lower : goal.returns-clause-lower
returns-clause-lower c = λ size m p. (λ met. (met.numerator, met.denominator, met.time, met.inside), λ at. record { numerator = at.0; denominator = at.1; time = at.2; inside = at.3 })

pub returns-clause-apart : goal.returns-clause-apart
returns-clause-apart c = record { cutter = valid_cone; sweep = valid_sweep; upper = in_upper; lower = not_in_lower }
