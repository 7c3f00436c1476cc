use Rattle.laws.proofs.Least.{length_least}
use Rattle.laws.proofs.Moved.{grown, shrunk}
use Rattle.laws.proofs.clearance.clearance_laws.Goals as goal

pub returns-clause-grown : goal.returns-clause-grown
returns-clause-grown c = grown

pub returns-clause-shrunk : goal.returns-clause-shrunk
returns-clause-shrunk c = shrunk

pub returns-clause-least : goal.returns-clause-least
returns-clause-least c = length_least
