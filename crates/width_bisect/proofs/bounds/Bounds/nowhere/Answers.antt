use Rattle.width_bisect.proofs.Bounding.{none_meets}
use Rattle.width_bisect.proofs.bounds.Bounds.nowhere.Goals as goal

pub returns-clause-held : goal.returns-clause-held
returns-clause-held c = λ S n slabs. none_meets S n slabs
