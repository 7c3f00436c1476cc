use Rattle.laws.proofs.BoxPoints.{box_holds, seen}
use Rattle.laws.proofs.FirstAbove.{is_first}
use Rattle.laws.proofs.seen_gouge.seen_gouge_laws.Goals as goal

pub returns-clause-first : goal.returns-clause-first
returns-clause-first g c = is_first

pub returns-clause-holds : goal.returns-clause-holds
returns-clause-holds g c = box_holds

pub returns-clause-seen : goal.returns-clause-seen
returns-clause-seen g c = seen g.G.Places.holds
