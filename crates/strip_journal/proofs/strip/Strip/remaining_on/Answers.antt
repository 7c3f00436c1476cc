-- What the journal's ray has is what the strip's has.
use Rattle.strip_journal.proofs.ToldStates.{ray_told}
use Rattle.strip_journal.proofs.WordsLeft.{left_told}
use Rattle.strip_journal.proofs.strip.Strip.remaining_on.Goals as goal

pub remaining_on-requires-clause-ray : goal.remaining_on-requires-clause-ray
remaining_on-requires-clause-ray c =
    ray_told c.self.inside.journal c.args.self.now c.args.n c.self.invariant c.self.view_is c.requires

pub returns : goal.returns
returns c = left_told c.self.inside.journal c.args.self.now c.args.n c.remaining_on.result c.self.view_is c.remaining_on.ensures
