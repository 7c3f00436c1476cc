use Rattle.strip_journal.proofs.LeftPlaces.{left_few, line_ascends}
use Rattle.strip_journal.proofs.journal.Journal.left_of.Goals as goal

pub place_of-requires-clause-within : goal.place_of-requires-clause-within
place_of-requires-clause-within c = left_few c.args.self.now c.requires

pub place_of-requires-clause-ascends : goal.place_of-requires-clause-ascends
place_of-requires-clause-ascends c = line_ascends c.args.self.now c.requires
