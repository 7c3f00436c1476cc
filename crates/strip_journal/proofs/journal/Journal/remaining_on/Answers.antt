use Rattle.strip_journal.proofs.WordsLeft.{all_left}
use Rattle.strip_journal.proofs.journal.Journal.remaining_on.Goals as goal

pub returns : goal.returns
returns c =
    all_left c.args.self.now c.args.n c.ray.result.now c.remaining_of.result c.requires.journal c.requires.ray c.ray.ensures c.remaining_of.ensures
