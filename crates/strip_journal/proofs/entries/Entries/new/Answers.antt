use Rattle.strip_journal.proofs.KeptHits.{none_named}
use Rattle.strip_journal.proofs.entries.Entries.new.Goals as goal

pub invariant_of-result : goal.invariant_of-result
invariant_of-result c = none_named _ _ c.new.ensures.items
