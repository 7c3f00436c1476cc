-- With the newest sets it is at the place after all moves that are left.
use Rattle.strip_journal.proofs.GoneBack.{start_back}
use Rattle.strip_journal.proofs.looked_back.LookedBack.of.Goals as goal

pub invariant_of-result : goal.invariant_of-result
invariant_of-result c = start_back c.args.journal c.len-place.result c.requires c.len-place.ensures
