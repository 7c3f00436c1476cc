-- The journal goes back to the place.
use Rattle.strip_journal.proofs.SeenBack.{back_told, left_told_back}
use Rattle.strip_journal.proofs.looked_back.LookedBack.back.Goals as goal

pub go_back-self-inside-requires-clause-back : goal.go_back-self-inside-requires-clause-back
go_back-self-inside-requires-clause-back c = c.self.invariant

pub go_back-self-inside-requires-clause-left : goal.go_back-self-inside-requires-clause-left
go_back-self-inside-requires-clause-left c = left_told_back c.self.inside.journal c.args.self.now c.self.inside.left c.args.left c.self.view_is c.requires

pub invariant_of-self : goal.invariant_of-self
invariant_of-self c = c.go_back-self-inside.ensures.back

pub returns : goal.returns
returns c = back_told c.self.inside.journal c.go_back-self-inside.new.self c.args.self.now c.self.inside.left c.args.left c.self.view_is c.go_back-self-inside.ensures.edits
