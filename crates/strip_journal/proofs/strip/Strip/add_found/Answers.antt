-- What is added at the places of the line is added for the moves that are left.
use Rattle.std.proofs.Common.{sym, ◌∙◌}
use Rattle.strip_journal.proofs.ToldFound.{adds_told, left_told}
use Rattle.strip_journal.proofs.strip.Strip.add_found.Goals as goal

pub add_found-requires-clause-many : goal.add_found-requires-clause-many
add_found-requires-clause-many c =
    c.requires.many ∙ sym (left_told c.self.inside.journal c.args.self.now c.self.invariant c.self.view_is)

pub returns : goal.returns
returns c =
    adds_told c.self.inside.journal c.args.self.now c.args.counts.now c.add_found.new.counts c.self.invariant c.self.view_is c.requires.many
    c.add_found.ensures
