-- The place of a move that is left is that of its edit in the line.
use Rattle.strip_journal.proofs.ToldFound.{found_told, stands_told}
use Rattle.strip_journal.proofs.strip.Strip.found.Goals as goal

pub found-requires-clause-stands : goal.found-requires-clause-stands
found-requires-clause-stands c = stands_told c.self.inside.journal c.args.self.now c.args.j c.self.invariant c.self.view_is c.requires

pub returns : goal.returns
returns c =
    found_told c.self.inside.journal c.args.self.now c.args.j c.found.result c.self.invariant c.self.view_is c.requires c.found.ensures
