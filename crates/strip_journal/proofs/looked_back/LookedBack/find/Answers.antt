-- What is found by the sets of the journal's rays, which stay, is what is found at the place.
use Rattle.strip_journal.proofs.GoneBack.{same_back}
use Rattle.strip_journal.proofs.SeenBack.{found_back, rays_alike, same_told_back, strip_alike}
use Rattle.strip_journal.proofs.looked_back.LookedBack.find.Goals as goal

pub find-requires-clause-strip : goal.find-requires-clause-strip
find-requires-clause-strip c =
    strip_alike c.self.inside.journal c.args.self.now c.args.plan.now c.self.inside.place c.self.inside.left c.self.invariant c.self.view_is
    c.requires.plan

pub find-requires-clause-rays : goal.find-requires-clause-rays
find-requires-clause-rays c =
    rays_alike c.self.inside.journal c.args.self.now c.args.plan.now c.self.inside.place c.self.inside.left c.self.invariant c.self.view_is
    c.requires.plan

pub invariant_of-self : goal.invariant_of-self
invariant_of-self c =
    same_back c.self.inside.journal c.find.new.self c.self.inside.place c.self.inside.left c.self.invariant c.find.ensures.edits
    c.find.ensures.same

pub returns-clause-place : goal.returns-clause-place
returns-clause-place c =
    same_told_back c.self.inside.journal c.find.new.self c.args.self.now c.self.inside.left c.self.view_is c.find.ensures.edits

pub returns-clause-found : goal.returns-clause-found
returns-clause-found c =
    found_back c.self.inside.journal c.args.self.now c.args.plan.now c.self.inside.place c.self.inside.left c.args.number c.find.result
    c.self.invariant c.self.view_is c.requires.plan c.find.ensures.found
