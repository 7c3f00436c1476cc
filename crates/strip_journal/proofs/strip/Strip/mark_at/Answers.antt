-- The journal's state of a point is the strip's.
use Rattle.strip_journal.proofs.ToldStates.{cost_told, point_told, ray_told, state_told, version_told}
use Rattle.strip_journal.proofs.strip.Strip.mark_at.Goals as goal

pub state_at-requires-clause-version : goal.state_at-requires-clause-version
state_at-requires-clause-version g c =
    version_told c.self.inside.journal c.args.self.now c.args.version c.self.view_is c.requires.version

pub state_at-requires-clause-ray : goal.state_at-requires-clause-ray
state_at-requires-clause-ray g c =
    ray_told c.self.inside.journal c.args.self.now c.args.n c.self.invariant c.self.view_is c.requires.ray

pub state_at-requires-clause-point : goal.state_at-requires-clause-point
state_at-requires-clause-point g c =
    point_told c.self.inside.journal c.args.self.now c.args.n c.args.l c.self.view_is c.requires.ray c.requires.point

pub returns-clause-state : goal.returns-clause-state
returns-clause-state g c =
    state_told c.self.inside.journal c.args.self.now c.args.version c.args.n c.args.l c.state_at.result c.self.view_is
    c.state_at.ensures.state

pub returns-clause-cost : goal.returns-clause-cost
returns-clause-cost g c =
    cost_told c.self.inside.journal c.args.self.now c.args.version c.args.steps.now c.state_at.new.steps c.self.view_is
    c.state_at.ensures.cost
