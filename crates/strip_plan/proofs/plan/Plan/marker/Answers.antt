-- What is kept for a number is what was computed of the move with that number.
use Rattle.std.proofs.Common.{◌++◌}
use Rattle.strip_plan.proofs.Tables.{ready_is}
use Rattle.strip_plan.proofs.plan.Plan.marker.Goals as goal

pub marker-requires-clause-ready : goal.marker-requires-clause-ready
marker-requires-clause-ready c move named =
    let s = c.self.inside in
    ready_is s.draft.moves s.draft.slabs s.draft.depth (s.tables.early.items ++ s.tables.late.items) c.args.number move c.ready.result.now
    c.self.invariant.1.1 named c.ready.ensures
