use Rattle.std.proofs.Common.{length, subst}
use Rattle.job_model.specs.Tasks.{PlanOf}
use Rattle.strip_plan.specs.Cylinders.{HasCylinders}
use Rattle.strip_plan.proofs.Cylindered.{cylinder_holds}
use Rattle.strip_plan.proofs.plan.Plan.cylinder.Goals as goal

pub returns : goal.returns
returns c move named =
    let own = c.self.inside.tables.cylinders in
    let has = subst (λ (p : PlanOf). HasCylinders p.grid p.slabs p.depth p.moves own.items (length p.moves)) c.self.view_is c.self.invariant.1.0 in
    cylinder_holds c.args.self.now own.items c.args.number c.index.result.now move has c.requires c.index.ensures named
