use Rattle.ray_shapes.proofs.BodyParts.{one_more}
use Rattle.ray_shapes.proofs.fill.part_with.Goals as goal

pub returns-clause-exact : goal.returns-clause-exact
returns-clause-exact c planes n there is =
    one_more planes n c.args.plane.now c.args.line.now c.args.part c.cut.result there is c.cut.ensures.order c.cut.ensures.within c.cut.ensures.exact
