use Rattle.strip_plan.proofs.Joined.{joins_all}
use Rattle.strip_plan.proofs.index_box.IndexBox.hull.Goals as goal

pub returns : goal.returns
returns c =
    joins_all c.args.self.now c.args.other.now _ c.hull.ensures.nodes c.hull.ensures.points c.hull-2.ensures.nodes c.hull-2.ensures.points
    c.hull-3.ensures.nodes c.hull-3.ensures.points
