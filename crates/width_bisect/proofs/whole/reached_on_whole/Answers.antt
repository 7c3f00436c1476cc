use Rattle.std.proofs.Common.{refl}
use Rattle.width_bisect.proofs.Beginning.{begins_at}
use Rattle.width_bisect.proofs.whole.reached_on_whole.Goals as goal

pub walk_up-requires : goal.walk_up-requires
walk_up-requires c =
    let w = c.args.whole.now in let l = c.args.lists.now in let last = c.last_of-last.result in let is = c.last_of-last.ensures in
    begins_at c.args.slabs.now l.scale l.scale last.scale c.reached.result last.u last.n l.raised l.height w.u w.n refl c.requires.raised c.requires.height is.scale is.u is.n c.reached.ensures
