-- The ray of the journal has the sets of the place.
use Rattle.strip_journal.proofs.SeenBack.{ray_seen, ray_told_back}
use Rattle.strip_journal.proofs.looked_back.LookedBack.ray.Goals as goal

pub ray-requires : goal.ray-requires
ray-requires c =
    ray_seen c.self.inside.journal c.args.self.now c.self.inside.place c.self.inside.left c.args.n c.self.invariant c.self.view_is c.requires

pub returns : goal.returns
returns c =
    ray_told_back c.self.inside.journal c.args.self.now c.self.inside.place c.self.inside.left c.args.n _ c.self.invariant c.self.view_is
    c.requires c.ray.ensures
