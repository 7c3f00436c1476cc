use Rattle.ray_words.proofs.Settling.{grown_settled}
use Rattle.ray_words.proofs.strip_rays.grown.Goals as goal

pub returns : goal.returns
returns c =
    grown_settled c.args.ray.now.sets c.args.n c.wanted.result c.args.settled c.grown.result c.wanted.ensures c.wanted.type_inv
    c.grown.ensures c.requires
