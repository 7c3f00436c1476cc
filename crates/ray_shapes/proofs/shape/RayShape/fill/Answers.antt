-- What the closure answers on a ray of the grid is what it is known to give.
use Rattle.std.proofs.Common.{refl}
use Rattle.std.proofs.lemmas.Fn.{says_at}
use Rattle.ray_shapes.proofs.shape.RayShape.fill.Goals as goal

pub returns : goal.returns
returns g c = c.requires.gives.gives c.args.ray.now c.source.result c.requires.ray (says_at g.F.Fn c.source.ensures refl)
