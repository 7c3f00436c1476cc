use Rattle.near_points.specs.Rays.{cylinder_ray_at}
use Rattle.strip_marks.proofs.AskedWords.{held_asked, wanted_on_ray}
use Rattle.strip_marks.proofs.word.candidates_in.Goals as goal

pub held_points-requires-clause-on_ray : goal.held_points-requires-clause-on_ray
held_points-requires-clause-on_ray c = wanted_on_ray (cylinder_ray_at c.args.near.now c.args.n) c.args.ray.now.sets c.args.window c.args.word c.wanted_in.result c.requires.on c.wanted_in.ensures

pub returns : goal.returns
returns c = held_asked (cylinder_ray_at c.args.near.now c.args.n) c.args.ray.now.sets c.args.window c.args.word c.wanted_in.result c.held_points.result c.wanted_in.ensures c.held_points.ensures.kept c.held_points.ensures.held
