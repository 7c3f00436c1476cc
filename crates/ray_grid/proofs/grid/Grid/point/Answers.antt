use Rattle.ray_grid.proofs.Listed.{listed_point}
use Rattle.ray_grid.proofs.grid.Grid.point.Goals as goal

pub returns-in-X-clause-listed : goal.returns-in-X-clause-listed
returns-in-X-clause-listed c = listed_point c.args.self.now c.args.ray.now c.args.l c.requires.ray c.requires.point

pub returns-in-Y-clause-listed : goal.returns-in-Y-clause-listed
returns-in-Y-clause-listed c = listed_point c.args.self.now c.args.ray.now c.args.l c.requires.ray c.requires.point

pub returns-in-Z-clause-listed : goal.returns-in-Z-clause-listed
returns-in-Z-clause-listed c = listed_point c.args.self.now c.args.ray.now c.args.l c.requires.ray c.requires.point
