use Rattle.ray_shapes.proofs.TurnedPlanes.{is_lifted}
use Rattle.ray_shapes.proofs.turned.lifted.Goals as goal

pub overflow_add-result : goal.overflow_add-result
overflow_add-result c = (is_lifted c.args.side c.args.x c.args.y c.args.z c.requires.side c.requires.x c.requires.y c.requires.z).two

pub overflow_add-result-2 : goal.overflow_add-result-2
overflow_add-result-2 c = (is_lifted c.args.side c.args.x c.args.y c.args.z c.requires.side c.requires.x c.requires.y c.requires.z).three

pub overflow_add-result-3 : goal.overflow_add-result-3
overflow_add-result-3 c = (is_lifted c.args.side c.args.x c.args.y c.args.z c.requires.side c.requires.x c.requires.y c.requires.z).all

pub returns : goal.returns
returns c = (is_lifted c.args.side c.args.x c.args.y c.args.z c.requires.side c.requires.x c.requires.y c.requires.z).is_read
