use Rattle.stock_file.proofs.ReadLemmas.{ray_is_on, set_is_of}
use Rattle.stock_file.proofs.line.read_ray.Goals as goal

pub returns-clause-ray : goal.returns-clause-ray
returns-clause-ray c = ray_is_on c.args.grid.now c.args.next c.args.piece.now c.read_piece.result c.read_piece.ensures

pub returns-clause-bound : goal.returns-clause-bound
returns-clause-bound c = set_is_of c.args.grid.now c.args.next c.args.piece.now c.read_piece.result c.read_piece.ensures
