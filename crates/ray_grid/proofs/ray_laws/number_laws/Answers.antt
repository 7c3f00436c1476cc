use Rattle.ray_grid.proofs.Numbered.{number_is_place}
use Rattle.ray_grid.proofs.ray_laws.number_laws.Goals as goal

pub returns : goal.returns
returns c = number_is_place
