use Rattle.ray_grid.proofs.Images.{are_different}
use Rattle.ray_grid.proofs.Turned.{back_undoes, distances_kept, forth_undoes}
use Rattle.ray_grid.proofs.turn_laws.laws_of_turns.Goals as goal

pub returns-clause-back : goal.returns-clause-back
returns-clause-back c = back_undoes

pub returns-clause-forth : goal.returns-clause-forth
returns-clause-forth c = forth_undoes

pub returns-clause-distances : goal.returns-clause-distances
returns-clause-distances c = distances_kept

pub returns-clause-different : goal.returns-clause-different
returns-clause-different c = are_different
