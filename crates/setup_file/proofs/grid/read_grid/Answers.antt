use Rattle.std.proofs.Common.{pos, arith, rules}
use Rattle.std.proofs.lemmas.Int.{ints}
use Rattle.space.specs.Ranges.{metre}
use Rattle.setup_file.proofs.Casts.{still_in}
use Rattle.setup_file.proofs.Coordinates.{coordinates}
use Rattle.setup_file.proofs.grid.read_grid.Goals as goal

pub all_counts-requires-clause-origin : goal.all_counts-requires-clause-origin
all_counts-requires-clause-origin c = coordinates c.in_ok-origin.origin c.in_ok-all_ranged.ensures.range (search rules)

pub all_counts-requires-clause-pitch : goal.all_counts-requires-clause-pitch
all_counts-requires-clause-pitch c = still_in (pos 1) (pos metre) c.in_ok-pitch.pitch (omega (arith, ints)) (omega (arith, ints)) c.in_ok-pitch.ensures.range

pub grid_with-requires-clause-origin : goal.grid_with-requires-clause-origin
grid_with-requires-clause-origin c = coordinates c.in_ok-origin.origin c.in_ok-all_ranged.ensures.range (search rules)

pub grid_with-requires-clause-pitch : goal.grid_with-requires-clause-pitch
grid_with-requires-clause-pitch c = still_in (pos 1) (pos metre) c.in_ok-pitch.pitch (omega (arith, ints)) (omega (arith, ints)) c.in_ok-pitch.ensures.range
