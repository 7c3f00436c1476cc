-- The rays so far are fresh, and their stock points are counted.
use Rattle.std.proofs.Common.{◌≡◌}
use Rattle.strip_journal.specs.Fresh.{AreFreshRays, stock_points}
use Rattle.strip_journal.proofs.fresh.fresh_rays.Given as goal

abbrev pub invariant-loop-n : goal.invariant-loop-n
invariant-loop-n g l = record {
  rays : AreFreshRays l.grid l.strip l.n l.stock.solid.value l.part.solid.value l.fixture.solid.value l.rays;
  points : l.points ≡ stock_points l.rays;
}
