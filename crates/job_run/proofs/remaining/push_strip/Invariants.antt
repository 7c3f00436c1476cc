use Rattle.std.proofs.Common.{◌≡◌, ◌++◌, map, take}
use Rattle.ray_grid.specs.Strips.{strip_at}
use Rattle.stock_file.specs.PointSets.{set_where}
use Rattle.strip_journal.specs.Remaining.{remains_at}
use Rattle.job_run.proofs.remaining.push_strip.Given as goal

abbrev pub invariant-loop-n : goal.invariant-loop-n
invariant-loop-n l =
    l.sets.items
    ≡ l.fn.sets.items ++ map (set_where l.grid (remains_at l.strip.job l.strip.done)) (take l.n (strip_at l.grid l.strip.number))
