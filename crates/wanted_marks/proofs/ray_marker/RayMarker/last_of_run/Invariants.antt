use Rattle.std.proofs.Common.{◌+◌, ◌-◌, ◌<◌, ◌≤◌}
use Rattle.wanted_marks.specs.Runs.{IsRun}
use Rattle.wanted_marks.proofs.ray_marker.RayMarker.last_of_run.Given as goal

abbrev pub invariant-loop-end : goal.invariant-loop-end
invariant-loop-end l = record {
  from : l.low.index ≤ l.last;
  order : l.last ≤ l.end;
  end : l.end ≤ l.top + 1;
  to : l.last ≤ l.top;
  between : 2 < l.end - l.last → (l.last < l.at) × (l.at < l.end);
  run : IsRun l.self l.low.index l.last;
}

abbrev pub decreases-loop-end : goal.decreases-loop-end
decreases-loop-end l = l.end - l.last
