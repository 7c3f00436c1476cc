use Rattle.wanted_marks.specs.Nears.{IsNear}
use Rattle.wanted_marks.specs.Progress.{AreAmong, FollowsFrom}
use Rattle.wanted_marks.proofs.ray_marker.RayMarker.mark_down_to.Given as goal

abbrev pub invariant-loop-progress : goal.invariant-loop-progress
invariant-loop-progress l = record {
  near : IsNear l.near l.self.sweep;
  fewer : AreAmong l.progress.rest l.initial.progress.rest;
  progress : FollowsFrom l.progress l.initial.progress l.self l.first l.sure_only;
}

abbrev pub decreases-loop-progress : goal.decreases-loop-progress
decreases-loop-progress l = l.progress.rest
