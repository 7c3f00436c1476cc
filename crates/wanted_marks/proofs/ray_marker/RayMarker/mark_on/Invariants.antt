use Rattle.wanted_marks.specs.Progress.{AreAmong, IsProgressOf}
use Rattle.wanted_marks.proofs.ray_marker.RayMarker.mark_on.Given as goal

abbrev pub invariant-loop-progress : goal.invariant-loop-progress
invariant-loop-progress l = record { fewer : AreAmong l.progress.rest l.wanted; progress : IsProgressOf l.progress l.self l.first l.wanted l.sure_only }

abbrev pub decreases-loop-progress : goal.decreases-loop-progress
decreases-loop-progress l = l.progress.rest
