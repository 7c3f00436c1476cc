use Rattle.std.proofs.Common.{IfNone, IfSome}
use Rattle.job_model.specs.Tasks.{JobMove}
use Rattle.strip_plan.specs.Plans.{HasNumber}
use Rattle.strip_marks.specs.Marks.{HaveSameSets}
use Rattle.strip_marks.specs.RowMarks.{AreRaysMarked}
use Rattle.strip_marks.proofs.NextRays.{IsNextRay, rays_left}
use Rattle.strip_marks.proofs.strip.mark_rays.Given as goal

abbrev pub invariant-loop-next : goal.invariant-loop-next
invariant-loop-next l = record {
  same : HaveSameSets l.initial.rays l.rays;
  none : IfNone l.next ((move : JobMove) → HasNumber l.plan l.number move
      → AreRaysMarked l.plan move l.strip l.initial.rays l.rays l.fn.window.0 l.fn.window.1 l.marked.changes.items l.marked.counts);
  some : IfSome l.next (IsNextRay l.plan l.number l.strip l.near l.along l.initial.rays l.rays l.marked l.fn.window.0 l.fn.window.1);
}

abbrev pub decreases-loop-next : goal.decreases-loop-next
decreases-loop-next l = rays_left l.next l.fn.window.1
