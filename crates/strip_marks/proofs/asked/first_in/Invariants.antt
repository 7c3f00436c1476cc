use Rattle.std.specs.Prelude.{◌-◌, ◌≤◌}
use Rattle.strip_marks.specs.RowMarks.{AreUnasked}
use Rattle.strip_marks.proofs.asked.first_in.Given as goal

abbrev pub invariant-loop-n : goal.invariant-loop-n
invariant-loop-n l = record {
  from : l.from ≤ l.at;
  to : l.at ≤ l.end;
  ahead : AreUnasked l.near l.rays l.window l.from l.at;
}

abbrev pub decreases-loop-n : goal.decreases-loop-n
decreases-loop-n l = l.end - l.at
