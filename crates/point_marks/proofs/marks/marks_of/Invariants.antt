use Rattle.std.proofs.Common.{◌≡◌, take, drop, None}
use Rattle.move_cutters.specs.Cutters.{first_low}
use Rattle.point_marks.specs.Marks.{AreTrueMarks, marks_for}
use Rattle.point_marks.proofs.marks.marks_of.Given as goal

abbrev pub invariant-loop-next : goal.invariant-loop-next
invariant-loop-next l = record {
  same : l.marker ≡ l.question;
  marked : l.marks.items ≡ marks_for l.defaults l.question (take l.next-index l.moves);
  sound : AreTrueMarks l.defaults l.question.point (take l.next-index l.moves) l.marks.items;
  high : first_low l.defaults (drop l.next-index l.moves) ≡ None;
}
