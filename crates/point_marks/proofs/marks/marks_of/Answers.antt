use Rattle.std.proofs.Common.{rules, false, [], None, arith}
use Rattle.std.proofs.lemmas.Grind.{common_steps}
use Rattle.move_cutters.proofs.Highs.{high_behind}
use Rattle.point_marks.proofs.Truths.{marked_more}
use Rattle.point_marks.proofs.marks.marks_of.Goals as goal

pub loop-next-preserved : goal.loop-next-preserved
loop-next-preserved c = record {
  same = search rules;
  marked = grind (arith, common_steps);
  sound =
      rw c.in_ok-push.ensures.items
      (marked_more c.args.defaults.now c.args.question.now c.loop-next.marker c.args.moves.now c.loop-next.marks.items c.loop-next.next-index _ c.in_ok-mark.field-0
      c.loop-next.invariant.same c.loop-next-test.true c.loop-next.invariant.sound c.in_ok-mark.ensures.sound);
  high = high_behind c.args.defaults.now c.args.moves.now c.loop-next.next-index record { line = 0; rapid = false; from = []; to = []; axis_from = []; axis_to = []; cutter = None } c.loop-next-test.true c.loop-next.invariant.high;
}
