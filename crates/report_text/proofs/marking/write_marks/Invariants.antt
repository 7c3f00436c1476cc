use Rattle.std.proofs.Common.{◌≡◌, ◌+◌, ◌++◌, drop}
use Rattle.report_text.specs.Marking.{mark_lines}
use Rattle.report_text.proofs.marking.write_marks.Given as goal

abbrev pub invariant-loop-before : goal.invariant-loop-before
invariant-loop-before l =
    l.page ++ mark_lines (l.before + 1) (drop l.before l.moves) (drop l.before l.marks) ≡ l.fn.page ++ mark_lines 1 l.moves l.marks
