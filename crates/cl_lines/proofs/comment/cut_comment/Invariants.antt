use Rattle.std.proofs.Common.{◌≡◌, ◌++◌, take, drop}
use Rattle.cl_lines.specs.Comments.{without_comment}
use Rattle.cl_lines.proofs.comment.cut_comment.Given as goal

abbrev pub invariant-loop-i : goal.invariant-loop-i
invariant-loop-i l = without_comment l.line ≡ take l.i l.line ++ without_comment (drop l.i l.line)
