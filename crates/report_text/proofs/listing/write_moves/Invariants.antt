use Rattle.std.proofs.Common.{◌≡◌, ◌+◌, ◌++◌, drop}
use Rattle.report_text.specs.Listing.{move_lines}
use Rattle.report_text.proofs.listing.write_moves.Given as goal

abbrev pub invariant-loop-before : goal.invariant-loop-before
invariant-loop-before l = l.page ++ move_lines (l.before + 1) (drop l.before l.moves) ≡ l.fn.page ++ move_lines 1 l.moves
